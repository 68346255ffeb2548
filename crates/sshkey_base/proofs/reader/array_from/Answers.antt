use Rattle.std.proofs.Common.{rules, ◌≡◌, length}
use Rattle.std.proofs.lemmas.Result.{err_from_is_err_and}
use Rattle.sshkey_base.proofs.Steps.{few_refused, front_reads}
use Rattle.sshkey_base.proofs.reader.array_from.Goals as goal

pub returns-in_err-read-clause-gives : goal.returns-in_err-read-clause-gives
returns-in_err-read-clause-gives g c =
    let p = err_from_is_err_and c.from_residual.result c.from_residual.ensures.1 in
    let len : length c.read.new.buffer ≡ g.row.N = search rules in
    rw (p.1, p.2) (few_refused g.row.N (g.R.Reader.source c.args.reader.now) c.in_err-read.field-0.0 (rw (← len) c.in_err-read.ensures.takes))

pub returns-clause-gives : goal.returns-clause-gives
returns-clause-gives g c =
    let len : length c.read.new.buffer ≡ g.row.N = search rules in
    front_reads g.row.N (g.R.Reader.source c.args.reader.now) (g.R.Reader.source c.read.new.self) c.read.new.buffer len c.in_ok-read.ensures.takes
