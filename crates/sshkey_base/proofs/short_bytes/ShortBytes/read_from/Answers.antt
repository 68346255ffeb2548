use Rattle.std.proofs.Common.{rules, ◌≡◌, length, arith, refl}
use Rattle.std.proofs.lemmas.Result.{err_from_is_err_and}
use Rattle.std.proofs.lemmas.List.{take_at}
use Rattle.sshkey_base.specs.declared.encoding.Error.TheVariants.{Length}
use Rattle.sshkey_base.proofs.Steps.{few_refused, front_reads, refuses_first}
use Rattle.sshkey_base.proofs.ShortStrings.{long_refused, short_reads}
use Rattle.sshkey_base.proofs.short_bytes.ShortBytes.read_from.Goals.{then-len-via-else-len+then-remaining_len-len, then-len-via-then-len}
use Rattle.sshkey_base.proofs.short_bytes.ShortBytes.read_from.Goals as goal

pub returns-then-len-clause-gives : goal.returns-then-len-clause-gives
returns-then-len-clause-gives g c = elim c.then-len.branch [
  | then-len-via-then-len w ↦ long_refused g.row.MAX c.args.len (g.R.Reader.source c.args.reader.now) (omega arith)
  | then-len-via-else-len+then-remaining_len-len w ↦ refuses_first _ _ _ _ (few_refused c.args.len (g.R.Reader.source c.args.reader.now) Length (record { few = omega arith; sound = λ _. refl }))
]

pub returns-in_err-read-clause-gives : goal.returns-in_err-read-clause-gives
returns-in_err-read-clause-gives g c =
    let p = err_from_is_err_and c.from_residual.result c.from_residual.ensures.1 in
    let len : length c.read.new.buffer ≡ c.args.len = search rules in
    rw (p.1, p.2) (refuses_first _ _ _ _ (few_refused c.args.len (g.R.Reader.source c.args.reader.now) c.in_err-read.field-0.0 (rw (← len) c.in_err-read.ensures.takes)))

pub returns-clause-gives : goal.returns-clause-gives
returns-clause-gives g c =
    let len : length c.read.new.buffer ≡ c.args.len = search rules in
    let r = short_reads g.row.MAX c.args.len (g.R.Reader.source c.args.reader.now) (g.R.Reader.source c.read.new.self) c.read.new.buffer (omega arith) len (front_reads c.args.len (g.R.Reader.source c.args.reader.now) (g.R.Reader.source c.read.new.self) c.read.new.buffer len c.in_ok-read.ensures.takes) in
    record { value = rw (take_at c.read.new.buffer _ c.args.len len) r.value; missing = r.missing; outer = r.outer }

pub returns-then-len-clause-plain : goal.returns-then-len-clause-plain
returns-then-len-clause-plain g c = λ within. elim c.then-len.branch [
  | then-len-via-then-len w ↦ absurd (omega arith)
  | then-len-via-else-len+then-remaining_len-len w ↦ few_refused c.args.len (g.R.Reader.source c.args.reader.now) Length (record { few = omega arith; sound = λ _. refl })
]

pub returns-in_err-read-clause-plain : goal.returns-in_err-read-clause-plain
returns-in_err-read-clause-plain g c = λ within.
    let p = err_from_is_err_and c.from_residual.result c.from_residual.ensures.1 in
    let len : length c.read.new.buffer ≡ c.args.len = search rules in
    rw (p.1, p.2) (few_refused c.args.len (g.R.Reader.source c.args.reader.now) c.in_err-read.field-0.0 (rw (← len) c.in_err-read.ensures.takes))

pub returns-clause-plain : goal.returns-clause-plain
returns-clause-plain g c = λ within.
    let len : length c.read.new.buffer ≡ c.args.len = search rules in
    let r = front_reads c.args.len (g.R.Reader.source c.args.reader.now) (g.R.Reader.source c.read.new.self) c.read.new.buffer len c.in_ok-read.ensures.takes in
    record { value = rw (take_at c.read.new.buffer _ c.args.len len) r.value; missing = r.missing; outer = r.outer }
