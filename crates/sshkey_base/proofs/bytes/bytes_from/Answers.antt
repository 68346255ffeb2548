use Rattle.std.proofs.Common.{rules, ◌≡◌, [], length, arith, refl, take, drop, ◌++◌}
use Rattle.std.proofs.lemmas.Result.{err_from_is_err_and}
use Rattle.std.proofs.lemmas.List.{take_at}
use Rattle.sshkey_base.specs.declared.encoding.Error.TheVariants.{Length}
use Rattle.sshkey_base.proofs.Lending.{lent_front}
use Rattle.sshkey_base.proofs.Steps.{few_refused, front_reads, refuses_sound}
use Rattle.sshkey_base.proofs.Stopping.{refused_stopped}
use Rattle.sshkey_base.proofs.bytes.bytes_from.Goals as goal

pub returns-then-remaining_len-len-clause-gives : goal.returns-then-remaining_len-len-clause-gives
returns-then-remaining_len-len-clause-gives g c = refuses_sound _ _ _ (few_refused c.args.len (g.R.Reader.source c.args.reader.now) Length (record { few = omega arith; sound = λ _. refl }))

pub returns-then-len-eq0-clause-gives : goal.returns-then-len-eq0-clause-gives
returns-then-len-eq0-clause-gives g c =
    let none : c.args.len ≡ 0 = search rules in
    let empty : c.new.result.items ≡ [] = search rules in
    rw (none, empty) (lent_front 0 (g.R.Reader.source c.args.reader.now) [] (omega arith) refl refl)

pub returns-in_err-read-clause-gives : goal.returns-in_err-read-clause-gives
returns-in_err-read-clause-gives g c =
    let p = err_from_is_err_and c.from_residual-in_err-read.result c.from_residual-in_err-read.ensures.1 in
    let len : length c.read.new.buffer ≡ c.args.len = search rules in
    rw (p.1, p.2) (refuses_sound _ _ _ (few_refused c.args.len (g.R.Reader.source c.args.reader.now) c.in_err-read.field-0.0 (rw (← len) c.in_err-read.ensures.takes)))

pub returns-clause-gives : goal.returns-clause-gives
returns-clause-gives g c =
    let len : length c.read.new.buffer ≡ c.args.len = search rules in
    let all : take c.in_ok-bytes-2.bytes.len (c.read.new.buffer ++ drop (length c.read.new.buffer) c.in_ok-bytes-2.bytes.items) ≡ c.read.new.buffer = take_at c.read.new.buffer _ c.in_ok-bytes-2.bytes.len (search rules) in
    rw (c.into_inner.ensures, all) (front_reads c.args.len (g.R.Reader.source c.args.reader.now) (g.R.Reader.source c.read.new.self) c.read.new.buffer len c.in_ok-read.ensures.takes)

pub returns-then-remaining_len-len-clause-past : goal.returns-then-remaining_len-len-clause-past
returns-then-remaining_len-len-clause-past g c = refused_stopped _ _ _ _ (g.R.Reader.source c.args.reader.now) (few_refused c.args.len (g.R.Reader.source c.args.reader.now) Length (record { few = omega arith; sound = λ _. refl })) (λ o. refl)

pub returns-in_err-read-clause-past : goal.returns-in_err-read-clause-past
returns-in_err-read-clause-past g c =
    let p = err_from_is_err_and c.from_residual-in_err-read.result c.from_residual-in_err-read.ensures.1 in
    let len : length c.read.new.buffer ≡ c.args.len = search rules in
    rw (p.1, p.2) (refused_stopped _ _ _ _ (g.R.Reader.source c.args.reader.now) (few_refused c.args.len (g.R.Reader.source c.args.reader.now) c.in_err-read.field-0.0 (rw (← len) c.in_err-read.ensures.takes)) (λ o. absurd (omega (arith, o))))
