use Rattle.std.proofs.Common.{rules, ◌≡◌, ◌+◌, ◌-◌, ◌≤◌, length, arith, refl}
use Rattle.std.proofs.lemmas.Result.{err_from_is_err_and}
use Rattle.sshkey_base.specs.declared.encoding.Error.TheVariants.{Length}
use Rattle.sshkey_base.proofs.NameStrings.{none_passed, few_passed, passed_more, passed_reads}
use Rattle.sshkey_base.proofs.Places.{later_then, later_advanced}
use Rattle.sshkey_base.proofs.name_bytes.pass.Goals as goal

pub returns-then-remaining_len-len-clause-gives : goal.returns-then-remaining_len-len-clause-gives
returns-then-remaining_len-len-clause-gives g c = none_passed c.args.len (g.R.Reader.source c.args.reader.now) Length (record { few = omega arith; sound = λ _. refl })

pub returns-in_err-read-clause-gives : goal.returns-in_err-read-clause-gives
returns-in_err-read-clause-gives g c =
    let p = err_from_is_err_and c.from_residual.result c.from_residual.ensures.1 in
    let size : length c.read.new.buffer ≡ c.min-count.result = search rules in
    let within : c.passes.rest ≤ c.args.len = c.passes.invariant.0 in
    rw (p.1, p.2) (few_passed (c.args.len - c.passes.rest) c.args.len (length c.read.new.buffer) _ _ c.in_err-read.field-0.0 c.passes.invariant.1 c.in_err-read.ensures.takes (omega arith))

pub returns-in_err-read-clause-later : goal.returns-in_err-read-clause-later
returns-in_err-read-clause-later g c = later_then _ _ _ (later_advanced _ _ _ c.passes.invariant.1.advanced) c.in_err-read.ensures.later

pub passes-preserved : goal.passes-preserved
passes-preserved g c =
    let size : length c.read.new.buffer ≡ c.min-count.result = search rules in
    let within : c.passes.rest ≤ c.args.len = c.passes.invariant.0 in
    let sum : c.args.len - (c.passes.rest - c.min-count.result) ≡ (c.args.len - c.passes.rest) + c.min-count.result = omega arith in
    (omega arith, rw sum (passed_more (c.args.len - c.passes.rest) c.min-count.result _ _ _ c.read.new.buffer c.passes.invariant.1 size c.in_ok-read.ensures.takes))

pub returns-clause-gives : goal.returns-clause-gives
returns-clause-gives g c =
    let all : c.args.len - c.passes.rest ≡ c.args.len = omega arith in
    passed_reads c.args.len _ _ (rw all at c.passes.invariant.1)
