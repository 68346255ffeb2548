use Rattle.std.proofs.Common.{rules, ◌≡◌, length, arith, refl, suc}
use Rattle.std.proofs.lemmas.Result.{err_from_is_err_and}
use Rattle.sshkey_base.specs.Causes.{same_cause}
use Rattle.sshkey_base.proofs.FixedWidth.{no_sign, few_after, both_read, sign_taken, sign_refused}
use Rattle.sshkey_base.proofs.mpint.fixed_width.signed_from.Goals as goal

pub returns-in_err-read-clause-gives : goal.returns-in_err-read-clause-gives
returns-in_err-read-clause-gives g c =
    let p = err_from_is_err_and c.from_residual.result c.from_residual.ensures.1 in
    rw (p.1, p.2, same_cause) (no_sign g.row.SIZE _ c.read.new.buffer _ (search rules) c.in_err-read.ensures.takes)

pub returns-in_err-read-2-clause-gives : goal.returns-in_err-read-2-clause-gives
returns-in_err-read-2-clause-gives g c =
    let p = err_from_is_err_and c.from_residual-in_err-read-2.result c.from_residual-in_err-read-2.ensures.1 in
    rw (p.1, p.2, same_cause) (few_after g.row.SIZE _ _ c.read.new.buffer c.read-2.new.buffer _ (search rules) (search rules) c.in_ok-read.ensures.takes c.in_err-read-2.ensures.takes)

pub returns-then-sign-ne0-clause-gives : goal.returns-then-sign-ne0-clause-gives
returns-then-sign-ne0-clause-gives g c =
    let one : length c.read.new.buffer ≡ 1 = search rules in
    let len : length c.read-2.new.buffer ≡ g.row.SIZE = search rules in
    let e = sign_refused g.row.SIZE c.read.new.buffer c.read-2.new.buffer one len c.if-sign-ne0.true in
    let r = both_read (suc g.row.SIZE) _ _ _ _ _ (omega arith) c.in_ok-read.ensures.takes c.in_ok-read-2.ensures.takes in
    record { met = _; is = rw (r.value, e) refl; same = λ _. refl }

pub returns-clause-gives : goal.returns-clause-gives
returns-clause-gives g c =
    let one : length c.read.new.buffer ≡ 1 = search rules in
    let len : length c.read-2.new.buffer ≡ g.row.SIZE = search rules in
    let e = sign_taken g.row.SIZE c.read.new.buffer c.read-2.new.buffer one len c.if-sign-ne0.false in
    let r = both_read (suc g.row.SIZE) _ _ _ _ _ (omega arith) c.in_ok-read.ensures.takes c.in_ok-read-2.ensures.takes in
    record { value = rw (r.value, e) refl; missing = r.missing; outer = r.outer }
