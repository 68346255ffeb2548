use Rattle.std.proofs.Common.{rules, ℕ, ◌≡◌, length, arith, refl, sym, ◌∙◌}
use Rattle.std.proofs.lemmas.List.{length-replicate}
use Rattle.std.proofs.lemmas.Result.{err_from_is_err_and}
use Rattle.sshkey_base.specs.Causes.{same_cause}
use Rattle.sshkey_base.proofs.Steps.{front_reads}
use Rattle.sshkey_model.specs.KeyPairs.{at_width}
use Rattle.sshkey_base.proofs.FixedWidth.{few_digits, put_width, put_full, short_taken, short_refused, full_taken}
use Rattle.sshkey_base.proofs.mpint.fixed_width.digits_from.Goals.{else-len-via-then-len+else-not-is_natural, else-len-via-else-len}
use Rattle.sshkey_base.proofs.mpint.fixed_width.digits_from.Goals as goal

pub returns-in_err-read-clause-gives : goal.returns-in_err-read-clause-gives
returns-in_err-read-clause-gives g c =
    let p = err_from_is_err_and c.from_residual.result c.from_residual.ensures.1 in
    rw (p.1, p.2, same_cause) (few_digits g.row.SIZE c.args.len _ c.read.new.buffer _ (search rules) c.in_err-read.ensures.takes)

pub returns-then-not-is_natural-clause-gives : goal.returns-then-not-is_natural-clause-gives
returns-then-not-is_natural-clause-gives g c =
    let len : length c.read.new.buffer ≡ c.args.len = search rules in
    let r = front_reads c.args.len _ _ _ len c.in_ok-read.ensures.takes in
    let e = short_refused g.row.SIZE c.read.new.buffer (omega (arith, c.if-len.true)) (sym c.is_natural.ensures ∙ c.if-not-is_natural.true) in
    record { met = _; is = rw (r.value, e) refl; same = λ _. refl }

pub returns-clause-gives : goal.returns-clause-gives
returns-clause-gives g c =
    let len : length c.read.new.buffer ≡ c.args.len = search rules in
    let r = front_reads c.args.len _ _ _ len c.in_ok-read.ensures.takes in
    elim c.else-len.branch [
      | else-len-via-then-len+else-not-is_natural w ↦
          let e = short_taken g.row.SIZE c.read.new.buffer (omega (arith, w.if-len.true)) (sym w.is_natural.ensures ∙ w.if-not-is_natural.false) in
          let is : at_width g.row.SIZE c.read.new.buffer ≡ c.else-len.number = sym (w.number-is ∙ rw (← len) (put_width g.row.SIZE _ c.read.new.buffer (omega arith) (omega (arith, length-replicate {A = ℕ} g.row.SIZE 0)))) in
          record { value = rw (r.value, e, is) refl; missing = r.missing; outer = r.outer }
      | else-len-via-else-len w ↦
          let e = full_taken g.row.SIZE c.read.new.buffer (omega (arith, w.if-len.false)) in
          let is : c.read.new.buffer ≡ c.else-len.number = sym (w.number-is ∙ rw (← len) (put_full g.row.SIZE _ c.read.new.buffer (omega (arith, w.if-len.false)) (omega (arith, length-replicate {A = ℕ} g.row.SIZE 0)))) in
          record { value = rw (r.value, e, is) refl; missing = r.missing; outer = r.outer }
    ]
