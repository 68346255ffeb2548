use Rattle.std.proofs.Common.{◌≡◌, zero, suc, [], true, false, arith, refl}
use Rattle.std.specs.Int.Count.{count_leading_zeros}
use Rattle.std.specs.Prelude.{codes}
use Rattle.std.proofs.lemmas.List.Elements.{All-cons, All-nil}
use Rattle.sshkey_model.specs.Lines.{IsWithout}
use Rattle.sshkey_revoked_keys.proofs.examples.read_keys.Goals as goal

never : false ≡ true → ⊥
never e = absurd cc

id_is_read : IsWithout 0 (codes "id")
id_is_read zero l e = cc e
id_is_read (suc zero) l e = cc e
id_is_read (suc (suc i)) l e = omega (arith, l)

root_is_read : IsWithout 0 (codes "root")
root_is_read zero l e = cc e
root_is_read (suc zero) l e = cc e
root_is_read (suc (suc zero)) l e = cc e
root_is_read (suc (suc (suc zero))) l e = cc e
root_is_read (suc (suc (suc (suc i)))) l e = omega (arith, l)

pub returns : goal.returns
unfolding count_leading_zeros
returns c = (
  refl,
  (λ is. never is),
  record { key = refl; signer = refl; key_id = id_is_read; principals = record { few = omega arith; no_zero = All-cons (IsWithout 0) (codes "root") [] root_is_read (All-nil (IsWithout 0)) } },
  (λ is. never is.key),
  (λ is. never is.signer),
  (λ is. is.key_id 1 (omega arith) refl),
  (λ is. is.principals.no_zero 0 [] (omega arith) 2 (omega arith) refl),
)
