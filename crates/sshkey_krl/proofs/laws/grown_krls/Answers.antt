use Rattle.std.proofs.Common.{◌≡◌, Bool, true, false, ◌||◌, [], ◌∷◌, refl}
use Rattle.std.specs.List.{list_any}
use Rattle.std.proofs.lemmas.List.Folds.{list_any-append}
use Rattle.sshkey_krl.specs.Revocation.{has_key, lists}
use Rattle.sshkey_krl.proofs.Krls.{of_both}
use Rattle.sshkey_krl.proofs.laws.grown_krls.Goals as goal

or_one : (a d : Bool) → (a || (d || false)) ≡ (a || d)
or_one true d = refl
or_one false true = refl
or_one false false = refl

pub returns-clause-keys : goal.returns-clause-keys
returns-clause-keys c = λ k s key. rw (list_any-append (has_key key) k.sections (s ∷ []), or_one (list_any (has_key key) k.sections) (has_key key s)) refl

pub returns-clause-certificates : goal.returns-clause-certificates
returns-clause-certificates c = λ k s key identity. rw (list_any-append (has_key key) k.sections (s ∷ []), list_any-append (has_key identity.signer) k.sections (s ∷ []), list_any-append (lists identity) k.sections (s ∷ []), or_one (list_any (has_key key) k.sections) (has_key key s), or_one (list_any (has_key identity.signer) k.sections) (has_key identity.signer s), or_one (list_any (lists identity) k.sections) (lists identity s)) (of_both (list_any (has_key key) k.sections) (list_any (has_key identity.signer) k.sections) (list_any (lists identity) k.sections) (has_key key s) (has_key identity.signer s) (lists identity s))
