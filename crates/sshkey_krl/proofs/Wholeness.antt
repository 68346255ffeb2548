-- What revokes a key revokes each certificate of it.
use Rattle.std.proofs.Common.{◌≡◌, ℕ, List, [], ◌∷◌, Bool, true, false, ◌||◌, Result, Ok, Err, refl}
use Rattle.std.specs.List.{list_any}
use Rattle.sshkey_krl.specs.Revocation.{CertificateIdentity, Krl, revokes, revokes_key}
use Rattle.sshkey_krl.specs.Revocations.{unless_read}

pub first_of : (p q : Bool) → p ≡ true → (p || q) ≡ true
first_of true q e = refl
first_of false q e = absurd cc

second_of : (p q : Bool) → q ≡ true → (p || q) ≡ true
second_of true q e = refl
second_of false q e = e

pub list_whole : (k : Krl) (key : List ℕ) (asked : CertificateIdentity) → revokes_key k key ≡ true → revokes k key asked ≡ true
list_whole k key asked e = first_of (revokes_key k key) _ e

module _ {R : Type 0} (one : R → List ℕ → Bool) (all : R → List ℕ → CertificateIdentity → Bool) (each : (r : R) (key : List ℕ) (asked : CertificateIdentity) → one r key ≡ true → all r key asked ≡ true) where
  pub read_whole : {E : Type 0} (read : Result R E) (key : List ℕ) (asked : CertificateIdentity) → unless_read (λ r. one r key) read ≡ true → unless_read (λ r. all r key asked) read ≡ true
  read_whole (Ok r) key asked e = each r key asked e
  read_whole (Err f) key asked e = refl

  pub any_whole : (rs : List R) (key : List ℕ) (asked : CertificateIdentity) → list_any (λ r. one r key) rs ≡ true → list_any (λ r. all r key asked) rs ≡ true
  any_whole [] key asked e = e
  any_whole (r ∷ rs) key asked e = go (one r key) refl e (any_whole rs key asked)
    where
      go : (first : Bool) → one r key ≡ first → (first || list_any (λ r. one r key) rs) ≡ true → (list_any (λ r. one r key) rs ≡ true → list_any (λ r. all r key asked) rs ≡ true) → (all r key asked || list_any (λ r. all r key asked) rs) ≡ true
      go true h e rest = rw (each r key asked h) refl
      go false h e rest = second_of (all r key asked) (list_any (λ r. all r key asked) rs) (rest e)
