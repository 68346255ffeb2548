-- ECDSA keys are equal exactly where they mean the same.
use Rattle.std.specs.Prelude.{◌≡◌, ℕ, List}
use Rattle.std.specs.Bool.{Decides}
use Rattle.std.specs.Cmp.{IsEquivalence, IsPartialEquivalence}
use Rattle.std.proofs.Common.{ap}
use Rattle.std.proofs.lemmas.Slice.Eq.{bytes_eq-Decides}
use Rattle.sshkey_model.specs.Names.{Curve, Nistp256, Nistp384, Nistp521}
use Rattle.sshkey_base.proofs.Equality.{decided_equivalence, decided_partial_equivalence}
use Rattle.sshkey_kinds.specs.declared.ecdsa.EcdsaPublicKey.{EcdsaPublicKey}
use Rattle.sshkey_kinds.specs.declared.ecdsa.EcdsaPublicKey.TheVariants.{NistP256, NistP384, NistP521}
use Rattle.sshkey_kinds.specs.EcdsaPublicKey.{ecdsa_of, same_key}

pub same_key_exact : (k l : EcdsaPublicKey) → Decides (same_key k l) (ecdsa_of k ≡ ecdsa_of l)
same_key_exact (NistP256 p) (NistP256 q) = (λ e. ap (λ (b : List ℕ). (Nistp256, b)) ((bytes_eq-Decides _ _).0 e), λ e. (bytes_eq-Decides _ _).1 (ap (λ (x : Curve × List ℕ). x.1) e))
same_key_exact (NistP384 p) (NistP384 q) = (λ e. ap (λ (b : List ℕ). (Nistp384, b)) ((bytes_eq-Decides _ _).0 e), λ e. (bytes_eq-Decides _ _).1 (ap (λ (x : Curve × List ℕ). x.1) e))
same_key_exact (NistP521 p) (NistP521 q) = (λ e. ap (λ (b : List ℕ). (Nistp521, b)) ((bytes_eq-Decides _ _).0 e), λ e. (bytes_eq-Decides _ _).1 (ap (λ (x : Curve × List ℕ). x.1) e))
same_key_exact k l = (λ e. absurd cc, λ e. absurd (cc (ap (λ (x : Curve × List ℕ). x.0) e)))

pub same_key_equivalence : IsEquivalence same_key
same_key_equivalence = decided_equivalence ecdsa_of same_key same_key_exact

pub same_key_partial_equivalence : IsPartialEquivalence same_key
same_key_partial_equivalence = decided_partial_equivalence ecdsa_of same_key same_key_exact
