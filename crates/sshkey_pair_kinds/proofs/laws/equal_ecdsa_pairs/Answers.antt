use Rattle.std.proofs.Common.{◌≡◌, ℕ, List, refl}
use Rattle.std.proofs.lemmas.Bool.Decides.{Decides-and, Decides-like}
use Rattle.std.proofs.lemmas.Slice.Eq.{bytes_eq-Decides}
use Rattle.sshkey_base.proofs.Comparisons.{apart_by}
use Rattle.sshkey_model.specs.Names.{Curve, Nistp256, Nistp384, Nistp521}
use Rattle.sshkey_model.specs.KeyPairs.{KeyPair, EcdsaPair}
use Rattle.sshkey_pair_kinds.specs.Pairs.{ecdsa_pair_of}
use Rattle.sshkey_pair_kinds.specs.declared.ecdsa.EcdsaKeypair.TheVariants as on
use Rattle.sshkey_pair_kinds.proofs.laws.equal_ecdsa_pairs.Goals as goal

together : (c : Curve) (a b r s : List ℕ) → (a ≡ b) × (r ≡ s) → EcdsaPair c a r ≡ EcdsaPair c b s
together c a b r s same = λ i. EcdsaPair c (same.0 i) (same.1 i)

parts : (c : Curve) (a b r s : List ℕ) → EcdsaPair c a r ≡ EcdsaPair c b s → (a ≡ b) × (r ≡ s)
parts c a b r s same = (cc, cc)

-- the place of a pair's curve in the list of curves
abbrev place : KeyPair → ℕ
place (EcdsaPair Nistp256 a r) = 1
place (EcdsaPair Nistp384 a r) = 2
place (EcdsaPair Nistp521 a r) = 3
place _ = 0

pub returns : goal.returns
returns c (on.NistP256 p a) (on.NistP256 q b) = Decides-like _ (together Nistp256 _ _ _ _) (parts Nistp256 _ _ _ _) (Decides-and _ _ (bytes_eq-Decides _ _) (bytes_eq-Decides _ _))
returns c (on.NistP384 p a) (on.NistP384 q b) = Decides-like _ (together Nistp384 _ _ _ _) (parts Nistp384 _ _ _ _) (Decides-and _ _ (bytes_eq-Decides _ _) (bytes_eq-Decides _ _))
returns c (on.NistP521 p a) (on.NistP521 q b) = Decides-like _ (together Nistp521 _ _ _ _) (parts Nistp521 _ _ _ _) (Decides-and _ _ (bytes_eq-Decides _ _) (bytes_eq-Decides _ _))
returns c x y = apart_by place (ecdsa_pair_of x) (ecdsa_pair_of y) refl
