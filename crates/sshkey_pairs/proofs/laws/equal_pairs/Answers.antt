use Rattle.std.proofs.Common.{◌≡◌, ap, refl, List, ℕ, [], Bool, Option, Some, None, false, nat_eq}
use Rattle.std.specs.Bool.{Decides}
use Rattle.std.proofs.lemmas.Bool.Decides.{Decides-like}
use Rattle.std.proofs.lemmas.Slice.Eq.{bytes_eq-Decides}
use Rattle.sshkey_base.proofs.Comparisons.{apart_by}
use Rattle.sshkey_model.specs.Names.{Algorithm, algorithm_name}
use Rattle.sshkey_model.specs.KeyPairs.{KeyPair, DsaPair, EcdsaPair, Ed25519Pair, RsaPair, SkEcdsaPair, SkEd25519Pair, OpaquePair, pair_algorithm}
use Rattle.sshkey_pairs.specs.Keypairs.{pair_fields}
use Rattle.sshkey_pair_kinds.specs.Pairs.{ecdsa_pair_of}
use Rattle.sshkey_pair_kinds.specs.declared.ecdsa.EcdsaKeypair.{EcdsaKeypair}
use Rattle.sshkey_pair_kinds.specs.declared.ecdsa.EcdsaKeypair.TheVariants as on
use Rattle.sshkey_pairs.specs.declared.keypair_data.KeypairData.{KeypairData}
use Rattle.sshkey_pairs.specs.declared.keypair_data.KeypairData.TheVariants as kinds
use Rattle.sshkey_pairs.proofs.laws.equal_pairs.Goals as goal

abbrev Fields : Type 0
Fields = Option KeyPair × (Option Algorithm × List ℕ)

abbrev OpaqueFields : Type 0
OpaqueFields = (Algorithm × List ℕ) × List ℕ

-- those of a pair whose algorithm is its own
abbrev own : KeyPair → Fields
own p = (Some p, (Some (pair_algorithm p), []))

own_pair : (p q : KeyPair) → own p ≡ own q → p ≡ q
own_pair p q e = let s : Some p ≡ Some q = ap (λ (f : Fields). f.0) e in cc

own_decides : (b : Bool) (p q : KeyPair) → Decides b (p ≡ q) → Decides b (own p ≡ own q)
own_decides b p q d = Decides-like _ (ap own) (own_pair p q) d

-- those of a pair under a private-use name
abbrev opaque : OpaqueFields → Fields
opaque f = (Some (OpaquePair (algorithm_name f.0.0) f.0.1 f.1), (Some f.0.0, []))

opaque_parts : (f g : OpaqueFields) → opaque f ≡ opaque g → f ≡ g
opaque_parts f g e =
    let s : Some (OpaquePair (algorithm_name f.0.0) f.0.1 f.1) ≡ Some (OpaquePair (algorithm_name g.0.0) g.0.1 g.1) = ap (λ (h : Fields). h.0) e in
    let t : Some f.0.0 ≡ Some g.0.0 = ap (λ (h : Fields). h.1.0) e in
    let a : f.0.0 ≡ g.0.0 = cc in
    let b : f.0.1 ≡ g.0.1 = cc in
    let c : f.1 ≡ g.1 = cc in
    λ i. ((a i, b i), c i)

-- the place of a kind in the list of kinds
abbrev place_of : Option KeyPair → ℕ
place_of None = 0
place_of (Some (DsaPair k r)) = 1
place_of (Some (EcdsaPair c k r)) = 2
place_of (Some (Ed25519Pair k r)) = 3
place_of (Some (RsaPair k r)) = 4
place_of (Some (SkEcdsaPair k r)) = 5
place_of (Some (SkEd25519Pair k r)) = 6
place_of (Some (OpaquePair n k r)) = 7

abbrev place : Fields → ℕ
place f = place_of f.0

-- the same, told by the code's kinds
abbrev kind_of : KeypairData → ℕ
kind_of (kinds.Encrypted c) = 0
kind_of (kinds.Dsa k) = 1
kind_of (kinds.Ecdsa k) = 2
kind_of (kinds.Ed25519 k) = 3
kind_of (kinds.Rsa k) = 4
kind_of (kinds.SkEcdsaSha2NistP256 k) = 5
kind_of (kinds.SkEd25519 k) = 6
kind_of (kinds.Other k) = 7

ecdsa_place : (k : EcdsaKeypair) → place_of (Some (ecdsa_pair_of k)) ≡ 2
ecdsa_place (on.NistP256 p r) = refl
ecdsa_place (on.NistP384 p r) = refl
ecdsa_place (on.NistP521 p r) = refl

same_place : (k : KeypairData) → place (pair_fields k) ≡ kind_of k
same_place (kinds.Ecdsa k) = ecdsa_place k
same_place (kinds.Encrypted c) = refl
same_place (kinds.Dsa k) = refl
same_place (kinds.Ed25519 k) = refl
same_place (kinds.Rsa k) = refl
same_place (kinds.SkEcdsaSha2NistP256 k) = refl
same_place (kinds.SkEd25519 k) = refl
same_place (kinds.Other k) = refl

-- pairs of two kinds are not the same
apart : (k l : KeypairData) → nat_eq (kind_of k) (kind_of l) ≡ false → Decides false (pair_fields k ≡ pair_fields l)
apart k l e = apart_by place (pair_fields k) (pair_fields l) (rw (same_place k, same_place l) e)

pub returns : goal.returns
returns c (kinds.Dsa x) (kinds.Dsa y) = own_decides _ _ _ (c.equal_dsa_pairs.ensures x y)
returns c (kinds.Ecdsa x) (kinds.Ecdsa y) = own_decides _ _ _ (c.equal_ecdsa_pairs.ensures x y)
returns c (kinds.Ed25519 x) (kinds.Ed25519 y) = own_decides _ _ _ (c.equal_ed25519_pairs.ensures x y)
returns c (kinds.Encrypted x) (kinds.Encrypted y) = Decides-like _ (ap (λ (b : List ℕ). (None, (None, b)))) (ap (λ (f : Fields). f.1.1)) (bytes_eq-Decides _ _)
returns c (kinds.Rsa x) (kinds.Rsa y) = own_decides _ _ _ (c.equal_rsa_pairs.ensures x y)
returns c (kinds.SkEcdsaSha2NistP256 x) (kinds.SkEcdsaSha2NistP256 y) = own_decides _ _ _ (c.equal_sk_ecdsa_pairs.ensures x y)
returns c (kinds.SkEd25519 x) (kinds.SkEd25519 y) = own_decides _ _ _ (c.equal_sk_ed25519_pairs.ensures x y)
returns c (kinds.Other x) (kinds.Other y) = Decides-like _ (ap opaque) (opaque_parts _ _) (c.equal_opaque_pairs.ensures x y)
returns c x y = apart x y refl
