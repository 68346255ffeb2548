-- Names are ASCII, and what is no name is refused as such.
use Rattle.std.specs.Prelude.{◌≡◌, ℕ, List, true, nat_le, length, Option, Some, None, Ok, Err, refl}
use Rattle.std.proofs.Common.{inl, inr}
use Rattle.std.proofs.lemmas.Bool.{le-leb}
use Rattle.sshkey_model.specs.Parts.{Any}
use Rattle.sshkey_model.specs.Reading.{Fault, Label}
use Rattle.sshkey_model.specs.Names.{Curve, Nistp256, Hash, Sha256, Sha512, Algorithm, Ecdsa, Rsa, Other, curves, hashes, algorithms, curve_name, hash_name, algorithm_name, named, are_ascii, is_other_name, IsAlgorithm, or_label, algorithm_or, curve_from, hash_from, algorithm_from}
use Rattle.sshkey_model.proofs.CombinedReaders.{chosen}
use Rattle.sshkey_model.proofs.ShortNames.{other_parts, short_name}
use Rattle.sshkey_model.proofs.NameReaders.{curve_checks, hash_checks, algorithm_checks}

pub unlisted_label : {A : Type 0} (o : Option A) (fault : Fault) → or_label o ≡ Err fault → fault ≡ Label
unlisted_label (Some a) fault e = absurd cc
unlisted_label None fault e = cc

pub curve_ascii : (c : Curve) → Any c → are_ascii (curve_name c) ≡ true
curve_ascii Nistp256 is = refl
curve_ascii _ is = refl

pub curve_short : (c : Curve) → Any c → nat_le (length (curve_name c)) 73 ≡ true
curve_short Nistp256 is = refl
curve_short _ is = refl

pub curve_refusals : (t : List ℕ) (fault : Fault) → curve_from t ≡ Err fault → fault ≡ Label
curve_refusals t = unlisted_label (named curve_name curves t)

pub ruleset curve_names = (curve_checks, curve_ascii, curve_short, curve_refusals)

pub hash_ascii : (h : Hash) → Any h → are_ascii (hash_name h) ≡ true
hash_ascii Sha256 is = refl
hash_ascii Sha512 is = refl

pub hash_short : (h : Hash) → Any h → nat_le (length (hash_name h)) 73 ≡ true
hash_short Sha256 is = refl
hash_short Sha512 is = refl

pub hash_refusals : (t : List ℕ) (fault : Fault) → hash_from t ≡ Err fault → fault ≡ Label
hash_refusals t = unlisted_label (named hash_name hashes t)

pub ruleset hash_names = (hash_checks, hash_ascii, hash_short, hash_refusals)

pub algorithm_ascii : (a : Algorithm) → IsAlgorithm a → are_ascii (algorithm_name a) ≡ true
algorithm_ascii (Ecdsa Nistp256) is = refl
algorithm_ascii (Rsa (Some Sha256)) is = refl
algorithm_ascii (Other n) is = (other_parts n is).0
algorithm_ascii _ is = refl

pub algorithm_short : (a : Algorithm) → IsAlgorithm a → nat_le (length (algorithm_name a)) 73 ≡ true
algorithm_short a is = le-leb _ _ (short_name a is)

algorithm_unknown : (o : Option Algorithm) (t : List ℕ) (fault : Fault) → algorithm_or o t ≡ Err fault → fault ≡ Label
algorithm_unknown (Some a) t fault e = absurd cc
algorithm_unknown None t fault e =
    elim (chosen (is_other_name t) (Ok (Other t)) (Err Label) (Err fault) e) [
      | inl yes_ ↦ absurd (cc yes_.1)
      | inr no_ ↦ cc no_.1
    ]

pub algorithm_refusals : (t : List ℕ) (fault : Fault) → algorithm_from t ≡ Err fault → fault ≡ Label
algorithm_refusals t = algorithm_unknown (named algorithm_name algorithms t) t

pub ruleset algorithm_names = (algorithm_checks, algorithm_ascii, algorithm_short, algorithm_refusals)
