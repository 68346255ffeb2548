-- Names are short.
use Rattle.std.proofs.Common.{◌≡◌, ℕ, suc, ◌+◌, ◌≤◌, Option, Some, true, nat_le, is_none, ◌&&◌, List, ◌∷◌, ◌++◌, length, ap, ◌∙◌, arith, leb-true}
use Rattle.std.proofs.lemmas.Bool.{and_parts}
use Rattle.std.proofs.lemmas.List.{length-append}
use Rattle.sshkey_model.specs.Names.{Nistp256, Sha256, Algorithm, Ecdsa, Rsa, Other, cut, at_sign, are_ascii, is_split, is_own_name, is_other_name, named, algorithm_name, algorithms, IsAlgorithm}
use Rattle.sshkey_model.specs.CertificateNames.{suffix, with_suffix, certificate_name, IsCertified}
use Rattle.sshkey_model.proofs.CertificateNameReaders.{cut_parts, own_parts}

-- a private-use name is ASCII and short
pub other_parts : (n : List ℕ) → is_other_name n ≡ true → (are_ascii n ≡ true) × (length n ≤ 64)
unfolding is_other_name is_own_name
other_parts n is =
    let own = (and_parts (is_own_name n) (is_none (named algorithm_name algorithms n)) is).0 in
    let both = (and_parts (are_ascii n && nat_le (length n) 64) (is_split (cut n)) own).0 in
    let p = and_parts (are_ascii n) (nat_le (length n) 64) both in
    (p.0, leb-true (length n) 64 p.1)

pub short_name : (a : Algorithm) → IsAlgorithm a → length (algorithm_name a) ≤ 73
short_name (Ecdsa Nistp256) is = omega arith
short_name (Rsa (Some Sha256)) is = omega arith
short_name (Other n) is = omega (arith, (other_parts n is).1)
short_name _ is = omega arith

pub short_certificate_name : (a : Algorithm) → IsCertified a → length (certificate_name a) ≤ 73
short_certificate_name (Ecdsa Nistp256) is = omega arith
short_certificate_name (Other n) is =
    let p = own_parts n is.0 in
    let whole_ : length n ≡ length p.0.0 + suc (length p.0.1) = ap length (cut_parts n p.0 p.1).0 ∙ length-append p.0.0 (at_sign ∷ p.0.1) in
    let written : length (with_suffix (cut n) n) ≡ length ((p.0.0 ++ suffix) ++ at_sign ∷ p.0.1) = ap (λ (o : Option (List ℕ × List ℕ)). length (with_suffix o n)) p.1 in
    omega (arith, (other_parts n is.0).1, whole_, written, length-append (p.0.0 ++ suffix) (at_sign ∷ p.0.1), length-append p.0.0 suffix)
short_certificate_name _ is = omega arith
