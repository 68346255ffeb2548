-- Where a text is cut at its first at sign.
use Rattle.std.proofs.Common.{◌≡◌, ◌≢◌, ℕ, ◌+◌, ◌<◌, Option, Some, None, MatchOption, List, [], ◌∷◌, ◌++◌, length, get_or, refl, ap, ◌∙◌, arith, add-one}
use Rattle.std.proofs.lemmas.Bool.{ne_eqb}
use denote.Ref.{Bor}
use Rattle.sshkey_model.specs.Names.{at_sign, cut}
use Rattle.sshkey_model.specs.CertificateNames.{suffix}
use Rattle.sshkey_model.proofs.CertificateNameReaders.{suffix_before}
use Rattle.sshkey_base.specs.AlgorithmName.{IsCutOf}

-- no at sign stands in the text
abbrev pub HasNone : List ℕ → Type 0
HasNone t = (i : ℕ) → i < length t → get_or t i 0 ≢ at_sign

pub cut-none : (t : List ℕ) → HasNone t → cut t ≡ None
cut-none [] none = refl
cut-none (c ∷ t) none =
    let later : cut t ≡ None = cut-none t (λ i within same. none (i + 1) (omega arith) (rw add-one same)) in
    rw (ne_eqb c at_sign (none 0 (omega arith)), later) refl

pub cut-at : (l r : List ℕ) → cut l ≡ None → cut (l ++ at_sign ∷ r) ≡ Some (l, r)
cut-at l r none = (suffix_before l r none).0

pub cut-suffixed : (l r : List ℕ) → cut l ≡ None → cut (l ++ suffix ++ at_sign ∷ r) ≡ Some (l ++ suffix, r)
cut-suffixed l r none = (suffix_before l r none).1

-- what `split_once` says of its result
pub is_cut : (t : List ℕ) (result : Option (Bor (List ℕ) × Bor (List ℕ))) → MatchOption result (HasNone t) (λ p. (t ≡ p.0.now ++ (at_sign ∷ p.1.now)) × HasNone p.0.now) → IsCutOf t result
is_cut t None none = cut-none t none
is_cut t (Some p) parts = ap cut parts.0 ∙ cut-at p.0.now p.1.now (cut-none p.0.now parts.1)
