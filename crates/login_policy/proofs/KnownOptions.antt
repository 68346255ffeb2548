-- What a walk over options decides, and what one option is.
use denote.Ref.{Bor}
use Rattle.std.proofs.Common.{◌≡◌, ◌≢◌, ◌↔◌, ◌||◌, ℕ, zero, suc, List, [], ◌∷◌, length, Bool, true, false, arith, map, bytes_eq, refl, subst, sym, ◌∙◌, IsTrue}
use Rattle.std.specs.Prelude.{◌==◌, All, Contains}
use Rattle.std.specs.List.{list_any}
use Rattle.std.proofs.lemmas.List.Elements.{All-cons, All-head, All-tail}
use Rattle.std.proofs.lemmas.Map.Views.{Contains-from_any}
use Rattle.std.proofs.lemmas.Slice.Eq.{bytes_eq-Decides}
use Rattle.sshkey_matching.specs.SourceAddresses.{IsNetworks}
use Rattle.sshkey_model.specs.Options.{CertificateOption}
use Rattle.login_policy.specs.KnownOptions.{Addresses, Command, IsArgument, IsEmptyIfFlag, IsKnownOption, Verification, flags, force_command, source_address, verify_required}

-- ---- a walk

-- What is left decides.
abbrev pub Decides : (CertificateOption → Type 0) → List CertificateOption → List CertificateOption → Type 0
Decides P all left = All P all ↔ All P left

pub passed : (P : CertificateOption → Type 0) (all left rest : List CertificateOption) (o : CertificateOption) → Decides P all left → left ≡ o ∷ rest → P o → Decides P all rest
passed P all left rest o decides is holds = (
  λ each. All-tail P o rest (subst (λ (os : List CertificateOption). All P os) is (decides.0 each)),
  λ others. decides.1 (subst (λ (os : List CertificateOption). All P os) (sym is) (All-cons P o rest holds others)),
)

pub stopped : (P : CertificateOption → Type 0) (all left rest : List CertificateOption) (o : CertificateOption) → Decides P all left → left ≡ o ∷ rest → (P o → ⊥) → All P all → ⊥
stopped P all left rest o decides is fails each = fails (All-head P o rest (subst (λ (os : List CertificateOption). All P os) is (decides.0 each)))

-- ---- one option

other : false ≡ true → ⊥
other same = cc

pub filled : (value : List ℕ) (empty : Bool) → empty ≡ (length value == 0) → empty ≡ false → value ≢ []
filled [] empty judged some = λ none. cc
filled (x ∷ value) empty judged some = λ none. cc

pub differ : (a b : List ℕ) → bytes_eq a b ≡ false → a ≡ b → ⊥
differ a b unequal same = other (sym unequal ∙ (bytes_eq-Decides a b).1 same)

no_command : force_command ≡ verify_required → ⊥
no_command = differ force_command verify_required refl

no_list : force_command ≡ source_address → ⊥
no_list = differ force_command source_address refl

no_addresses : source_address ≡ verify_required → ⊥
no_addresses = differ source_address verify_required refl

pub command : (o : CertificateOption) (r : Bool) → o.name ≡ force_command → (IsTrue r ↔ IsArgument o.value) → IsTrue r ↔ IsKnownOption o
command o r is judged = (
  λ yes. Command is (judged.0 yes),
  λ known. judged.1 (elim known [
    | Command same given ↦ given
    | Addresses same given ↦ absurd (no_list (sym is ∙ same))
    | Verification same nothing ↦ absurd (no_command (sym is ∙ same))
  ]),
)

pub addresses : (o : CertificateOption) (r : Bool) → o.name ≡ source_address → (IsTrue r ↔ IsNetworks o.value) → IsTrue r ↔ IsKnownOption o
addresses o r is judged = (
  λ yes. Addresses is (record { networks = judged.0 yes }),
  λ known. judged.1 (elim known [
    | Command same given ↦ absurd (no_list (sym same ∙ is))
    | Addresses same given ↦ given.networks
    | Verification same nothing ↦ absurd (no_addresses (sym is ∙ same))
  ]),
)

pub verification : (o : CertificateOption) (r : Bool) → o.name ≡ verify_required → (IsTrue r ↔ (o.value ≡ [])) → IsTrue r ↔ IsKnownOption o
verification o r is judged = (
  λ yes. Verification is (judged.0 yes),
  λ known. judged.1 (elim known [
    | Command same given ↦ absurd (no_command (sym same ∙ is))
    | Addresses same given ↦ absurd (no_addresses (sym same ∙ is))
    | Verification same nothing ↦ nothing
  ]),
)

pub unknown : (o : CertificateOption) → (o.name ≡ force_command → ⊥) → (o.name ≡ source_address → ⊥) → (o.name ≡ verify_required → ⊥) → IsTrue false ↔ IsKnownOption o
unknown o first second third = (
  λ yes. absurd cc,
  λ known. absurd (elim known [
    | Command same given ↦ first same
    | Addresses same given ↦ second same
    | Verification same nothing ↦ third same
  ]),
)

-- ---- flags

pub flag : (o : CertificateOption) (named r : Bool) → named ≡ list_any (bytes_eq o.name) flags → named ≡ true → (IsTrue r ↔ (o.value ≡ [])) → IsTrue r ↔ IsEmptyIfFlag o
flag o named r judged is empty = (λ yes among. empty.0 yes, λ fits. empty.1 (fits (Contains-from_any {eq = bytes_eq} (λ x y. (bytes_eq-Decides x y).0) o.name flags (sym judged ∙ is))))

either_true : (b : Bool) → (b || true) ≡ true
either_true true = refl
either_true false = refl

-- a name that stands in the list is found there
pub found : (name : List ℕ) (names : List (List ℕ)) → Contains names name → list_any (bytes_eq name) names ≡ true
found name [] (k, below, is) = absurd (omega (arith, below))
found name (n ∷ names) (zero, below, is) = rw ((bytes_eq-Decides name n).1 (sym is)) refl
found name (n ∷ names) (suc k, below, is) = rw (found name names (k, omega (arith, below), is)) (either_true (bytes_eq name n))

pub no_flag : (o : CertificateOption) (named : Bool) → named ≡ list_any (bytes_eq o.name) flags → named ≡ false → IsTrue true ↔ IsEmptyIfFlag o
no_flag o named judged is = (λ yes among. absurd (other (sym is ∙ judged ∙ found o.name flags among)), λ fits. refl)

pub nothing : (value : List ℕ) (empty : Bool) → empty ≡ (length value == 0) → IsTrue empty ↔ (value ≡ [])
nothing [] empty judged = (λ yes. refl, λ none. judged)
nothing (x ∷ value) empty judged = (λ yes. let none_long : length (x ∷ value) ≡ 0 = grind arith in absurd (omega (arith, none_long)), λ none. absurd cc)

pub among_texts : (names : List (Bor (List ℕ))) (name : List ℕ) → list_any (bytes_eq name) (map (λ n. n.now) names) ≡ list_any (λ known. bytes_eq name known.now) names
among_texts [] name = refl
among_texts (known ∷ names) name = rw (among_texts names name) refl
