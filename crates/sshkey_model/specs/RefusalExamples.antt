-- Worked examples: what is wrong with a certificate, and whom it allows.
use Rattle.std.specs.Prelude.{◌≡◌, ℕ, ◌-◌, ◌^◌, List, [], ◌∷◌, replicate, Bool, true, false, Option, Some, None, codes}
use Rattle.sshkey_model.specs.Names.{Sha256}
use Rattle.sshkey_model.specs.Certificates.{Certificate}
use Rattle.sshkey_model.specs.Fingerprints.{Fingerprint}
use Rattle.sshkey_model.specs.Refusals.{Refusal, NotSigned, UntrustedAuthority, InvalidTime, OutOfWindow, UnlistedPrincipal, first_refusal, first_refusal_for}
use Rattle.sshkey_model.specs.ValidityExamples.{zero_signed, right_fingerprint}

abbrev pub other_fingerprint : Fingerprint
other_fingerprint = record { hash = Sha256; digest = replicate 32 0 }

-- by a verifier that always says so
abbrev pub refused_at : Bool → List Fingerprint → ℕ → Option Refusal
refused_at answer fingerprints t = first_refusal (λ q. answer) fingerprints t zero_signed

-- From 10 on and before 20; the signature comes first, then the fingerprint, then whether there is
-- such a time.
abbrev pub RefusalOrder : Type 0
RefusalOrder = (refused_at true (right_fingerprint ∷ []) 9 ≡ Some OutOfWindow)
    × (refused_at true (right_fingerprint ∷ []) 10 ≡ None)
    × (refused_at true (other_fingerprint ∷ right_fingerprint ∷ []) 19 ≡ None)
    × (refused_at true (right_fingerprint ∷ []) 20 ≡ Some OutOfWindow)
    × (refused_at true (right_fingerprint ∷ []) (2 ^ 63 - 1) ≡ Some OutOfWindow)
    × (refused_at true (right_fingerprint ∷ []) (2 ^ 63) ≡ Some InvalidTime)
    × (refused_at true [] 10 ≡ Some UntrustedAuthority)
    × (refused_at true (other_fingerprint ∷ []) (2 ^ 63) ≡ Some UntrustedAuthority)
    × (refused_at false (right_fingerprint ∷ []) 10 ≡ Some NotSigned)
    × (refused_at false [] (2 ^ 63) ≡ Some NotSigned)

-- the same certificate for these principals
abbrev pub for : List (List ℕ) → Certificate
for principals = record zero_signed { signed = record zero_signed.signed { valid_principals = principals } }

abbrev pub wanted_at : List (List ℕ) → ℕ → List ℕ → Option Refusal
wanted_at principals t wanted = first_refusal_for (λ q. true) (right_fingerprint ∷ []) t wanted (for principals)

-- A principal is compared byte for byte, and after all else; no principals are all of them.
abbrev pub WantedPrincipals : Type 0
WantedPrincipals = (wanted_at (codes "a" ∷ []) 10 (codes "a") ≡ None)
    × (wanted_at (codes "b" ∷ codes "a" ∷ []) 10 (codes "a") ≡ None)
    × (wanted_at (codes "a" ∷ []) 10 (codes "A") ≡ Some UnlistedPrincipal)
    × (wanted_at (codes "a" ∷ []) 10 (codes "a.b") ≡ Some UnlistedPrincipal)
    × (wanted_at (codes "a.b" ∷ []) 10 (codes "a") ≡ Some UnlistedPrincipal)
    × (wanted_at (codes "a" ∷ []) 10 [] ≡ Some UnlistedPrincipal)
    × (wanted_at (codes "a" ∷ []) 20 (codes "A") ≡ Some OutOfWindow)
    × (wanted_at [] 10 (codes "a") ≡ None)
    × (wanted_at [] 10 [] ≡ None)
