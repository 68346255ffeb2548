-- What is wrong with a certificate that is not valid: the first of these, in this order.
use Rattle.std.specs.Prelude.{◌≡◌, ◌↔◌, ℕ, List, [], ◌∷◌, Bool, true, false, ◌&&◌, nat_le, nat_lt, Option, Some, None, bytes_eq}
use Rattle.std.specs.List.{list_any}
use Rattle.sshkey_model.specs.Parts.{flat}
use Rattle.sshkey_model.specs.Names.{Sha256}
use Rattle.sshkey_model.specs.Certificates.{Certificate, normal_to_be_signed, is_time}
use Rattle.sshkey_model.specs.Fingerprints.{Fingerprint, fingerprint, same_fingerprint}
use Rattle.sshkey_model.specs.Verification.{Question, question, is_yes}
use Rattle.sshkey_model.specs.Validity.{IsValid}
use Rattle.sshkey_model.specs.Principals.{IsValidFor}

pub data Refusal : Type 0 where
  NotSigned UntrustedAuthority InvalidTime OutOfWindow UnlistedPrincipal : Refusal

abbrev pub is_signed : (Question → Bool) → Certificate → Bool
is_signed accepts c = is_yes accepts (question c.signed.signature_key (flat (normal_to_be_signed c.signed)) c.signature)

abbrev pub has_trusted_authority : List Fingerprint → Certificate → Bool
has_trusted_authority fingerprints c = list_any (same_fingerprint (fingerprint Sha256 c.signed.signature_key)) fingerprints

-- from the first time of a window on, and before the second
abbrev pub is_within : ℕ × ℕ → ℕ → Bool
is_within window t = nat_le window.0 t && nat_lt t window.1

abbrev pub allows : List (List ℕ) → List ℕ → Bool
allows [] wanted = true
allows (p ∷ ps) wanted = list_any (bytes_eq wanted) (p ∷ ps)

-- the refusal where the test fails, else what comes next
abbrev pub unless : Bool → Refusal → Option Refusal → Option Refusal
unless true refusal next = next
unless false refusal next = Some refusal

-- what is wrong first after the signature: the authority, or the time by that window
abbrev pub refusal_of_authority_or_time : Bool → ℕ × ℕ → ℕ → Option Refusal
refusal_of_authority_or_time is_trusted window t =
    unless is_trusted UntrustedAuthority
    (unless (is_time t) InvalidTime
    (unless (is_within window t) OutOfWindow None))

abbrev pub first_refusal : (Question → Bool) → List Fingerprint → ℕ → Certificate → Option Refusal
first_refusal accepts fingerprints t c =
    unless (is_signed accepts c) NotSigned
    (refusal_of_authority_or_time (has_trusted_authority fingerprints c) (c.signed.valid_after, c.signed.valid_before) t)

-- the first refusal, if there is one, else the next
abbrev pub or_else : Option Refusal → Option Refusal → Option Refusal
or_else None next = next
or_else (Some refusal) next = Some refusal

-- the wanted principal comes last
abbrev pub first_refusal_for : (Question → Bool) → List Fingerprint → ℕ → List ℕ → Certificate → Option Refusal
first_refusal_for accepts fingerprints t wanted c = or_else (first_refusal accepts fingerprints t c) (unless (allows c.signed.valid_principals wanted) UnlistedPrincipal None)

-- Nothing is wrong exactly with the valid ones.
abbrev pub RefuseTheInvalid : Type 0
RefuseTheInvalid = (accepts : Question → Bool) (fingerprints : List Fingerprint) (t : ℕ) (c : Certificate) → (first_refusal accepts fingerprints t c ≡ None) ↔ IsValid accepts fingerprints t c

abbrev pub RefuseTheUnwanted : Type 0
RefuseTheUnwanted = (accepts : Question → Bool) (fingerprints : List Fingerprint) (t : ℕ) (wanted : List ℕ) (c : Certificate) → (first_refusal_for accepts fingerprints t wanted c ≡ None) ↔ IsValidFor accepts fingerprints t wanted c
