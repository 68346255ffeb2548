-- Why a host's certificate is refused, or accepted.
use Rattle.std.proofs.Common.{◌≡◌, ◌≢◌, ℕ, List, Bool, Result, Ok, Err, IfErr, inr, sym, ap, subst, ◌∙◌}
use Rattle.std.specs.Prelude.{IsErrAnd}
use Rattle.ssh_key.specs.base.Judgements.{AcceptsExactly}
use Rattle.ssh_key.specs.base.Causes.{Faulty, NoMemory, cause}
use Rattle.ssh_key.specs.cert.Validity.{JudgesCertificateFor, fingerprints_of}
use Rattle.ssh_key.specs.terms.Slices.{Keeps}
use Rattle.ssh_key.specs.model.Certificates.{Certificate, SpellsCertificate}
use Rattle.ssh_key.specs.model.Fingerprints.{Fingerprint}
use Rattle.ssh_key.specs.model.Reading.{Fault}
use Rattle.ssh_key.specs.model.Verification.{Question}
use Rattle.ssh_key.specs.types.Error.{Error}
use Rattle.ssh_key.specs.types.Error.TheVariants.{Memory}
use Rattle.ssh_key.specs.types.Fingerprint as code
use Rattle.sshkey_examples.specs.HostCertificates.{CertifiesHost, IsBadFor, IsCertifiedHost, IsPlainForHosts, IsWhyNot, NeedsMemory, NotValid}

-- ---- the validation decides

pub certifies_host : (accepts : Question → Bool) (given : List code.Fingerprint) (t : ℕ) (host : List ℕ) (c : Certificate) → IsPlainForHosts c → (r : Result (Unit {0}) Error) → JudgesCertificateFor accepts given t host c r → AcceptsExactly (CertifiesHost accepts (fingerprints_of given) t host c) r
certifies_host accepts given t host c plain (Ok u) valid = record { plain = plain; valid = valid }
certifies_host accepts given t host c plain (Err e) judged = λ other is. (judged other).0 is.valid

pub not_valid : (accepts : Question → Bool) (given : List code.Fingerprint) (t : ℕ) (host : List ℕ) (c : Certificate) → IsPlainForHosts c → (r : Result (Unit {0}) Error) → JudgesCertificateFor accepts given t host c r → IfErr r (λ e. e ≢ Memory → IsBadFor accepts (fingerprints_of given) t host c e)
not_valid accepts given t host c plain (Ok u) valid = tt
not_valid accepts given t host c plain (Err e) judged = λ other. NotValid plain e (judged other).1

pub of_plain : (c : Certificate) → IsPlainForHosts c → (r : Result (Unit {0}) Error) → IfErr r (λ e. e ≡ Memory → IsPlainForHosts c)
of_plain c plain (Ok u) = tt
of_plain c plain (Err e) = λ memory. plain

-- ---- the bytes

-- they spell one certificate only, which decides
pub certified_host : (accepts : Question → Bool) (authorities : List Fingerprint) (t : ℕ) (shown host : List ℕ) (c : Certificate) → SpellsCertificate c shown → ((d : Certificate) → SpellsCertificate d shown → d ≡ c) → (r : Result (Unit {0}) Error) → AcceptsExactly (CertifiesHost accepts authorities t host c) r → AcceptsExactly (IsCertifiedHost accepts authorities t shown host) r
certified_host accepts authorities t shown host c spelled one (Ok u) certifies = record { certificate = c; spelled = spelled; certifies = certifies }
certified_host accepts authorities t shown host c spelled one (Err e) refused = λ other is. refused other (subst (λ (d : Certificate). CertifiesHost accepts authorities t host d) (one is.certificate is.spelled) is.certifies)

pub bad_certificate : (accepts : Question → Bool) (authorities : List Fingerprint) (t : ℕ) (shown host : List ℕ) (c : Certificate) → SpellsCertificate c shown → (r : Result (Unit {0}) Error) → IfErr r (λ e. e ≢ Memory → IsBadFor accepts authorities t host c e) → IfErr r (λ e. e ≢ Memory → IsWhyNot accepts authorities t shown host e)
bad_certificate accepts authorities t shown host c spelled (Ok u) bad = tt
bad_certificate accepts authorities t shown host c spelled (Err e) bad = λ other. inr (c, spelled, bad other)

pub needed : (shown : List ℕ) (c : Certificate) → SpellsCertificate c shown → (r : Result (Unit {0}) Error) → IfErr r (λ e. e ≡ Memory → IsPlainForHosts c) → IfErr r (λ e. e ≡ Memory → NeedsMemory shown)
needed shown c spelled (Ok u) plain = tt
needed shown c spelled (Err e) plain = λ memory. (c, spelled, plain memory)

-- what keeps no bytes has the reader's fault
pub fault_told : {X Y : Type 0} (bytes_of : X → List ℕ) (read : Result Y Fault) (bytes : List ℕ) (e : Error) → Keeps bytes_of cause read bytes (Err e) → IsErrAnd read (λ fault. cause e ≡ Faulty fault)
fault_told bytes_of (Ok y) bytes e kept = absurd kept
fault_told bytes_of (Err fault) bytes e kept = kept

-- and a fault is no want of memory
pub never_memory : {Y : Type 0} (P : Type 0) (read : Result Y Fault) (e : Error) → IsErrAnd read (λ fault. cause e ≡ Faulty fault) → e ≡ Memory → P
never_memory P (Ok y) e none memory = absurd none
never_memory P (Err fault) e is memory = let no : Faulty fault ≡ NoMemory = sym is ∙ ap cause memory in absurd cc
