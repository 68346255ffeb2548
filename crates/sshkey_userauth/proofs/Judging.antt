-- The key of a certificate, and the bytes that are asked about.
use Rattle.std.proofs.Common.{◌≡◌, List, ℕ, Result, Ok, Err, refl, sym, ap, ◌∙◌}
use Rattle.std.specs.Prelude.{IsErrAnd}
use Rattle.sshkey_base.specs.Causes.{Faulty, cause}
use Rattle.sshkey_base.specs.declared.error.Error.{Error}
use Rattle.sshkey_model.specs.Certificates.{Certificate, CertificateChoices, certificate_at}
use Rattle.sshkey_model.specs.Keys.{Key}
use Rattle.sshkey_model.specs.Parts.{flat}
use Rattle.sshkey_model.specs.Reading.{Fault, ◌>>=◌, whole}
use Rattle.sshkey_terms.specs.Slices.{Keeps}
use Rattle.sshkey_cert_ref.specs.CertificateRef.{certificate_bytes, certificate_of}
use Rattle.sshkey_cert_ref.specs.Certificates.{spelled_in}
use Rattle.sshkey_cert_ref.specs.declared.certificate_ref.CertificateRef.{CertificateRef}
use Rattle.sshkey_cert_ref.proofs.Certificates.{spelled_is}
use Rattle.sshkey_userauth.specs.Requests.{UserauthRequest, userauth_request}
use Rattle.sshkey_userauth.specs.RequestFormats.{SpellsUserauthRequest}
use Rattle.sshkey_userauth.proofs.RequestTrees.{userauth_tree}

pub certified_is : (b : List ℕ) (r : CertificateRef) (k : Key) → Keeps certificate_bytes cause (whole certificate_at b) b (Ok r) → k ≡ (certificate_of r).signed.key → (whole certificate_at b >>= λ c. Ok c.0.signed.key) ≡ Ok k
certified_is b r k kept is = go (whole certificate_at b) refl kept
  where
    go : (found : Result (Certificate × CertificateChoices) Fault) → whole certificate_at b ≡ found → Keeps certificate_bytes cause found b (Ok r) → (whole certificate_at b >>= λ c. Ok c.0.signed.key) ≡ Ok k
    go (Ok y) e same = rw e (ap (λ (z : Key). Ok z) (sym (is ∙ ap (λ (x : List ℕ). (spelled_in x).0.signed.key) same ∙ ap (λ (x : Certificate × CertificateChoices). x.0.signed.key) (spelled_is b y e))))
    go (Err f) e same = absurd same

-- why there is none
pub no_key : {X Y : Type 0} (bytes_of : X → List ℕ) (b : List ℕ) (found : Result Y Fault) (e : Error) → Keeps bytes_of cause found b (Err e) → IsErrAnd found (λ fault. cause e ≡ Faulty fault)
no_key bytes_of b (Ok y) e kept = absurd kept
no_key bytes_of b (Err fault) e kept = kept

pub no_certified_key : (b : List ℕ) (found : Result (Certificate × CertificateChoices) Fault) (e : Error) → Keeps certificate_bytes cause found b (Err e) → IsErrAnd (found >>= λ c. Ok c.0.signed.key) (λ fault. cause e ≡ Faulty fault)
no_certified_key b (Ok y) e kept = absurd kept
no_certified_key b (Err fault) e kept = kept

pub these_bytes : (r : UserauthRequest) (b : List ℕ) → SpellsUserauthRequest r b → b ≡ flat (userauth_request r)
these_bytes r b s = (userauth_tree.takes r b s).3
