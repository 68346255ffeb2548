-- What contracts see of a certificate that is a slice.
use Rattle.std.specs.Prelude.{◌≢◌, ◌⊎◌, ℕ, List}
use Rattle.sshkey_model.specs.Certificates.{Certificate, CertificateChoices, plain_choices}
use Rattle.sshkey_model.specs.Verification.{Question}
use Rattle.sshkey_cert.specs.Validity.{certificate_question}
use Rattle.sshkey_keys_ref.specs.Signatures.{RunsOutFor}
use Rattle.sshkey_cert_ref.specs.Certificates.{spelled_in}
use Rattle.sshkey_cert_ref.specs.declared.certificate_ref.CertificateRef.{CertificateRef}

-- the bytes that it was read from
abbrev pub certificate_bytes : CertificateRef → List ℕ
certificate_bytes r = r.bytes.now

-- the certificate that they spell
abbrev pub certificate_of : CertificateRef → Certificate
certificate_of r = (spelled_in r.bytes.now).0

-- the choices of its spelling
abbrev pub choices_of : CertificateRef → CertificateChoices
choices_of r = (spelled_in r.bytes.now).1

-- A part of it is spelled otherwise than in its normal form.
abbrev pub IsUnplain : CertificateRef → Type 0
IsUnplain r = choices_of r ≢ plain_choices (certificate_of r).signed

-- Asking about its signature needs memory: the signed bytes are built, or the verifier may run out,
-- or the question is under a DSA or RSA key.
abbrev pub NeedsAnswer : (Question → Type 0) → CertificateRef → Type 0
NeedsAnswer runs_out r = IsUnplain r ⊎ RunsOutFor runs_out (certificate_of r).signed.signature_key (certificate_question (certificate_of r))
