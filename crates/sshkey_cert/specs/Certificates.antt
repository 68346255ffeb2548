-- What a signed certificate's value means, and its comment.
use Rattle.std.specs.Prelude.{ℕ, List, ◌≢◌, Result, Ok, Err, ◌≡◌, [], ◌∷◌, IsErrAnd}
use Rattle.sshkey_model.specs.Certificates as model
use Rattle.sshkey_keys.specs.Signatures.{signature_of, signature_parts}
use Rattle.sshkey_keys.specs.declared.key_data.KeyData.{KeyData}
use Rattle.sshkey_cert.specs.declared.certificate.Certificate.{Certificate}
use Rattle.sshkey_cert_values.specs.CertificateFields.{to_be_signed_of}
use Rattle.sshkey_model.specs.Lines.{name_of_certificate, IsCertificateLine, IsNoLine}
use Rattle.sshkey_base.specs.Causes.{cause, NoMemory, Faulty}
use Rattle.sshkey_base.specs.declared.error.Error.{Error}
use Rattle.sshkey_model.specs.Certificates.{SpellsCertificate, certificate_format}
use Rattle.std.specs.declared.cmp.Ordering.{Ordering}
use Rattle.sshkey_base.specs.Comparisons.{bytes_cmp, parts_cmp, first_of}
use Rattle.sshkey_cert_values.specs.Comparisons.{HasKeys, field_orders}
use Rattle.sshkey_model.specs.Reading.{whole}

abbrev pub certificate_of : Certificate → model.Certificate
certificate_of c = record { signed = to_be_signed_of c.fields; signature = signature_of c.signature }

-- the key that is certified
abbrev pub certified_key_of : Certificate → KeyData
certified_key_of c = c.fields.public_key

-- the key that signed
abbrev pub signer_of : Certificate → KeyData
signer_of c = c.fields.signature_key

abbrev pub comment_of : Certificate → List ℕ
comment_of c = c.comment

-- What is read of a line of a certificate.

-- Accepted is the certificate and the comment of the line. Refused for anything but memory, it is a
-- line of no certificate.
abbrev pub ReadsCertificate : List ℕ → Result Certificate Error → Type 0
ReadsCertificate text (Ok c) = IsCertificateLine text (certificate_of c) (comment_of c)
ReadsCertificate text (Err e) = cause e ≢ NoMemory → IsNoLine name_of_certificate SpellsCertificate text

-- some text is the line of it
abbrev pub IsOfSomeLine : Certificate → Type 0
IsOfSomeLine c = (text : List ℕ) × IsCertificateLine text (certificate_of c) (comment_of c)

-- What equality and order of certificates say.

-- all that it means, and its comment
abbrev pub content_of : Certificate → model.Certificate × List ℕ
content_of c = (certificate_of c, comment_of c)

-- Both of its keys are well-formed.
abbrev pub IsOfKeys : Certificate → Type 0
IsOfKeys c = HasKeys c.fields

-- They are ordered by what they sign, then by the signature, and then by the comment.
abbrev pub IsOrderOfCertificates : (Certificate → Certificate → Ordering) → Type 0
IsOrderOfCertificates cmp = (x y : Certificate) → cmp x y ≡ first_of
    (first_of (field_orders x.fields y.fields)
    ∷ parts_cmp (signature_parts x.signature) (signature_parts y.signature)
    ∷ bytes_cmp (comment_of x) (comment_of y)
    ∷ [])

-- Why bytes are no certificate.

-- the plain reader refuses the bytes for that error
abbrev pub IsFaultOf : List ℕ → Error → Type 0
IsFaultOf blob e = IsErrAnd (whole certificate_format.read blob) (λ fault. cause e ≡ Faulty fault)
