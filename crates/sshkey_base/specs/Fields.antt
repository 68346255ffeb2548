-- Fields of certificates.
use Rattle.std.specs.Prelude.{ℕ, List, codes}
use Rattle.sshkey_base.specs.declared.certificate.field.Field.{Field}
use Rattle.sshkey_base.specs.declared.certificate.field.Field.TheVariants.{PublicKey, Nonce, Serial, CertType, KeyId, ValidPrincipals, ValidAfter, ValidBefore, CriticalOptions, Extensions, SignatureKey, Signature, Comment}

-- what an error calls it
abbrev pub field_text : Field → List ℕ
field_text PublicKey = codes "public key"
field_text Nonce = codes "nonce"
field_text Serial = codes "serial"
field_text CertType = codes "type"
field_text KeyId = codes "key id"
field_text ValidPrincipals = codes "valid principals"
field_text ValidAfter = codes "valid after"
field_text ValidBefore = codes "valid before"
field_text CriticalOptions = codes "critical options"
field_text Extensions = codes "extensions"
field_text SignatureKey = codes "signature key"
field_text Signature = codes "signature"
field_text Comment = codes "comment"
