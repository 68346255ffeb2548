-- What a signer makes, and what a refusal to sign says.
use Rattle.std.specs.Prelude.{◌≡◌, ◌≢◌, ◌⊎◌, ℕ, List, Bool}
use Rattle.sshkey_model.specs.Parts.{BoxesFit, flat}
use Rattle.sshkey_model.specs.Certificates.{SignedFields, normal_to_be_signed}
use Rattle.sshkey_model.specs.Signatures.{Signature}
use Rattle.sshkey_model.specs.Verification.{Question, IsAccepted}
use Rattle.sshkey_base.specs.declared.encoding.Error.TheVariants.{Length}
use Rattle.sshkey_base.specs.declared.error.Error.{Error}
use Rattle.sshkey_base.specs.declared.error.Error.TheVariants.{Encoding, Memory}
use Rattle.sshkey_keys.specs.Keys.{key_of}
use Rattle.sshkey_keys.specs.declared.key_data.KeyData.{KeyData}

-- The signature of these fields is accepted under the key.
abbrev pub IsSignatureOf : (Question → Bool) → KeyData → SignedFields → Signature → Type 0
IsSignatureOf accepts key c g = IsAccepted accepts (key_of key) (flat (normal_to_be_signed c)) g

-- Where the bytes to be signed fit, the signer may be asked to sign them.
abbrev pub PermitsToSign : (List ℕ → Type 0) → SignedFields → Type 0
PermitsToSign permits c = BoxesFit (normal_to_be_signed c) → permits (flat (normal_to_be_signed c))

-- Where the bytes to be signed do not fit it is `Length`, and else `Memory` or an error that the
-- signer has for these bytes.
abbrev pub RefusesExactly : (List ℕ → Error → Type 0) → SignedFields → Error → Type 0
RefusesExactly refuses c e = ((BoxesFit (normal_to_be_signed c) → ⊥) × (e ≡ Encoding Length)) ⊎ (BoxesFit (normal_to_be_signed c) × ((e ≡ Memory) ⊎ refuses (flat (normal_to_be_signed c)) e))

-- Memory aside, where the bytes to be signed do not fit it is `Length`, and else an error that the
-- signer has for these bytes.
abbrev pub RefusesToSign : (List ℕ → Error → Type 0) → SignedFields → Error → Type 0
RefusesToSign refuses c e = e ≢ Memory → ((BoxesFit (normal_to_be_signed c) → ⊥) × (e ≡ Encoding Length)) ⊎ (BoxesFit (normal_to_be_signed c) × refuses (flat (normal_to_be_signed c)) e)
