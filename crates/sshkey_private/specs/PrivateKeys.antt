-- What a private key means.
use Rattle.std.specs.Prelude.{◌≡◌, ℕ, List, [], Bool, true, false, Option, Some, None, Result, MatchResult, IsErrAnd}
use Rattle.sshkey_model.specs.KeyPairs.{KeyPair}
use Rattle.sshkey_model.specs.PrivateKeys as model
use Rattle.sshkey_model.specs.PrivateKeys.{Unencrypted, Encrypted, EncryptedKey, new_private_key, private_key_magic, padded}
use Rattle.sshkey_base.specs.declared.error.Error.{Error}
use Rattle.sshkey_base.specs.declared.error.Error.TheVariants as wide
use Rattle.sshkey_pairs.specs.declared.keypair_data.KeypairData.{KeypairData}
use Rattle.sshkey_pairs.specs.Keypairs.{pair_of, keypair_parts}
use Rattle.sshkey_public.specs.declared.public_key.PublicKey.{PublicKey}
use Rattle.sshkey_public.specs.PublicKeys.{comment_of}
use Rattle.sshkey_private.specs.declared.private_key.PrivateKey.{PrivateKey}
use Rattle.sshkey_private.specs.Forms.{sealed_of}
use Rattle.std.specs.Int.{w32}
use Rattle.sshkey_model.specs.Parts.{Parts, bytes, number, box, ◌&◌}
use Rattle.sshkey_model.specs.Texts.{string}
use Rattle.sshkey_model.specs.Keys.{normal_key}
use Rattle.sshkey_model.specs.KeyDerivation.{cipher, kdf}
use Rattle.sshkey_pairs.specs.declared.keypair_data.KeypairData.TheVariants as kinds
use Rattle.sshkey_private.specs.declared.private_key.write.Part.{Part}

-- a key that is not encrypted where there is a pair
abbrev pub of_pair : Option KeyPair → ℕ → List ℕ → EncryptedKey → model.PrivateKey
of_pair (Some k) checkint comment sealed = Unencrypted (record { checkint = checkint; pair = k; comment = comment })
of_pair None checkint comment sealed = Encrypted sealed

abbrev pub key_fields : PrivateKey → EncryptedKey
key_fields k = sealed_of k.cipher k.kdf k.public_key k.key_data k.tag

abbrev pub private_of : PrivateKey → model.PrivateKey
private_of k = of_pair (pair_of k.key_data) k.checkint (comment_of k.public_key) (key_fields k)

-- ---- what calls answer

abbrev pub data_of : PrivateKey → KeypairData
data_of k = k.key_data

abbrev pub outer_of : PrivateKey → PublicKey
outer_of k = k.public_key

abbrev pub is_encrypted : model.PrivateKey → Bool
is_encrypted (Unencrypted k) = false
is_encrypted (Encrypted k) = true

-- It has no comment that is not written: that of an encrypted key is empty.
abbrev pub HasWrittenComment : PrivateKey → Type 0
HasWrittenComment k = is_encrypted (private_of k) ≡ true → comment_of (outer_of k) ≡ []

-- A pair gives its private key, unless memory runs out; an encrypted one is refused as such.
abbrev pub GivesNew : Option KeyPair → List ℕ → Result PrivateKey Error → Type 0
GivesNew (Some k) comment r = MatchResult r (λ x. private_of x ≡ new_private_key k comment) (λ e. e ≡ wide.Memory)
GivesNew None comment r = IsErrAnd r (λ e. e ≡ wide.Encrypted)

-- It has that comment. That of an encrypted key is no part of it.
abbrev pub with_comment : List ℕ → model.PrivateKey → model.PrivateKey
with_comment comment (Unencrypted k) = Unencrypted (record { checkint = k.checkint; pair = k.pair; comment = comment })
with_comment comment (Encrypted k) = Encrypted k

-- What is written of a private key, from its fields.

-- the private part of a key that is not encrypted, without its padding
abbrev pub part_of : ℕ → KeypairData → List ℕ → Parts
part_of checkint pair comment = number w32 checkint & number w32 checkint & keypair_parts pair & string comment

-- that part, padded in a string, or the ciphertext in one and the tag after it
abbrev pub content_of : KeypairData → ℕ → List ℕ → List ℕ → Parts
content_of (kinds.Encrypted c) checkint comment tag = string c.items & bytes tag
content_of pair checkint comment tag = box (padded (part_of checkint pair comment))

-- the number of keys, the public key, and that part
abbrev pub keys_written : EncryptedKey → Parts → Parts
keys_written e content = number w32 1 & box (normal_key e.public) & content

-- what stands before them, and they
abbrev pub fields_written : EncryptedKey → Parts → Parts
fields_written e content = bytes private_key_magic & cipher e.cipher & kdf e.kdf & keys_written e content

abbrev pub content_parts : PrivateKey → Parts
content_parts k = content_of k.key_data k.checkint (comment_of k.public_key) (key_fields k).tag

abbrev pub halves_parts : PrivateKey → Parts
halves_parts k = keys_written (key_fields k) (content_parts k)

abbrev pub key_parts : PrivateKey → Parts
key_parts k = fields_written (key_fields k) (content_parts k)

abbrev pub part_parts : Part → Parts
part_parts p = part_of p.checkint p.pair.now p.comment.now
