-- The form of a private key's fields.
use Rattle.std.specs.Prelude.{ℕ, ◌%◌, List, length, Bool, true, false, ◌&&◌, not, ◌==◌, Option, Some, None}
use Rattle.sshkey_model.specs.KeyDerivation.{Cipher, NoCipher, Kdf, NoKdf, Bcrypt, block_size, tag_size}
use Rattle.sshkey_model.specs.KeyPairs.{KeyPair, public_half}
use Rattle.sshkey_model.specs.PrivateKeys.{EncryptedKey, key_eq}
use Rattle.sshkey_pairs.specs.declared.keypair_data.KeypairData.{KeypairData}
use Rattle.sshkey_pairs.specs.Keypairs.{ciphertext_of, pair_of}
use Rattle.sshkey_public.specs.declared.public_key.PublicKey.{PublicKey}
use Rattle.sshkey_public.specs.PublicKeys.{public_of}
use Rattle.sshkey_ciphers.specs.declared.cipher.Cipher as cipher
use Rattle.sshkey_ciphers.specs.declared.kdf.Kdf as kdf
use Rattle.sshkey_ciphers.specs.Ciphers.{cipher_of, kdf_of}
use Rattle.sshkey_ciphers.specs.Formats.{tag_bytes}

-- the fields as those of an encrypted key
abbrev pub sealed_of : cipher.Cipher → kdf.Kdf → PublicKey → KeypairData → Option (List ℕ) → EncryptedKey
sealed_of c k public pair tag = record { cipher = cipher_of c; kdf = kdf_of k; public = public_of public; ciphertext = ciphertext_of pair; tag = tag_bytes tag }

abbrev pub is_no_cipher : Cipher → Bool
is_no_cipher NoCipher = true
is_no_cipher _ = false

abbrev pub is_no_kdf : Kdf → Bool
is_no_kdf NoKdf = true
is_no_kdf (Bcrypt o) = false

-- A pair stands beside its public key, without a cipher; a ciphertext under a cipher, in whole
-- blocks and with the cipher's tag.
abbrev pub has_form : Option KeyPair → EncryptedKey → Bool
has_form (Some k) e = is_no_cipher e.cipher && is_no_kdf e.kdf && key_eq (public_half k) e.public
has_form None e = not (is_no_cipher e.cipher) && (length e.ciphertext % block_size e.cipher == 0) && (length e.tag == tag_size e.cipher)

-- the same of the fields
abbrev pub are_formed : cipher.Cipher → kdf.Kdf → PublicKey → KeypairData → Option (List ℕ) → Bool
are_formed c k public pair tag = has_form (pair_of pair) (sealed_of c k public pair tag)
