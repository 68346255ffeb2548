-- What the equality of private keys says.
use Rattle.std.specs.Prelude.{ℕ, List, Option}
use Rattle.sshkey_model.specs.KeyDerivation.{Cipher, Kdf}
use Rattle.sshkey_model.specs.KeyPairs.{KeyPair}
use Rattle.sshkey_model.specs.Keys.{Key}
use Rattle.sshkey_model.specs.Names.{Algorithm}
use Rattle.sshkey_pairs.specs.Keypairs.{pair_fields}
use Rattle.sshkey_public.specs.PublicKeys.{IsOfKey, content_of}
use Rattle.sshkey_private.specs.declared.private_key.PrivateKey.{PrivateKey}
use Rattle.sshkey_private.specs.PrivateKeys.{key_fields, data_of, outer_of}

-- What is compared of a private key: all but checkint and tag. A pair has its ciphertext's place
-- empty, and a ciphertext the pair's.
pub record Seen : Type 0 where
  pub cipher : Cipher
  pub kdf : Kdf
  pub public : Key × List ℕ
  pub pair : Option KeyPair × (Option Algorithm × List ℕ)

abbrev pub seen : PrivateKey → Seen
seen k = record { cipher = (key_fields k).cipher; kdf = (key_fields k).kdf; public = content_of (outer_of k); pair = pair_fields (data_of k) }

-- Its public key is well-formed.
abbrev pub IsBesideKey : PrivateKey → Type 0
IsBesideKey k = IsOfKey (outer_of k)
