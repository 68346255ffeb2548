-- Ciphers and key derivation of private keys (PROTOCOL.key; RFC 4253, section 6.3; RFC 4344,
-- section 4; PROTOCOL; PROTOCOL.chacha20poly1305).
use Rattle.std.specs.Prelude.{ℕ, ◌-◌, ◌%◌, List, [], ◌∷◌, codes}
use Rattle.std.specs.Int.{w32}
use Rattle.sshkey_model.specs.Parts.{Parts, number, box, ◌&◌}
use Rattle.sshkey_model.specs.Texts.{string}

-- ---- ciphers

pub data Cipher : Type 0 where
  NoCipher TDesCbc Aes128Cbc Aes192Cbc Aes256Cbc Aes128Ctr Aes192Ctr Aes256Ctr Aes128Gcm Aes256Gcm ChaCha20Poly1305 : Cipher

abbrev pub cipher_name : Cipher → List ℕ
cipher_name NoCipher = codes "none"
cipher_name TDesCbc = codes "3des-cbc"
cipher_name Aes128Cbc = codes "aes128-cbc"
cipher_name Aes192Cbc = codes "aes192-cbc"
cipher_name Aes256Cbc = codes "aes256-cbc"
cipher_name Aes128Ctr = codes "aes128-ctr"
cipher_name Aes192Ctr = codes "aes192-ctr"
cipher_name Aes256Ctr = codes "aes256-ctr"
cipher_name Aes128Gcm = codes "aes128-gcm@openssh.com"
cipher_name Aes256Gcm = codes "aes256-gcm@openssh.com"
cipher_name ChaCha20Poly1305 = codes "chacha20-poly1305@openssh.com"

abbrev pub ciphers : List Cipher
ciphers = NoCipher ∷ TDesCbc ∷ Aes128Cbc ∷ Aes192Cbc ∷ Aes256Cbc ∷ Aes128Ctr ∷ Aes192Ctr ∷ Aes256Ctr ∷ Aes128Gcm ∷ Aes256Gcm ∷ ChaCha20Poly1305 ∷ []

-- bytes of a block
abbrev pub block_size : Cipher → ℕ
block_size NoCipher = 8
block_size TDesCbc = 8
block_size Aes128Cbc = 16
block_size Aes192Cbc = 16
block_size Aes256Cbc = 16
block_size Aes128Ctr = 16
block_size Aes192Ctr = 16
block_size Aes256Ctr = 16
block_size Aes128Gcm = 16
block_size Aes256Gcm = 16
block_size ChaCha20Poly1305 = 8

-- bytes of the tag that follows what is encrypted
abbrev pub tag_size : Cipher → ℕ
tag_size NoCipher = 0
tag_size TDesCbc = 0
tag_size Aes128Cbc = 0
tag_size Aes192Cbc = 0
tag_size Aes256Cbc = 0
tag_size Aes128Ctr = 0
tag_size Aes192Ctr = 0
tag_size Aes256Ctr = 0
tag_size Aes128Gcm = 16
tag_size Aes256Gcm = 16
tag_size ChaCha20Poly1305 = 16

-- the least number that, added to n, makes a multiple of the block
abbrev pub padding_length : ℕ → ℕ → ℕ
padding_length block n = (block - n % block) % block

abbrev pub cipher : Cipher → Parts
cipher c = string (cipher_name c)

-- ---- key derivation

pub data KdfAlgorithm : Type 0 where
  NoDerivation BcryptDerivation : KdfAlgorithm

abbrev pub kdf_name : KdfAlgorithm → List ℕ
kdf_name NoDerivation = codes "none"
kdf_name BcryptDerivation = codes "bcrypt"

abbrev pub kdf_algorithms : List KdfAlgorithm
kdf_algorithms = NoDerivation ∷ BcryptDerivation ∷ []

abbrev pub kdf_algorithm : KdfAlgorithm → Parts
kdf_algorithm a = string (kdf_name a)

pub record BcryptOptions : Type 0 where
  pub salt : List ℕ
  pub rounds : ℕ

pub data Kdf : Type 0 where
  NoKdf : Kdf
  Bcrypt : BcryptOptions → Kdf

abbrev pub derivation : Kdf → KdfAlgorithm
derivation NoKdf = NoDerivation
derivation (Bcrypt o) = BcryptDerivation

abbrev pub bcrypt_options : BcryptOptions → Parts
bcrypt_options o = string o.salt & number w32 o.rounds

-- an empty string (its length alone), or a string of salt and rounds
abbrev pub kdf_options : Kdf → Parts
kdf_options NoKdf = number w32 0
kdf_options (Bcrypt o) = box (bcrypt_options o)

abbrev pub kdf : Kdf → Parts
kdf k = kdf_algorithm (derivation k) & kdf_options k
