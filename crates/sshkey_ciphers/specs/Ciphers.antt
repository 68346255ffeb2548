-- What ciphers and key derivations mean, and their names.
use Rattle.std.specs.Prelude.{ℕ, List, Result, Ok, Err, [], ◌∷◌}
use Rattle.sshkey_model.specs.Reading.{Fault, AlgorithmUnknown, Whole}
use Rattle.sshkey_model.specs.Names.{named, or_label}
use Rattle.sshkey_model.specs.KeyDerivation as model
use Rattle.sshkey_model.specs.KeyDerivation.{cipher_name, ciphers, kdf_name, kdf_algorithms}
use Rattle.sshkey_ciphers.specs.declared.cipher.Cipher.{Cipher}
use Rattle.sshkey_ciphers.specs.declared.cipher.Cipher.TheVariants as cipher
use Rattle.sshkey_ciphers.specs.declared.kdf_alg.KdfAlg.{KdfAlg}
use Rattle.sshkey_ciphers.specs.declared.kdf_alg.KdfAlg.TheVariants as alg
use Rattle.sshkey_ciphers.specs.declared.kdf.Kdf.{Kdf}
use Rattle.sshkey_ciphers.specs.declared.kdf.Kdf.TheVariants as kdf

abbrev pub cipher_of : Cipher → model.Cipher
cipher_of cipher.None = model.NoCipher
cipher_of cipher.TDesCbc = model.TDesCbc
cipher_of cipher.Aes128Cbc = model.Aes128Cbc
cipher_of cipher.Aes192Cbc = model.Aes192Cbc
cipher_of cipher.Aes256Cbc = model.Aes256Cbc
cipher_of cipher.Aes128Ctr = model.Aes128Ctr
cipher_of cipher.Aes192Ctr = model.Aes192Ctr
cipher_of cipher.Aes256Ctr = model.Aes256Ctr
cipher_of cipher.Aes128Gcm = model.Aes128Gcm
cipher_of cipher.Aes256Gcm = model.Aes256Gcm
cipher_of cipher.ChaCha20Poly1305 = model.ChaCha20Poly1305

abbrev pub kdf_algorithm_of : KdfAlg → model.KdfAlgorithm
kdf_algorithm_of alg.None = model.NoDerivation
kdf_algorithm_of alg.Bcrypt = model.BcryptDerivation

abbrev pub kdf_of : Kdf → model.Kdf
kdf_of kdf.None = model.NoKdf
kdf_of (kdf.Bcrypt salt rounds) = model.Bcrypt (record { salt = salt; rounds = rounds })

-- bcrypt with that salt and 16 rounds; where no key is derived there is none to be made
abbrev pub kdf_with_salt : model.KdfAlgorithm → List ℕ → Result model.Kdf Fault
kdf_with_salt model.NoDerivation salt = Err AlgorithmUnknown
kdf_with_salt model.BcryptDerivation salt = Ok (model.Bcrypt (record { salt = salt; rounds = 16 }))

-- ---- names

abbrev pub cipher_from : Whole model.Cipher
cipher_from n = or_label (named cipher_name ciphers n)

abbrev pub kdf_algorithm_from : Whole model.KdfAlgorithm
kdf_algorithm_from n = or_label (named kdf_name kdf_algorithms n)

-- In which order ciphers and key derivations stand.

-- the place of a cipher in their list
abbrev pub cipher_key : Cipher → List ℕ
cipher_key cipher.None = 0 ∷ []
cipher_key cipher.TDesCbc = 1 ∷ []
cipher_key cipher.Aes128Cbc = 2 ∷ []
cipher_key cipher.Aes192Cbc = 3 ∷ []
cipher_key cipher.Aes256Cbc = 4 ∷ []
cipher_key cipher.Aes128Ctr = 5 ∷ []
cipher_key cipher.Aes192Ctr = 6 ∷ []
cipher_key cipher.Aes256Ctr = 7 ∷ []
cipher_key cipher.Aes128Gcm = 8 ∷ []
cipher_key cipher.Aes256Gcm = 9 ∷ []
cipher_key cipher.ChaCha20Poly1305 = 10 ∷ []

abbrev pub kdf_algorithm_key : KdfAlg → List ℕ
kdf_algorithm_key alg.None = 0 ∷ []
kdf_algorithm_key alg.Bcrypt = 1 ∷ []
