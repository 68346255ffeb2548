-- The names of ciphers and of key derivations are told apart.
use Rattle.std.proofs.Common.{◌≡◌, Some, refl}
use Rattle.sshkey_model.specs.Parts.{Any, bytes}
use Rattle.sshkey_model.specs.Names.{named, or_label}
use Rattle.sshkey_model.specs.KeyDerivation.{Cipher, NoCipher, cipher_name, ciphers, KdfAlgorithm, NoDerivation, BcryptDerivation, kdf_name, kdf_algorithms}
use Rattle.sshkey_model.specs.Grammar.{Checks}
use Rattle.sshkey_model.proofs.NameReaders.{table_checks}

each_cipher : (c : Cipher) → named cipher_name ciphers (cipher_name c) ≡ Some c
unfolding named
each_cipher NoCipher = refl
each_cipher _ = refl

pub cipher_checks : Checks Any bytes Any (λ c. bytes (cipher_name c)) (λ n. or_label (named cipher_name ciphers n))
cipher_checks = table_checks cipher_name ciphers (assumption) each_cipher

each_kdf : (a : KdfAlgorithm) → named kdf_name kdf_algorithms (kdf_name a) ≡ Some a
unfolding named
each_kdf NoDerivation = refl
each_kdf BcryptDerivation = refl

pub kdf_algorithm_checks : Checks Any bytes Any (λ a. bytes (kdf_name a)) (λ n. or_label (named kdf_name kdf_algorithms n))
kdf_algorithm_checks = table_checks kdf_name kdf_algorithms (assumption) each_kdf
