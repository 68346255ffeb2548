-- Names are ASCII, and what is no name is refused as such.
use Rattle.std.specs.Prelude.{◌≡◌, ℕ, true, List, length, nat_le, Err, refl}
use Rattle.sshkey_model.specs.Parts.{Any}
use Rattle.sshkey_model.specs.Reading.{Fault, Label}
use Rattle.sshkey_model.specs.Names.{named, are_ascii}
use Rattle.sshkey_model.specs.KeyDerivation as model
use Rattle.sshkey_model.specs.KeyDerivation.{cipher_name, ciphers, kdf_name, kdf_algorithms}
pub use Rattle.sshkey_model.proofs.CipherNames.{cipher_checks, kdf_algorithm_checks}
use Rattle.sshkey_base.proofs.LabelLaws.{unlisted_label}
use Rattle.sshkey_ciphers.specs.Ciphers.{cipher_from, kdf_algorithm_from}

pub cipher_refusals : (t : List ℕ) (fault : Fault) → cipher_from t ≡ Err fault → fault ≡ Label
cipher_refusals t = unlisted_label (named cipher_name ciphers t)

pub kdf_alg_refusals : (t : List ℕ) (fault : Fault) → kdf_algorithm_from t ≡ Err fault → fault ≡ Label
kdf_alg_refusals t = unlisted_label (named kdf_name kdf_algorithms t)

pub cipher_ascii : (c : model.Cipher) → Any c → are_ascii (cipher_name c) ≡ true
cipher_ascii model.NoCipher is = refl
cipher_ascii _ is = refl

pub kdf_alg_ascii : (a : model.KdfAlgorithm) → Any a → are_ascii (kdf_name a) ≡ true
kdf_alg_ascii model.NoDerivation is = refl
kdf_alg_ascii model.BcryptDerivation is = refl

pub cipher_short : (c : model.Cipher) → Any c → nat_le (length (cipher_name c)) 73 ≡ true
cipher_short model.NoCipher is = refl
cipher_short _ is = refl

pub kdf_alg_short : (a : model.KdfAlgorithm) → Any a → nat_le (length (kdf_name a)) 73 ≡ true
kdf_alg_short model.NoDerivation is = refl
kdf_alg_short model.BcryptDerivation is = refl

pub ruleset cipher_names = (cipher_checks, cipher_ascii, cipher_short, cipher_refusals)

pub ruleset kdf_names = (kdf_algorithm_checks, kdf_alg_ascii, kdf_alg_short, kdf_alg_refusals)
