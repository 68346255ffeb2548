-- What is encrypted: whole blocks, and a tag after them (PROTOCOL.key).
use Rattle.std.specs.Prelude.{◌≡◌, ℕ, ◌%◌, List, [], length, true, Option, Some, None, Result, Ok, Err, ◌==◌, if◌then◌else◌, nat_lt, bytes_eq}
use Rattle.sshkey_model.specs.Parts.{bytes, HasLength, Any}
use Rattle.sshkey_model.specs.Texts.{string}
use Rattle.sshkey_model.specs.Reading.{Fault, Front, Crypto, bytes_at, checked_at, string_at, AlgorithmUnknown, Length, FormatEncoding, Whole}
use Rattle.sshkey_model.specs.Grammar.{Spells}
use Rattle.sshkey_model.specs.KeyDerivation.{Cipher, block_size, tag_size, cipher_name, Kdf, NoKdf, Bcrypt, KdfAlgorithm, NoDerivation, BcryptDerivation, kdf_name}
use Rattle.sshkey_model.specs.Formats.{Format}
use Rattle.sshkey_model.specs.Needs.{NoNeed, NeedsString}
use Rattle.sshkey_model.specs.Overruns.{NoOverrun, OverrunsString}
use Rattle.sshkey_model.specs.Terms.{◌then◌, boxed, called, tested, read_as}
use Rattle.sshkey_model.specs.Leaves.{number32_format, string_format}
use Rattle.sshkey_model.specs.Labels.{label_format}
use Rattle.sshkey_ciphers.specs.Ciphers.{cipher_from, kdf_algorithm_from}
use Rattle.sshkey_model.specs.PrivateKeys.{rising}

abbrev pub blocks_from : Cipher → List ℕ → Result (List ℕ) Fault
blocks_from c b = if length b % block_size c == 0 then Ok b else Err Crypto

abbrev pub AreBlocks : Cipher → List ℕ → Type 0
AreBlocks c b = (length b % block_size c == 0) ≡ true

-- the string of a ciphertext of whole blocks
unfoldable pub blocks_at : Cipher → Front (List ℕ)
blocks_at c = checked_at (blocks_from c) string_at

abbrev pub blocks_format : Cipher → Format (List ℕ)
blocks_format c = record { Spells = Spells (AreBlocks c) string; read = blocks_at c; delimited_at = blocks_at c; needs = NeedsString; overruns = OverrunsString }

-- as many bytes as the cipher's tag has
abbrev pub tag_format : Cipher → Format (List ℕ)
tag_format c = record { Spells = Spells (HasLength (tag_size c)) bytes; read = bytes_at (tag_size c); delimited_at = bytes_at (tag_size c); needs = NoNeed; overruns = NoOverrun }

-- the ciphertext, and its tag after it
abbrev pub sealed_format : Cipher → Format (List ℕ × List ℕ)
sealed_format c = blocks_format c then tag_format c

-- the tag; none is no bytes
abbrev pub tag_bytes : Option (List ℕ) → List ℕ
tag_bytes (Some t) = t
tag_bytes None = []

-- The formats of ciphers and key derivations (PROTOCOL.key): the terms that they are read as.

abbrev pub cipher_format : Format Cipher
cipher_format = label_format Any cipher_name cipher_from NoNeed

abbrev pub cipher_at : Front Cipher
cipher_at = cipher_format.read

abbrev pub algorithm_format : Format KdfAlgorithm
algorithm_format = label_format Any kdf_name kdf_algorithm_from NoNeed

abbrev pub kdf_algorithm_at : Front KdfAlgorithm
kdf_algorithm_at = algorithm_format.read

-- ---- what a key derivation takes

-- the number 0
abbrev pub no_options : ℕ → Result Kdf Fault
no_options n = if n == 0 then Ok NoKdf else Err AlgorithmUnknown

abbrev pub none_format : Format Kdf
none_format = tested no_options number32_format

-- a string of salt and rounds
abbrev pub bcrypt_parts_format : Format (List ℕ × ℕ)
bcrypt_parts_format = boxed (string_format then number32_format)

abbrev pub bcrypt_with : List ℕ × ℕ → Kdf
bcrypt_with a = Bcrypt (record { salt = a.0; rounds = a.1 })

abbrev pub bcrypt_of_parts : List ℕ × ℕ → Result Kdf Fault
bcrypt_of_parts a = Ok (bcrypt_with a)

abbrev pub bcrypt_format : Format Kdf
bcrypt_format = tested bcrypt_of_parts bcrypt_parts_format

abbrev pub options_format : KdfAlgorithm → Format Kdf
options_format NoDerivation = none_format
options_format BcryptDerivation = bcrypt_format

-- ---- a key derivation

-- an algorithm's name, and after it what that algorithm takes
abbrev pub kdf_term : Format Kdf
kdf_term = called algorithm_format options_format

unfoldable pub kdf_at : Front Kdf
kdf_at = kdf_term.read

abbrev pub kdf_format : Format Kdf
kdf_format = read_as kdf_term kdf_at

-- the bytes spell the key derivation
abbrev pub SpellsKdf : Kdf → List ℕ → Type 0
SpellsKdf = kdf_format.Spells

-- Padding that stands up to the end (PROTOCOL.key).

-- the rest must be padding: 01, 02, 03 and so on, and fewer bytes than the limit
abbrev pub end_padding_below : {A : Type 0} → ℕ → A → List ℕ → Result A Fault
end_padding_below limit x rest =
    if nat_lt (length rest) limit then (if bytes_eq rest (rising 1 (length rest)) then Ok x else Err FormatEncoding)
    else Err Length

abbrev pub padding_end : ℕ → Whole (Unit {0})
padding_end limit = end_padding_below limit tt
