-- Worked examples: names of ciphers, key derivations, and padding.
use Rattle.std.specs.Prelude.{◌≡◌, ℕ, List, [], ◌∷◌, ◌++◌, length, Ok, Err, codes}
use Rattle.sshkey_model.specs.Parts.{flat}
use Rattle.sshkey_model.specs.Reading.{Length, Label, FormatEncoding, AlgorithmUnknown, TrailingData}
use Rattle.sshkey_model.specs.KeyDerivation.{Kdf, NoKdf, Bcrypt, kdf}
use Rattle.sshkey_ciphers.specs.Formats.{cipher_at, kdf_at, padding_end}

abbrev pub UnknownCipher : Type 0
UnknownCipher = cipher_at (0 ∷ 0 ∷ 0 ∷ 4 ∷ codes "None") ≡ Err Label

abbrev pub example_kdf : Kdf
example_kdf = Bcrypt (record { salt = 0 ∷ 1 ∷ 2 ∷ 3 ∷ 4 ∷ 5 ∷ 6 ∷ 7 ∷ 8 ∷ 9 ∷ 10 ∷ 11 ∷ 12 ∷ 13 ∷ 14 ∷ 15 ∷ []; rounds = 16 })

abbrev pub example_kdf_bytes : List ℕ
example_kdf_bytes = 0 ∷ 0 ∷ 0 ∷ 6 ∷ 98 ∷ 99 ∷ 114 ∷ 121 ∷ 112 ∷ 116 ∷ 0 ∷ 0 ∷ 0 ∷ 24 ∷ 0 ∷ 0 ∷ 0 ∷ 16 ∷ 0 ∷ 1 ∷ 2 ∷ 3 ∷ 4 ∷ 5 ∷ 6 ∷ 7 ∷ 8 ∷ 9 ∷ 10 ∷ 11 ∷ 12 ∷ 13 ∷ 14 ∷ 15 ∷ 0 ∷ 0 ∷ 0 ∷ 16 ∷ []

abbrev pub no_kdf_bytes : ℕ → List ℕ
no_kdf_bytes last = 0 ∷ 0 ∷ 0 ∷ 4 ∷ 110 ∷ 111 ∷ 110 ∷ 101 ∷ 0 ∷ 0 ∷ 0 ∷ last ∷ []

abbrev pub KdfHeaders : Type 0
KdfHeaders = (flat (kdf example_kdf) ≡ example_kdf_bytes) × (length example_kdf_bytes ≡ 38) × (kdf_at example_kdf_bytes ≡ Ok (example_kdf, []))
    × (flat (kdf NoKdf) ≡ no_kdf_bytes 0) × (kdf_at (no_kdf_bytes 0) ≡ Ok (NoKdf, [])) × (kdf_at (no_kdf_bytes 1) ≡ Err AlgorithmUnknown)
    × (kdf_at (0 ∷ 0 ∷ 0 ∷ 6 ∷ codes "scrypt" ++ 0 ∷ 0 ∷ 0 ∷ 0 ∷ []) ≡ Err Label)

-- a byte too much among the options of bcrypt, and one too few
abbrev pub KdfOptions : Type 0
KdfOptions = (kdf_at (0 ∷ 0 ∷ 0 ∷ 6 ∷ codes "bcrypt" ++ 0 ∷ 0 ∷ 0 ∷ 9 ∷ 0 ∷ 0 ∷ 0 ∷ 0 ∷ 0 ∷ 0 ∷ 0 ∷ 16 ∷ 0 ∷ []) ≡ Err (TrailingData 1))
    × (kdf_at (0 ∷ 0 ∷ 0 ∷ 6 ∷ codes "bcrypt" ++ 0 ∷ 0 ∷ 0 ∷ 7 ∷ 0 ∷ 0 ∷ 0 ∷ 0 ∷ 0 ∷ 0 ∷ 0 ∷ []) ≡ Err Length)

-- fewer bytes than the limit, 01, 02, 03 and so on
abbrev pub PaddingEnds : Type 0
PaddingEnds = (padding_end 8 [] ≡ Ok tt) × (padding_end 8 (1 ∷ 2 ∷ 3 ∷ 4 ∷ 5 ∷ 6 ∷ 7 ∷ []) ≡ Ok tt)
    × (padding_end 8 (1 ∷ 2 ∷ 3 ∷ 4 ∷ 5 ∷ 6 ∷ 7 ∷ 8 ∷ []) ≡ Err Length) × (padding_end 8 (0 ∷ []) ≡ Err FormatEncoding)
