-- Worked examples: numbers, strings, texts and lists of texts.
use Rattle.std.specs.Prelude.{◌≡◌, [], ◌∷◌, Ok, Err, codes}
use Rattle.std.specs.Int.{w8, w32, w64}
use Rattle.sshkey_model.specs.HexText.{hex}
use Rattle.sshkey_model.specs.Parts.{number, flat}
use Rattle.sshkey_model.specs.Reading.{Length, CharacterEncoding, TrailingData, number_at, string_at, bytes_at, box_at, whole}
use Rattle.sshkey_model.specs.Texts.{string, text_at, texts, texts_at}

-- The most significant byte stands first.
abbrev pub Numbers : Type 0
Numbers = (number_at w8 (hex "ff aa") ≡ Ok (255, hex "aa"))
    × (number_at w32 (hex "01020304 aa") ≡ Ok (0x01020304, hex "aa"))
    × (number_at w64 (hex "8000000000000001") ≡ Ok (0x8000000000000001, []))
    × (number_at w32 (hex "010203") ≡ Err Length)
    × (flat (number w32 0x01020304) ≡ hex "01020304")
    × (flat (number w64 1) ≡ hex "0000000000000001")

-- A length and as many bytes; 255 is a byte and 256 is none.
abbrev pub Strings : Type 0
Strings = (string_at (hex "00000000 aa") ≡ Ok ([], hex "aa"))
    × (string_at (hex "00000002 0102 aa") ≡ Ok (hex "0102", hex "aa"))
    × (string_at (hex "00000003 0102") ≡ Err Length)
    × (string_at (hex "ffffffff") ≡ Err Length)
    × (string_at (hex "000000") ≡ Err Length)
    × (string_at (0 ∷ 0 ∷ 0 ∷ 1 ∷ 255 ∷ []) ≡ Ok (255 ∷ [], []))
    × (string_at (0 ∷ 0 ∷ 0 ∷ 1 ∷ 256 ∷ []) ≡ Err Length)
    × (flat (string (hex "0102")) ≡ hex "00000002 0102")
    × (flat (string []) ≡ hex "00000000")

-- What stands in a string fills it.
abbrev pub Boxes : Type 0
Boxes = (box_at (whole (bytes_at 2)) (hex "00000002 0102 aa") ≡ Ok (hex "0102", hex "aa"))
    × (box_at (whole (bytes_at 2)) (hex "00000001 0102 aa") ≡ Err Length)
    × (box_at (whole (bytes_at 2)) (hex "00000003 0102 aa") ≡ Err (TrailingData 1))
    × (box_at (whole (bytes_at 2)) (hex "00000004 0102 aa") ≡ Err Length)

-- Texts are UTF-8: no single ff, no half a character, none in more bytes than it needs, no
-- surrogate.
abbrev pub Texts : Type 0
Texts = (text_at (hex "00000002 c3a9 aa") ≡ Ok (hex "c3a9", hex "aa"))
    × (text_at (hex "00000004 f09f9880") ≡ Ok (hex "f09f9880", []))
    × (text_at (hex "00000001 7f") ≡ Ok (hex "7f", []))
    × (text_at (hex "00000001 80") ≡ Err CharacterEncoding)
    × (text_at (hex "00000001 ff") ≡ Err CharacterEncoding)
    × (text_at (hex "00000001 c3 a9") ≡ Err CharacterEncoding)
    × (text_at (hex "00000002 c080") ≡ Err CharacterEncoding)
    × (text_at (hex "00000003 eda080") ≡ Err CharacterEncoding)
    × (text_at (hex "00000002 ff") ≡ Err Length)

-- The texts fill the string that holds them.
abbrev pub TextLists : Type 0
TextLists = (texts_at (hex "00000000 aa") ≡ Ok ([], hex "aa"))
    × (texts_at (hex "00000004 00000000") ≡ Ok ([] ∷ [], []))
    × (texts_at (hex "0000000a 00000001 61 00000001 62") ≡ Ok (codes "a" ∷ codes "b" ∷ [], []))
    × (flat (texts (codes "a" ∷ codes "b" ∷ [])) ≡ hex "0000000a 00000001 61 00000001 62")
    × (texts_at (hex "00000009 00000001 61 00000001 62") ≡ Err Length)
    × (texts_at (hex "00000008 00000001 61 000000") ≡ Err Length)
    × (texts_at (hex "00000005 00000001 ff") ≡ Err CharacterEncoding)
