-- Worked examples: critical options and extensions.
use Rattle.std.specs.Prelude.{◌≡◌, [], ◌∷◌, true, false, Ok, Err, codes}
use Rattle.sshkey_model.specs.HexText.{hex}
use Rattle.sshkey_model.specs.Parts.{flat}
use Rattle.sshkey_model.specs.Reading.{Length, CharacterEncoding, TrailingData, FormatEncoding}
use Rattle.sshkey_model.specs.Options.{CertificateOption, Plain, Nested, is_below, options, normal_options, options_at}

-- By bytes, and a beginning first.
abbrev pub NameOrder : Type 0
NameOrder = (is_below (codes "a") (codes "b") ≡ true)
    × (is_below (codes "b") (codes "a") ≡ false)
    × (is_below (codes "a") (codes "a") ≡ false)
    × (is_below [] [] ≡ false)
    × (is_below [] (codes "a") ≡ true)
    × (is_below (codes "a") [] ≡ false)
    × (is_below (codes "permit") (codes "permit-pty") ≡ true)
    × (is_below (codes "permit-pty") (codes "permit") ≡ false)
    × (is_below (codes "ab") (codes "b") ≡ true)
    × (is_below (codes "b") (codes "ab") ≡ false)
    × (is_below (codes "Z") (codes "a") ≡ true)
    × (is_below (hex "7f") (hex "c3a9") ≡ true)

abbrev pub a_option : CertificateOption
a_option = record { name = codes "a"; value = [] }

abbrev pub b_option : CertificateOption
b_option = record { name = codes "b"; value = codes "x" }

-- An empty value may be an empty box in the value's box, and is written without.
abbrev pub EmptyValues : Type 0
EmptyValues = (options_at (hex "0000000d 00000001 61 00000004 00000000") ≡ Ok ((a_option ∷ [], Nested ∷ []), []))
    × (options_at (hex "00000009 00000001 61 00000000") ≡ Ok ((a_option ∷ [], Plain ∷ []), []))
    × (flat (options (a_option ∷ []) (Nested ∷ [])) ≡ hex "0000000d 00000001 61 00000004 00000000")
    × (flat (normal_options (a_option ∷ [])) ≡ hex "00000009 00000001 61 00000000")
    × (options_at (hex "00000000") ≡ Ok (([], []), []))

-- Any other value is one text, in a box in the value's box.
abbrev pub TextValues : Type 0
TextValues = (options_at (hex "0000000e 00000001 62 00000005 00000001 78") ≡ Ok ((b_option ∷ [], Plain ∷ []), []))
    × (flat (normal_options (b_option ∷ [])) ≡ hex "0000000e 00000001 62 00000005 00000001 78")
    × (options_at (hex "00000011 00000001 61 00000008 00000000 00000000") ≡ Err (TrailingData 4))
    × (options_at (hex "0000000a 00000001 62 00000001 78") ≡ Err Length)
    × (options_at (hex "0000000e 00000001 62 00000005 00000001 ff") ≡ Err CharacterEncoding)
    × (options_at (hex "00000009 00000001 ff 00000000") ≡ Err CharacterEncoding)
    × (options_at (hex "00000005 00000001 61") ≡ Err Length)
    × (options_at (hex "0000000a 00000001 61 00000000") ≡ Err Length)

-- Names rise; the value is read before the order is judged.
abbrev pub RisingNames : Type 0
RisingNames = (options_at (hex "00000017 00000001 61 00000000 00000001 62 00000005 00000001 78") ≡ Ok ((a_option ∷ b_option ∷ [], Plain ∷ Plain ∷ []), []))
    × (options_at (hex "00000012 00000001 61 00000000 00000001 61 00000000") ≡ Err FormatEncoding)
    × (options_at (hex "00000012 00000001 62 00000000 00000001 61 00000000") ≡ Err FormatEncoding)
    × (options_at (hex "00000013 00000002 6162 00000000 00000001 61 00000000") ≡ Err FormatEncoding)
    × (options_at (hex "00000012 00000001 62 00000000 00000001 61 00000001") ≡ Err Length)
    × (options_at (hex "00000017 00000001 62 00000000 00000001 61 00000005 00000001 ff") ≡ Err CharacterEncoding)
