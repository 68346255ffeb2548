-- Worked examples: mpints and points.
use Rattle.std.specs.Prelude.{◌≡◌, ℕ, ◌+◌, ◌-◌, ◌*◌, List, [], ◌∷◌, replicate, true, false, Some, None, Ok, Err}
use Rattle.sshkey_model.specs.HexText.{hex}
use Rattle.sshkey_model.specs.Reading.{Length, FormatEncoding, AlgorithmUnknown, Ecdsa}
use Rattle.sshkey_model.specs.Names.{Curve, Nistp256, Nistp384, Nistp521}
use Rattle.sshkey_model.specs.Mpints.{is_mpint, positive_part, of_positive, mpint_at}
use Rattle.sshkey_model.specs.Points.{field_size, is_point, point_from, p256_point_from}

-- ---- mpints

-- A needless 00 is refused, and a needless ff is kept.
abbrev pub MpintForms : Type 0
MpintForms = (is_mpint [] ≡ true)
    × (is_mpint (hex "00") ≡ false)
    × (is_mpint (hex "0000") ≡ false)
    × (is_mpint (hex "0001") ≡ false)
    × (is_mpint (hex "007f") ≡ false)
    × (is_mpint (hex "0080") ≡ true)
    × (is_mpint (hex "00ff") ≡ true)
    × (is_mpint (hex "01") ≡ true)
    × (is_mpint (hex "0100") ≡ true)
    × (is_mpint (hex "7f") ≡ true)
    × (is_mpint (hex "80") ≡ true)
    × (is_mpint (hex "edcc") ≡ true)
    × (is_mpint (hex "ff21524111") ≡ true)
    × (is_mpint (hex "ff80") ≡ true)
    × (is_mpint (hex "ffff") ≡ true)

-- The numbers that RFC 4251 spells in section 5, each before a further byte; and what is refused.
abbrev pub MpintReading : Type 0
MpintReading = (mpint_at (hex "00000000 aa") ≡ Ok ([], hex "aa"))
    × (mpint_at (hex "00000008 09a378f9b2e332a7 aa") ≡ Ok (hex "09a378f9b2e332a7", hex "aa"))
    × (mpint_at (hex "00000002 0080 aa") ≡ Ok (hex "0080", hex "aa"))
    × (mpint_at (hex "00000002 edcc aa") ≡ Ok (hex "edcc", hex "aa"))
    × (mpint_at (hex "00000005 ff21524111 aa") ≡ Ok (hex "ff21524111", hex "aa"))
    × (mpint_at (hex "00000001 00") ≡ Err FormatEncoding)
    × (mpint_at (hex "00000002 007f") ≡ Err FormatEncoding)
    × (mpint_at (hex "00000002 00") ≡ Err Length)
    × (mpint_at (hex "ffffffff") ≡ Err Length)
    × (mpint_at (hex "000000") ≡ Err Length)

-- What is left of a positive number without its sign byte, and back.
abbrev pub PositiveParts : Type 0
PositiveParts = (positive_part [] ≡ None)
    × (positive_part (hex "7f") ≡ Some (hex "7f"))
    × (positive_part (hex "80") ≡ None)
    × (positive_part (hex "0080") ≡ Some (hex "80"))
    × (positive_part (hex "edcc") ≡ None)
    × (positive_part (hex "ff21524111") ≡ None)
    × (of_positive [] ≡ [])
    × (of_positive (hex "00") ≡ [])
    × (of_positive (hex "0000") ≡ [])
    × (of_positive (hex "0001") ≡ hex "01")
    × (of_positive (hex "7f") ≡ hex "7f")
    × (of_positive (hex "80") ≡ hex "0080")
    × (of_positive (hex "000080") ≡ hex "0080")
    × (of_positive (hex "0100") ≡ hex "0100")

-- ---- points

-- a tag and `n` bytes
abbrev pub tagged : ℕ → ℕ → List ℕ
tagged tag n = tag ∷ replicate n 1

-- Of a curve with coordinates of n bytes: each tag with its size, one byte off, and the tags that
-- are none.
abbrev pub PointsOf : Curve → ℕ → Type 0
PointsOf c n = (is_point (field_size c) (tagged 2 n) ≡ true)
    × (is_point (field_size c) (tagged 3 n) ≡ true)
    × (is_point (field_size c) (tagged 4 (2 * n)) ≡ true)
    × (is_point (field_size c) (tagged 2 (n - 1)) ≡ false)
    × (is_point (field_size c) (tagged 2 (n + 1)) ≡ false)
    × (is_point (field_size c) (tagged 3 (n - 1)) ≡ false)
    × (is_point (field_size c) (tagged 3 (n + 1)) ≡ false)
    × (is_point (field_size c) (tagged 2 (2 * n)) ≡ false)
    × (is_point (field_size c) (tagged 4 (2 * n - 1)) ≡ false)
    × (is_point (field_size c) (tagged 4 (2 * n + 1)) ≡ false)
    × (is_point (field_size c) (tagged 4 n) ≡ false)
    × (is_point (field_size c) (tagged 0 n) ≡ false)
    × (is_point (field_size c) (tagged 1 n) ≡ false)
    × (is_point (field_size c) (tagged 5 n) ≡ false)
    × (is_point (field_size c) (tagged 5 (2 * n)) ≡ false)
    × (is_point (field_size c) (tagged 6 (2 * n)) ≡ false)
    × (is_point (field_size c) (tagged 7 (2 * n)) ≡ false)
    × (is_point (field_size c) (0 ∷ []) ≡ false)
    × (is_point (field_size c) [] ≡ false)

abbrev pub Points : Type 0
Points = PointsOf Nistp256 32 × PointsOf Nistp384 48 × PointsOf Nistp521 66

-- The curve that a point string is of, and what is refused.
abbrev pub PointReading : Type 0
PointReading = (point_from (tagged 2 32) ≡ Ok (Nistp256, tagged 2 32))
    × (point_from (tagged 3 48) ≡ Ok (Nistp384, tagged 3 48))
    × (point_from (tagged 2 66) ≡ Ok (Nistp521, tagged 2 66))
    × (point_from (tagged 4 64) ≡ Ok (Nistp256, tagged 4 64))
    × (point_from (tagged 4 96) ≡ Ok (Nistp384, tagged 4 96))
    × (point_from (tagged 4 132) ≡ Ok (Nistp521, tagged 4 132))
    × (point_from [] ≡ Err Length)
    × (point_from (hex "00") ≡ Err AlgorithmUnknown)
    × (point_from (tagged 5 32) ≡ Err AlgorithmUnknown)
    × (point_from (tagged 1 32) ≡ Err Ecdsa)
    × (point_from (tagged 6 64) ≡ Err Ecdsa)
    × (point_from (tagged 7 32) ≡ Err Ecdsa)
    × (point_from (tagged 2 31) ≡ Err Length)
    × (point_from (tagged 2 33) ≡ Err Length)
    × (point_from (tagged 4 65) ≡ Err Ecdsa)
    × (point_from (tagged 4 63) ≡ Err Length)
    × (point_from (tagged 4 66) ≡ Err Length)
    × (point_from (tagged 4 10) ≡ Err Length)

-- A point string has at most 133 bytes, and that of a security key 65: more is too long, whatever
-- its tag.
abbrev pub LongPoints : Type 0
LongPoints = (point_from (tagged 4 133) ≡ Err Length)
    × (point_from (tagged 7 132) ≡ Err Ecdsa)
    × (point_from (tagged 7 133) ≡ Err Length)
    × (p256_point_from (tagged 2 32) ≡ Ok (tagged 2 32))
    × (p256_point_from (tagged 4 64) ≡ Ok (tagged 4 64))
    × (p256_point_from (tagged 7 64) ≡ Err Ecdsa)
    × (p256_point_from (tagged 7 65) ≡ Err Length)
    × (p256_point_from (tagged 0 32) ≡ Err Ecdsa)
    × (p256_point_from (tagged 5 32) ≡ Err Ecdsa)
    × (p256_point_from [] ≡ Err Ecdsa)
