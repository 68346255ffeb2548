-- Random art: a walk through a field of 17 columns and 9 rows, led by a digest (OpenSSH, sshkey.c,
-- `fingerprint_randomart`).
use Rattle.std.specs.Prelude.{◌<◌, ◌==◌, ◌+◌, ◌-◌, ◌/◌, ◌%◌, ℕ, List, [], ◌∷◌, ◌++◌, Bool, true, false, ◌&&◌, if◌then◌else◌, codes, get_or, map, min, replicate}
use Rattle.std.specs.Fmt.{char_count}
use Rattle.std.specs.List.{count_by, flat_map, range_with_len}
use Rattle.sshkey_model.specs.Names.{Hash, Sha256, Sha512}

-- ---- the walk

pub record Cell : Type 0 where
  pub column : ℕ
  pub row : ℕ

abbrev pub IsInField : ℕ → ℕ → Type 0
IsInField column row = (column < 17) × (row < 9)

-- The walk starts in the middle.
abbrev pub start : Cell
start = record { column = 8; row = 4 }

abbrev pub bit_of : Bool → ℕ
bit_of true = 1
bit_of false = 0

-- One place on where the bit is set, else one back; at the edge it stays.
abbrev pub along : ℕ → ℕ → ℕ → ℕ
along edge bit place = if bit == 1 then min (place + 1) edge else place - 1

-- Two bits are a step: the lower one goes right or left, the higher one down or up.
abbrev pub next : Cell → ℕ → Cell
next c bits = record { column = along 16 (bits % 2) c.column; row = along 8 (bits / 2) c.row }

-- the cells that the steps reach, in order
unfoldable pub reached : Cell → List ℕ → List Cell
reached c [] = []
reached c (bits ∷ rest) = next c bits ∷ reached (next c bits) rest

-- a byte's steps, the lowest bits first
abbrev pub steps : ℕ → List ℕ
steps b = (b % 4) ∷ (b / 4 % 4) ∷ (b / 16 % 4) ∷ (b / 64) ∷ []

-- the cells that a digest's steps reach
unfoldable pub trail : List ℕ → List Cell
trail d = reached start (flat_map steps d)

-- ---- the picture

-- the last of the cells
unfoldable pub last_of : Cell → List Cell → Cell
last_of c [] = c
last_of c (x ∷ xs) = last_of x xs

abbrev pub is_cell : Cell → Cell → Bool
is_cell c x = (c.column == x.column) && (c.row == x.row)

-- What a cell shows: where the walk ends, where it starts, or how often it was reached, 14 at most.
unfoldable pub shade : List ℕ → Cell → ℕ
shade d c = if is_cell c (last_of start (trail d)) then 16
    else if is_cell c start then 15
    else min 14 (count_by (is_cell c) (trail d))

-- the character for it
unfoldable pub symbol : ℕ → ℕ
symbol n = get_or (codes " .o+=*BOX@%&#/^SE") n 32

-- a row of characters between two bars, with its line end
unfoldable pub bar : List ℕ → List ℕ
bar shades = codes "|" ++ (map symbol shades ++ codes "|\n")

unfoldable pub row_line : List ℕ → ℕ → List ℕ
row_line d row = bar (map (λ column. shade d (record { column = column; row = row })) (range_with_len 0 17))

-- The text between dashes, 17 characters in all if it has no more, and between two crosses. Of an
-- odd number of dashes fewer stand before it.
unfoldable pub title : List ℕ → List ℕ
title text =
    let dashes = 17 - char_count text in
    codes "+" ++ (replicate (dashes / 2) 45 ++ (text ++ (replicate (dashes - dashes / 2) 45 ++ codes "+")))

abbrev pub hash_label : Hash → List ℕ
hash_label Sha256 = codes "[SHA256]"
hash_label Sha512 = codes "[SHA512]"

unfoldable pub rows : List ℕ → List ℕ
rows d = flat_map (row_line d) (range_with_len 0 9)

-- The header, the nine rows, and the name of the hash; no line end after it.
unfoldable pub picture : List ℕ → Hash → List ℕ → List ℕ
picture header h d = title header ++ (codes "\n" ++ (rows d ++ title (hash_label h)))
