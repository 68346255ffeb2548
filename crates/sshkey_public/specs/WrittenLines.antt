-- Texts that stand in one line.
use Rattle.std.specs.Prelude.{ℕ, List, ◌≡◌, zero, suc, ◌<◌, ◌≤◌, ◌∷◌, ◌+◌, ◌*◌, ◌/◌, ◌++◌, length, take, drop, Result, Ok, Err, Some, ◌⊎◌, []}
use Rattle.sshkey_model.specs.Lines.{IsWithout, written, space, after_space}
use Rattle.sshkey_model.specs.Parts.{Parts, flat, BoxesFit, bytes, ◌&◌}
use Rattle.sshkey_base.specs.Sink.{Sink, Written, Stopped}
use Rattle.sshkey_base.specs.declared.encoding.Error.{Error}
use Rattle.sshkey_base.specs.declared.encoding.Error.TheVariants.{Length}

abbrev pub line_feed : ℕ
line_feed = 0x0a

abbrev pub carriage_return : ℕ
carriage_return = 0x0d

-- No line ends in the text: it holds no line feed and no carriage return.
abbrev pub IsOneLine : List ℕ → Type 0
IsOneLine text = IsWithout line_feed text × IsWithout carriage_return text

-- What is written into a slice.

-- The first bytes of a slice were written. Before them stands the slice's name, as a byte more, so
-- that whoever knows the sink knows which slice it is.
abbrev pub filled : ℕ → ℕ → List ℕ → Sink
filled name len slice = record { written = name ∷ take len slice; limit = Some (suc (length slice)) }

-- The bytes were added to those that were written into a slice, and what follows them is as it was.
pub record Added (count : ℕ) (slice bytes : List ℕ) (n : ℕ) (new : List ℕ) : Type 0 where
  pub is : take n new ≡ take count slice ++ bytes
  pub len : n ≡ count + length bytes
  pub room : length new ≡ length slice
  pub after : drop n new ≡ drop n slice

-- how many bytes a comment of n takes, with the space before it
abbrev pub spaced : ℕ → ℕ
spaced zero = 0
spaced (suc n) = suc (suc n)

-- how many bytes a line has with a name, a blob and a comment of these lengths
abbrev pub line_size : ℕ → ℕ → ℕ → ℕ
line_size name blob comment = name + 1 + 4 * ((blob + 2) / 3) + spaced comment

-- The parts have `count` bytes, and there is room for their line. Or: a box is too long, or there
-- is no room.
abbrev pub HasRoom : List ℕ → Parts → List ℕ → ℕ → Result ℕ Error → Type 0
HasRoom name p comment room (Ok count) = BoxesFit p × (count ≡ length (flat p)) × (line_size (length name) count (length comment) ≤ room)
HasRoom name p comment room (Err e) = (e ≡ Length) × (BoxesFit p → room < line_size (length name) (length (flat p)) (length comment))

-- The line stands at the front of a slice, whose length is as it was, and has `n` bytes. What
-- follows it is as it was.
pub record BeginsWith (line old : List ℕ) (n : ℕ) (new : List ℕ) : Type 0 where
  pub front : take n new ≡ line
  pub len : n ≡ length line
  pub room : length new ≡ length old
  pub after : drop n new ≡ drop n old

-- The line stands at the front of the slice, whose other bytes are as they were. Or: a box is too
-- long, or there is no room for the line, and the slice is as it was.
abbrev pub FillsLine : List ℕ → Parts → List ℕ → List ℕ → Result ℕ Error → List ℕ → Type 0
FillsLine name p comment old (Ok n) new = BoxesFit p × BeginsWith (written name (flat p) comment) old n new
FillsLine name p comment old (Err e) new = (e ≡ Length) × (BoxesFit p → length old < length (written name (flat p) comment)) × (new ≡ old)

-- What is written of a line.

-- A line of that first word, word and comment, part by part.
abbrev pub line_parts : List ℕ → List ℕ → List ℕ → Parts
line_parts first word comment = bytes first & (bytes (space ∷ []) & (bytes word & bytes (after_space comment)))

-- Nothing was written, since a box of the parts is too long.
abbrev pub NotMade : Parts → Sink → Error → Sink → Type 0
NotMade p s e t = (t ≡ s) × (BoxesFit p → ⊥) × (e ≡ Length)

-- The line of that name, the parts and the comment was added. Or: nothing was written, or the
-- writer refused.
abbrev pub WritesLineTo : (Error → Type 0) → List ℕ → Parts → List ℕ → Sink → Result (Unit {0}) Error → Sink → Type 0
WritesLineTo fault name p comment s (Ok _) t = BoxesFit p × Written (bytes (written name (flat p) comment)) s t
WritesLineTo fault name p comment s (Err e) t = NotMade p s e t ⊎ (BoxesFit p × Stopped fault s (written name (flat p) comment) e t)
