-- In which lines of authorized_keys a key may be spelled for sshd(8). It passes over white space
-- within Base64, and reads needless zeros and other names in front of a key, or did so.
use Rattle.std.specs.Prelude.{◌≡◌, ◌⊎◌, ℕ, ◌+◌, ◌-◌, ◌<◌, ◌≤◌, List, [], ◌∷◌, ◌++◌, false, drop, length, slice_index, slice_range, Option, Some, None}
use Rattle.base64.specs.Engines.{standard}
use Rattle.base64.specs.GeneralPurpose.{encode_of}
use Rattle.memchr.specs.Find.{OccursAt}
use Rattle.sshkey_entries.specs.Fields.{is_white, without_front}
use Rattle.user_keys.specs.declared.marks.Marks.{Marks}
use Rattle.sshkey_model.specs.Keys.{Key, Dsa, Ecdsa, Ed25519, Rsa, SkEcdsa, SkEd25519, Opaque}
use denote.Ref.{Bor}
use Rattle.std.specs.List.{All}
use Rattle.std.specs.Str.Lines.{lines}

-- ---- the part by which a key is sought

-- its point, or its last number
abbrev pub own_part : Key → List ℕ
own_part (Dsa k) = k.y
own_part (Ecdsa c point) = point
own_part (Ed25519 k) = k
own_part (Rsa k) = k.n
own_part (SkEcdsa k) = k.key
own_part (SkEd25519 k) = k.key
own_part (Opaque name k) = k

-- The Base64 of 15 of its last 17 bytes, after which so many stand. One of three such texts stands
-- in the Base64 of any bytes that have these 17, wherever they stand in them.
abbrev pub mark : List ℕ → ℕ → List ℕ
mark part after = encode_of standard (slice_range part (length part - (15 + after)) (length part - after))

-- ---- where it stands

-- The symbols come first in the text, white space before each aside.
abbrev pub Follow : List ℕ → List ℕ → Type 0
Follow [] text = Unit {0}
Follow (symbol ∷ symbols) text = (rest : List ℕ) × (without_front is_white text ≡ symbol ∷ rest) × Follow symbols rest

-- They stand in the text from that place on, white space between them aside.
abbrev pub StandAt : List ℕ → List ℕ → ℕ → Type 0
StandAt [] text place = ⊥
StandAt (symbol ∷ symbols) text place = (slice_index text place ≡ symbol) × Follow symbols (drop (place + 1) text)

abbrev pub StandIn : List ℕ → List ℕ → Type 0
StandIn symbols text = (place : ℕ) × (place < length text) × StandAt symbols text place

-- A key with that part may be spelled in the line.
abbrev pub MaySpell : List ℕ → List ℕ → Type 0
MaySpell part line = StandIn (mark part 2) line ⊎ StandIn (mark part 1) line ⊎ StandIn (mark part 0) line

-- ---- the marks of a key

abbrev pub AreMarks : List ℕ → Marks → Type 0
AreMarks part m = (m.first.symbols ≡ mark part 2) × (m.second.symbols ≡ mark part 1) × (m.third.symbols ≡ mark part 0)

abbrev pub HasMark : Marks → List ℕ → Type 0
HasMark m text = StandIn m.first.symbols text ⊎ StandIn m.second.symbols text ⊎ StandIn m.third.symbols text

abbrev pub HasMarkAt : Marks → List ℕ → ℕ → Type 0
HasMarkAt m text place = StandAt m.first.symbols text place ⊎ StandAt m.second.symbols text place ⊎ StandAt m.third.symbols text place

-- What follows the symbol, if it comes first.
abbrev pub FindsAfter : List ℕ → ℕ → Option (Bor (List ℕ)) → Type 0
FindsAfter text symbol None = (rest : List ℕ) → without_front is_white text ≡ symbol ∷ rest → ⊥
FindsAfter text symbol (Some rest) = without_front is_white text ≡ symbol ∷ rest.now

-- the first place from there on where a mark may stand, by its first symbol
abbrev pub FindsStart : Marks → List ℕ → ℕ → Option ℕ → Type 0
FindsStart m text from None = (k : ℕ) → from ≤ k → k < length text → HasMarkAt m text k → ⊥
FindsStart m text from (Some place) = (from ≤ place) × (place < length text) × ((k : ℕ) → from ≤ k → k < place → HasMarkAt m text k → ⊥)

-- ---- texts in which no mark stands

abbrev pub IsUnspaced : List ℕ → Type 0
IsUnspaced text = (k : ℕ) → k < length text → is_white (slice_index text k) ≡ false

-- The symbols stand nowhere in the text without white space between them.
abbrev pub Lacks : List ℕ → List ℕ → Type 0
Lacks symbols text = (k : ℕ) → OccursAt text symbols k → ⊥

-- No mark stands in any part of the text.
abbrev pub IsUnmarked : Marks → List ℕ → Type 0
IsUnmarked m text = (before part after : List ℕ) → text ≡ before ++ (part ++ after) → HasMark m part → ⊥

-- The lines at the front of a text that are not for a key, since none of its marks stands in them.

-- The first lines of the text are so many without a mark, and its others are those of the rest.
pub record SkipsLines (m : Marks) (text : List ℕ) (count : ℕ) (rest : List ℕ) : Type 0 where
  pub before : List (List ℕ)
  pub is : lines text ≡ before ++ lines rest
  pub counted : count ≡ length before
  pub unmarked : All (λ line. ¬ HasMark m line) before
  pub smaller : count + length rest ≤ length text
