-- How a list of patterns is cut at its commas.
use Rattle.std.specs.Prelude.{ℕ, List, [], ◌∷◌, length, Bool, ◌==◌, if◌then◌else◌, ◌≡◌, ◌≢◌, ◌⊎◌, ◌<◌, ◌++◌, slice_index, ◌↔◌, ◌≤◌, drop, Option, Some, None}
use Rattle.std.specs.List.{slice_split, All, Any}
use Rattle.std.specs.Char.{to_ascii_lowercase}
use Rattle.sshkey_matching.specs.declared.pattern.LetterCase.{LetterCase}
use Rattle.sshkey_matching.specs.declared.pattern.LetterCase.TheVariants.{Sensitive, Insensitive}
use denote.Ref.{Bor}

abbrev pub is_comma : ℕ → Bool
is_comma c = c == 0x2c

-- pieces, but for the last where it is empty
abbrev pub without_empty_last : List (List ℕ) → List (List ℕ)
without_empty_last [] = []
without_empty_last (piece ∷ []) = if length piece == 0 then [] else piece ∷ []
without_empty_last (piece ∷ next ∷ more) = piece ∷ without_empty_last (next ∷ more)

-- The patterns of a list: the pieces between commas, a last empty one left out (sshd(8),
-- "SSH_KNOWN_HOSTS FILE FORMAT").
unfoldable pub patterns : List ℕ → List (List ℕ)
patterns text = without_empty_last (slice_split is_comma text)

-- In which form letters are compared.

-- each as it is; or in small letters
abbrev pub fold_of : LetterCase → ℕ → ℕ
fold_of Sensitive = λ c. c
fold_of Insensitive = to_ascii_lowercase

-- Which texts a pattern matches, and which ones a list of patterns is for (ssh_config(5),
-- "PATTERNS").

abbrev pub star : ℕ
star = 0x2a

abbrev pub question_mark : ℕ
question_mark = 0x3f

abbrev pub exclamation_mark : ℕ
exclamation_mark = 0x21

-- A character of a pattern stands for a part of a text: a star for any, also for an empty one, a
-- question mark for one character, and each character for those that `fold` takes for the same, as
-- it does a letter's two cases, or none but itself.
abbrev pub StandsFor : (ℕ → ℕ) → ℕ → List ℕ → Type 0
StandsFor fold c part = (c ≡ star) ⊎ ((c ≡ question_mark) × (length part ≡ 1)) ⊎ ((x : ℕ) × (part ≡ x ∷ []) × (fold c ≡ fold x))

-- The text is made of the parts that the characters of the pattern stand for, in order.
abbrev pub Matches : (ℕ → ℕ) → List ℕ → List ℕ → Type 0
Matches fold [] text = text ≡ []
Matches fold (c ∷ pattern) text = (part : List ℕ) × (rest : List ℕ) × (text ≡ part ++ rest) × StandsFor fold c part × Matches fold pattern rest

-- ---- in a list

-- a pattern without its mark of negation
abbrev pub unmarked : List ℕ → List ℕ
unmarked [] = []
unmarked (c ∷ pattern) = if c == exclamation_mark then pattern else c ∷ pattern

-- The pattern is not negated, and matches the text.
abbrev pub MatchesUnnegated : (ℕ → ℕ) → List ℕ → List ℕ → Type 0
MatchesUnnegated fold text pattern = (slice_index pattern 0 ≢ exclamation_mark) × Matches fold pattern text

-- It is negated, by a `!` in front, and what follows that matches the text.
abbrev pub MatchesNegated : (ℕ → ℕ) → List ℕ → List ℕ → Type 0
MatchesNegated fold text pattern = (slice_index pattern 0 ≡ exclamation_mark) × Matches fold (unmarked pattern) text

-- One of the patterns names the text, and no negated one refuses it.
abbrev pub IsNamed : (ℕ → ℕ) → List ℕ → List (List ℕ) → Type 0
IsNamed fold text patterns = Any (MatchesUnnegated fold text) patterns × ¬ Any (MatchesNegated fold text) patterns

-- OpenSSH has 1,024 bytes for a pattern, and takes a list with one that does not fit for nobody's.
abbrev pub IsShortPattern : List ℕ → Type 0
IsShortPattern pattern = length (unmarked pattern) < 1023

-- The patterns between the commas of the list name the text, and none of them is too long.
pub record MatchesList (fold : ℕ → ℕ) (list text : List ℕ) : Type 0 where
  pub named : IsNamed fold text (patterns list)
  pub short : All IsShortPattern (patterns list)

-- How far a pattern is matched against a text, and what is left of both.

-- What is left matches exactly if all does, and whatever else the pattern matches, what is left of
-- it matches what follows as many characters.
pub record GoesOn (fold : ℕ → ℕ) (pattern text rest left : List ℕ) : Type 0 where
  pub steps : ℕ
  pub is : left ≡ drop steps text
  pub same : Matches fold pattern text ↔ Matches fold rest left
  pub others : (other : List ℕ) → Matches fold pattern other → (steps ≤ length other) × Matches fold rest (drop steps other)
  pub shorter : length rest ≤ length pattern

-- Where no star stands next, what is left matches only if it is nothing.
abbrev pub IsStuck : (ℕ → ℕ) → List ℕ → List ℕ → Type 0
IsStuck fold rest left = slice_index rest 0 ≢ star → Matches fold rest left → (rest ≡ []) × (left ≡ [])

-- The pattern matches what is left of the text after some of its characters, or after none.
abbrev pub MatchesLater : (ℕ → ℕ) → List ℕ → List ℕ → Type 0
MatchesLater fold pattern text = (k : ℕ) × Matches fold pattern (drop k text)

-- It does so exactly if what is left matches.
pub record HasFront (fold : ℕ → ℕ) (pattern text rest left : List ℕ) : Type 0 where
  pub same : MatchesLater fold pattern text ↔ Matches fold rest left
  pub stuck : IsStuck fold rest left
  pub shorter : length rest ≤ length pattern

-- what is left; or it matches nowhere
abbrev pub FindsFront : (ℕ → ℕ) → List ℕ → List ℕ → Option (Bor (List ℕ) × Bor (List ℕ)) → Type 0
FindsFront fold pattern text (Some x) = HasFront fold pattern text x.0.now x.1.now
FindsFront fold pattern text None = MatchesLater fold pattern text → ⊥
