-- The option at a place.
use Rattle.std.proofs.Common.{◌≡◌, ◌<◌, ◌^◌, ℕ, List, [], ◌∷◌, ◌++◌, length, true, refl, sym, ap, subst, ◌∙◌, append_assoc, ◌≢◌, append-nil, ◌≤◌, ◌+◌, ◌-◌, ◌↔◌, drop, arith, length-append, length-drop}
use Rattle.std.specs.Int.{w32, to_be_bytes}
use Rattle.sshkey_model.specs.Options.{HasNesting, Nesting, Plain, Nested, option_value}
use Rattle.sshkey_model.specs.Parts.{Fits, Parts, are_bytes, bytes, box, flat, InRange}
use Rattle.sshkey_model.specs.Texts.{string}
use Rattle.sshkey_model.proofs.CombinedReaders.{are_bytes-append, fits_box, fits_bytes, fits_first, fits_second, fits_inside, fits_length, wide32}
use Rattle.sshkey_model.proofs.Grammars.{one_front}
use Rattle.sshkey_model.specs.Leaves.{SpellsString}
use Rattle.sshkey_base.proofs.Lawful.{string_grammar}
use Rattle.sshkey_base.specs.Reading.{NoFront}
use Rattle.sshkey_terms.specs.Slices.{IsSplit}
use Rattle.sshkey_calls.specs.Certificates.{BeginsWithOption, FindsOption}
use Rattle.sshkey_calls.specs.declared.option.OptionParts.{OptionParts}
use Rattle.sshkey_calls.proofs.Places.{Stands, stands, string_stands}

-- ---- a value in its string

value_bytes : (v : List ℕ) (n : Nesting) → Fits (option_value v n) → are_bytes (flat (option_value v n)) ≡ true
unfolding flat InRange
value_bytes [] Plain fits = refl
value_bytes [] Nested fits = are_bytes-append (to_be_bytes w32 0) [] (wide32.are 0) refl
value_bytes (c ∷ v) n fits = are_bytes-append (to_be_bytes w32 (length (c ∷ v))) (c ∷ v) (wide32.are (length (c ∷ v))) fits.range

-- it stands last there
pub value_last : (v : List ℕ) (n : Nesting) → (before : List ℕ) × (flat (option_value v n) ≡ before ++ v)
unfolding flat
value_last [] Plain = ([], refl)
value_last [] Nested = (to_be_bytes w32 0, refl)
value_last (c ∷ v) n = (to_be_bytes w32 (length (c ∷ v)), refl)

-- ---- the two strings of an option

abbrev value_box : List ℕ → Nesting → Parts
value_box value nesting = box (option_value value nesting)

module _ (name value b rest : List ℕ) (h : BeginsWithOption name value b rest) where
  pub strings_are : b ≡ flat (string name) ++ (flat (value_box value h.nesting) ++ rest)
  unfolding flat
  strings_are = h.all ∙ append_assoc (flat (string name)) (flat (value_box value h.nesting)) rest

  pub name_string : SpellsString name (flat (string name))
  name_string = record { is = tt; fits = fits_first (string name) (value_box value h.nesting) h.fits; shape = refl }

  box_fits : Fits (value_box value h.nesting)
  box_fits = fits_second (string name) (value_box value h.nesting) h.fits

  pub value_fits : Fits (option_value value h.nesting)
  value_fits = fits_inside (option_value value h.nesting) box_fits

  pub value_string : SpellsString (flat (option_value value h.nesting)) (flat (value_box value h.nesting))
  unfolding flat
  value_string =
      let v = flat (option_value value h.nesting) in
      record { is = tt; fits = fits_box (bytes v) (fits_length (option_value value h.nesting) box_fits) (fits_bytes v (value_bytes value h.nesting value_fits)); shape = refl }

  pub one_name : (n left : List ℕ) → IsSplit (SpellsString n) b left → left ≡ flat (value_box value h.nesting) ++ rest
  one_name n left split = (one_front string_grammar n name split.front (flat (string name)) left (flat (value_box value h.nesting) ++ rest) split.spelled name_string (sym split.all ∙ strings_are)).2

  pub one_value : (n left s after : List ℕ) → IsSplit (SpellsString n) b left → IsSplit (SpellsString s) left after → s ≡ flat (option_value value h.nesting)
  one_value n left s after split next = (one_front string_grammar s (flat (option_value value h.nesting)) next.front (flat (value_box value h.nesting)) after rest next.spelled value_string (sym next.all ∙ one_name n left split)).0

-- ---- where none begins

module _ (b : List ℕ) where
  pub no_name : NoFront SpellsString b → (name value rest : List ℕ) → BeginsWithOption name value b rest → ⊥
  no_name none name value rest h = none name (flat (string name)) (flat (value_box value h.nesting) ++ rest) (name_string name value b rest h) (strings_are name value b rest h)

  pub no_value : (n left : List ℕ) → IsSplit (SpellsString n) b left → NoFront SpellsString left → (name value rest : List ℕ) → BeginsWithOption name value b rest → ⊥
  no_value n left split none name value rest h = none (flat (option_value value h.nesting)) (flat (value_box value h.nesting)) rest (value_string name value b rest h) (one_name name value b rest h n left split)

  pub other_value : (n left s after : List ℕ) → IsSplit (SpellsString n) b left → IsSplit (SpellsString s) left after → ((v : List ℕ) (nesting : Nesting) → HasNesting v nesting → Fits (option_value v nesting) → s ≡ flat (option_value v nesting) → ⊥) → (name value rest : List ℕ) → BeginsWithOption name value b rest → ⊥
  other_value n left s after split next none name value rest h = none value h.nesting h.place (value_fits name value b rest h) (one_value name value b rest h n left s after split next)

  -- there it does
  pub begins : (name left s value after : List ℕ) → IsSplit (SpellsString name) b left → IsSplit (SpellsString s) left after → (nesting : Nesting) × HasNesting value nesting × Fits (option_value value nesting) × (s ≡ flat (option_value value nesting)) → BeginsWithOption name value b after
  unfolding flat InRange Rattle.sshkey_model.specs.Parts.BoxesFit
  begins name left s value after split next found =
      let inside = found.3 in
      record {
        nesting = found.0;
        place = found.1;
        fits = record {
          range = (split.spelled.fits.range, found.2.range);
          boxes = (split.spelled.fits.boxes, (subst (λ (x : List ℕ). length x < 2 ^ 32) inside next.spelled.fits.boxes.0, found.2.boxes));
        };
        all = split.all ∙ ap (λ (x : List ℕ). split.front ++ x) next.all ∙ rw (split.spelled.shape, next.spelled.shape, inside) (sym (append_assoc (flat (string name)) (flat (box (option_value value found.0))) after));
      }

-- What stands in the string of a value: nothing, or one string.

abbrev pub HoldsValue : List ℕ → List ℕ → Type 0
HoldsValue s value = (nesting : Nesting) × HasNesting value nesting × Fits (option_value value nesting) × (s ≡ flat (option_value value nesting))

pub empty_value : (s : List ℕ) → length s ≡ 0 → HoldsValue s s
unfolding flat Rattle.sshkey_model.specs.Parts.InRange Rattle.sshkey_model.specs.Parts.BoxesFit
empty_value [] e = (Plain, tt, record { range = tt; boxes = tt }, refl)
empty_value (x ∷ s) e = absurd (cc e)

-- ---- what is not empty holds one string

module _ (s : List ℕ) (some : length s ≢ 0) where
  is_string : (v : List ℕ) (n : Nesting) → Fits (option_value v n) → s ≡ flat (option_value v n) → SpellsString v s
  unfolding flat
  is_string [] Plain fits e = absurd (some (ap length e))
  is_string [] Nested fits e = record { is = tt; fits = fits; shape = e }
  is_string (c ∷ v) n fits e = record { is = tt; fits = fits; shape = e }

  pub no_string : NoFront SpellsString s → (v : List ℕ) (n : Nesting) → HasNesting v n → Fits (option_value v n) → s ≡ flat (option_value v n) → ⊥
  no_string none v n place fits e = none v s [] (is_string v n fits e) (sym (append-nil s))

  pub more_after : (value rest : List ℕ) → IsSplit (SpellsString value) s rest → length rest ≢ 0 → (v : List ℕ) (n : Nesting) → HasNesting v n → Fits (option_value v n) → s ≡ flat (option_value v n) → ⊥
  more_after value rest split more v n place fits e = more (ap length (one_front string_grammar value v split.front s rest [] split.spelled (is_string v n fits e) (sym split.all ∙ sym (append-nil s))).2)

-- Where the option at a place has its parts.

nothing_after : (b : List ℕ) (place : ℕ) → length b ≤ place → (name value rest : List ℕ) → BeginsWithOption name value (drop place b) rest → ⊥
unfolding flat
nothing_after b place h name value rest o =
    let head = to_be_bytes w32 (length name) in
    omega (arith, h, length-drop place b, ap length (strings_are name value (drop place b) rest o), length-append (head ++ name) (flat (box (option_value value o.nesting)) ++ rest), length-append head name, wide32.len (length name))

-- ---- where it is

module _ (b : List ℕ) (place : ℕ) (name value after : List ℕ) (h : BeginsWithOption name value (drop place b) after) where
  name_stands : Stands b name (flat (box (option_value value h.nesting)) ++ after) (record { start = place + 4; length = length name })
  name_stands = string_stands b name _ place (strings_are name value (drop place b) after h)

  -- what stands before the value in its string
  abbrev front : List ℕ
  front = (value_last value h.nesting).0

  abbrev head : List ℕ
  head = to_be_bytes w32 (length (flat (option_value value h.nesting)))

  value_cut : drop ((place + 4) + length name) b ≡ (head ++ front) ++ (value ++ after)
  unfolding flat
  value_cut = name_stands.after ∙ ap (λ (v : List ℕ). (head ++ v) ++ after) (value_last value h.nesting).1 ∙ simp (append_assoc)

  pub value_stands : Stands b value after (record { start = (place + 4) + length name + length (head ++ front); length = length value })
  value_stands = stands b (head ++ front) value after ((place + 4) + length name) name_stands.within value_cut

  ends_there : length b - length after ≡ ((place + 4) + length name + length (head ++ front)) + length value
  ends_there = omega (arith, value_stands.within, ap length value_stands.after, length-drop (((place + 4) + length name + length (head ++ front)) + length value) b)

  pub short_enough : length value ≤ length b - length after
  short_enough = omega (arith, ends_there)

  abbrev answer : OptionParts
  answer = record { name = record { start = place + 4; length = length name }; value = record { start = (length b - length after) - length value; length = length value }; next = length b - length after }

  pub finds : (was : OptionParts) → place ≢ length b → FindsOption b place 0 was answer
  finds was apart =
      let start : (length b - length after) - length value ≡ (place + 4) + length name + length (head ++ front) = omega (arith, ends_there) in
      record {
        found = λ _. rw (start, ends_there, name_stands.content, value_stands.content, value_stands.after) h;
        within = λ _. (name_stands.within, rw start value_stands.within, omega arith);
        placed = λ _. (refl, omega (arith, short_enough));
        end_ = (λ e. absurd (cc e), λ e. absurd (apart e));
        none = λ some. absurd (some refl);
        others = λ some. absurd (some refl);
        stays = λ some. absurd (some refl);
      }

-- ---- where there is none

module _ (b : List ℕ) (place : ℕ) (answer : OptionParts) where
  none : (n : ℕ) → n ≢ 0 → (n ≡ 3) ↔ (place ≡ length b) → (n ≢ 3 → n ≡ 13) → ((name value rest : List ℕ) → BeginsWithOption name value (drop place b) rest → ⊥) → FindsOption b place n answer answer
  none n some end_ others never = record {
    found = λ z. absurd (some z);
    within = λ z. absurd (some z);
    placed = λ z. absurd (some z);
    end_ = end_;
    none = λ _. never;
    others = λ _. others;
    stays = λ _. refl;
  }

  pub ends : place ≡ length b → FindsOption b place 3 answer answer
  ends e = none 3 (λ z. cc z) (λ _. e, λ _. refl) (λ other. absurd (other refl)) (nothing_after b place (omega (arith, e)))

  pub none_there : place ≢ length b → ((name value rest : List ℕ) → BeginsWithOption name value (drop place b) rest → ⊥) → FindsOption b place 13 answer answer
  none_there apart = none 13 (λ z. cc z) (λ z. absurd (cc z), λ e. absurd (apart e)) (λ _. refl)

  pub is_past : length b < place → FindsOption b place 13 answer answer
  is_past h = none_there (λ e. omega (arith, h, e)) (nothing_after b place (omega (arith, h)))
