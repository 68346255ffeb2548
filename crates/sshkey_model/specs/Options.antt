-- Critical options and extensions of certificates (PROTOCOL.certkeys).
use Rattle.std.specs.Prelude.{◌≡◌, ℕ, List, [], ◌∷◌, Bool, true, false, Option, Some, None, option_map, Result, Ok, Err, nat_lt, ◌==◌, if◌then◌else◌}
use Rattle.sshkey_model.specs.Parts.{Parts, nothing, box, ◌&◌}
use Rattle.sshkey_model.specs.Reading.{Fault, FormatEncoding, Front, IsChain}
use Rattle.sshkey_model.specs.Grammar.{SpellsAs, SpellsWith}
use Rattle.sshkey_model.specs.Formats.{Format}
use Rattle.sshkey_model.specs.Needs.{HasString}
use Rattle.sshkey_model.specs.Terms.{◌then◌, boxed, known_as, needing, or_nothing, tested}
use Rattle.sshkey_model.specs.ToEnd.{each_after}
use Rattle.sshkey_model.specs.Texts.{string, IsText, text_format}

pub record CertificateOption : Type 0 where
  pub name : List ℕ
  pub value : List ℕ

-- The second place where spellings differ: an empty value may also be a box in the box.
pub data Nesting : Type 0 where
  Plain Nested : Nesting

abbrev pub option_value : List ℕ → Nesting → Parts
option_value [] Plain = nothing
option_value v n = string v

abbrev pub option : CertificateOption → Nesting → Parts
option o n = string o.name & box (option_value o.value n)

abbrev pub each_option : List CertificateOption → List Nesting → Parts
each_option (o ∷ os) (n ∷ ns) = option o n & each_option os ns
each_option _ _ = nothing

abbrev pub options : List CertificateOption → List Nesting → Parts
options os ns = box (each_option os ns)

-- ---- well-formed: texts, and each name above the one before

-- by bytes, a beginning first
abbrev pub is_below : List ℕ → List ℕ → Bool
is_below [] [] = false
is_below [] (b ∷ y) = true
is_below (a ∷ x) [] = false
is_below (a ∷ x) (b ∷ y) = if a == b then is_below x y else nat_lt a b

-- the name may follow that of the option before
abbrev pub may_follow : Option (List ℕ) → List ℕ → Bool
may_follow None name = true
may_follow (Some before) name = is_below before name

abbrev pub name_before : Option CertificateOption → Option (List ℕ)
name_before before = option_map (λ o. o.name) before

abbrev pub is_after : Option CertificateOption → CertificateOption → Bool
is_after before o = may_follow (name_before before) o.name

abbrev pub Rises : Option CertificateOption → CertificateOption → Type 0
Rises before o = (IsText o.name × IsText o.value) × (is_after before o ≡ true)

abbrev pub AreOptions : List CertificateOption → Type 0
AreOptions os = IsChain Rises None os

-- ---- a choice for each option

abbrev pub HasNesting : List ℕ → Nesting → Type 0
HasNesting value Plain = Unit {0}
HasNesting value Nested = value ≡ []

unfoldable pub HasOptionPlaces : List CertificateOption → List Nesting → Type 0
HasOptionPlaces [] [] = Unit {0}
HasOptionPlaces (o ∷ os) (n ∷ ns) = HasNesting o.value n × HasOptionPlaces os ns
HasOptionPlaces _ _ = ⊥

-- as it is written
abbrev pub plain_option : CertificateOption → Parts
plain_option o = option o Plain

-- all plain
abbrev pub plain_nestings : List CertificateOption → List Nesting
plain_nestings [] = []
plain_nestings (o ∷ os) = Plain ∷ plain_nestings os

abbrev pub normal_options : List CertificateOption → Parts
normal_options os = options os (plain_nestings os)

-- ---- as a format

-- A name, a value of the given format in a string, and what is made of both. A name that may not
-- follow the one before it is refused after them.
abbrev option_term : {V O : Type 0} → Format V → (List ℕ → V → O) → Option (List ℕ) → Format O
option_term value made before = tested (λ x. if may_follow before x.0 then Ok (made x.0 x.1) else Err FormatEncoding) (text_format then needing HasString (boxed value))

-- a text, or no bytes
abbrev pub value_format : Format (List ℕ)
value_format = or_nothing [] text_format

abbrev made_option : List ℕ → List ℕ → CertificateOption
made_option name value = record { name = name; value = value }

-- after an option of that name
abbrev pub option_format : Option (List ℕ) → Format CertificateOption
option_format = option_term value_format made_option

-- each after the one before it
abbrev pub option_list_format : Format (List CertificateOption)
option_list_format = needing HasString (each_after (λ before. option_format (name_before before)))

-- the bytes spell the options, empty values in either way
abbrev pub SpellsOptions : List CertificateOption → List ℕ → Type 0
SpellsOptions = SpellsWith AreOptions HasOptionPlaces options

unfoldable pub options_value_at : Front (List CertificateOption)
options_value_at = (boxed option_list_format).read

abbrev pub options_format : Format (List CertificateOption)
options_format = known_as (boxed option_list_format) SpellsOptions options_value_at

-- ---- with the choices of the spelling

abbrev pub nesting_of : List ℕ → Nesting
nesting_of [] = Nested
nesting_of (c ∷ rest) = Plain

-- the text of a value, and how it is spelled
abbrev pub spelled_text : List ℕ → Result (List ℕ × Nesting) Fault
spelled_text v = Ok (v, nesting_of v)

abbrev pub spelled_value_format : Format (List ℕ × Nesting)
spelled_value_format = or_nothing ([], Plain) (tested spelled_text text_format)

abbrev made_pair : List ℕ → List ℕ × Nesting → CertificateOption × Nesting
made_pair name value = (record { name = name; value = value.0 }, value.1)

unfoldable pub spelled_option_format : Option (List ℕ) → Format (CertificateOption × Nesting)
spelled_option_format = option_term spelled_value_format made_pair

abbrev pub option_before : Option (CertificateOption × Nesting) → Option CertificateOption
option_before before = option_map (λ x. x.0) before

abbrev pub option_at : Option (CertificateOption × Nesting) → Front (CertificateOption × Nesting)
option_at before = (spelled_option_format (name_before (option_before before))).read

abbrev pub firsts : {A B : Type 0} → List (A × B) → List A
firsts [] = []
firsts (x ∷ xs) = x.0 ∷ firsts xs

abbrev pub seconds : {A B : Type 0} → List (A × B) → List B
seconds [] = []
seconds (x ∷ xs) = x.1 ∷ seconds xs

-- the options, and how each is spelled
abbrev pub apart : List (CertificateOption × Nesting) → Result (List CertificateOption × List Nesting) Fault
apart xs = Ok (firsts xs, seconds xs)

abbrev spelled_option_list : Format (List CertificateOption × List Nesting)
spelled_option_list = tested apart (boxed (each_after (λ before. spelled_option_format (name_before (option_before before)))))

unfoldable pub options_at : Front (List CertificateOption × List Nesting)
options_at = spelled_option_list.read

abbrev pub spelled_options_format : Format (List CertificateOption × List Nesting)
spelled_options_format = known_as spelled_option_list (SpellsAs AreOptions HasOptionPlaces options) options_at
