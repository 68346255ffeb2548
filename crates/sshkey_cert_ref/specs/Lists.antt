-- Texts that stand in bytes, each a string, one after the other (RFC 4251, section 5).
use Rattle.std.specs.Prelude.{ℕ, List, [], ◌∷◌, Bool, true, false, Ok}
use Rattle.std.specs.List.{AllByRecursion}
use Rattle.sshkey_model.specs.Parts.{each, flat}
use Rattle.sshkey_model.specs.Grammar.{Spells, SpellsAs}
use Rattle.sshkey_model.specs.Texts.{string, IsText, text_list_at}
use Rattle.sshkey_terms.specs.Slices.{found_or}
use denote.Ref.{Bor}
use Rattle.sshkey_model.specs.Options.{CertificateOption, Nesting, Plain, Nested, AreOptions, HasOptionPlaces, each_option, options, plain_nestings, option_at, firsts, seconds}
use Rattle.sshkey_model.specs.Reading.{◌>>=◌, Whole, list_whole}

-- the bytes are those of the texts
abbrev pub SpellsEachText : List (List ℕ) → List ℕ → Type 0
SpellsEachText = Spells (AllByRecursion IsText) (each string)

-- the texts in the bytes
unfoldable pub texts_in : List ℕ → List (List ℕ)
texts_in b = found_or [] (text_list_at b)

-- Options that stand in bytes, one after the other (PROTOCOL.certkeys).

-- the bytes are those of the options, each empty value as its choice says
abbrev pub SpellsEachOption : List CertificateOption × List Nesting → List ℕ → Type 0
SpellsEachOption = SpellsAs AreOptions HasOptionPlaces each_option

-- the same in a string
abbrev pub SpellsOptionString : List CertificateOption × List Nesting → List ℕ → Type 0
SpellsOptionString = SpellsAs AreOptions HasOptionPlaces options

-- the options in the bytes
unfoldable pub options_in : List ℕ → List CertificateOption
options_in b = firsts (found_or [] (list_whole option_at b))

-- how each of them is spelled
unfoldable pub nestings_in : List ℕ → List Nesting
nestings_in b = seconds (found_or [] (list_whole option_at b))

-- whether none is nested
abbrev pub are_plain : List Nesting → Bool
are_plain [] = true
are_plain (Plain ∷ ns) = are_plain ns
are_plain (Nested ∷ ns) = false

-- the bytes of the options, none nested: their normal form
abbrev pub plain_bytes : List CertificateOption → List ℕ
plain_bytes os = flat (each_option os (plain_nestings os))

-- a name and a value
abbrev pub option_of : Bor (List ℕ) × Bor (List ℕ) → CertificateOption
option_of p = record { name = p.0.now; value = p.1.now }

-- whether all are plain, if the bytes are options
abbrev pub plainness_from : Whole Bool
plainness_from b = do
  xs ← list_whole option_at b
  Ok (are_plain (seconds xs))
