-- What is written of a value is one of its spellings.
use Rattle.std.specs.Prelude.{List, [], ◌∷◌, map, String, Vec, string_bytes}
use Rattle.std.specs.List.{AllByRecursion}
use Rattle.std.proofs.lemmas.Str.{is_utf8-from_IsUtf8, IsUtf8-string_bytes}
use Rattle.sshkey_model.specs.Grammar.{normal_is_spelling}
use Rattle.sshkey_model.specs.Parts.{Fits, flat}
use Rattle.sshkey_model.specs.Texts.{string, texts, IsText, SpellsTexts, SpellsText}
use Rattle.sshkey_base.specs.declared.mpint.Mpint.{Mpint}
use Rattle.sshkey_model.specs.Mpints.{SpellsMpint}
use Rattle.sshkey_base.specs.Mpint.{mpint_of}
use Rattle.sshkey_base.specs.TextLists.{texts_of}

-- its bytes are a number's
pub mpint_normal : (m : Mpint) → Unit {0} → Fits (string (mpint_of m)) → SpellsMpint (mpint_of m) (flat (string (mpint_of m)))
mpint_normal m any fits = normal_is_spelling (mpint_of m) m.form fits

-- what a `String` holds is a text
pub is_text : {Z : Type 0} (s : String Z) → IsText (string_bytes s)
is_text s = is_utf8-from_IsUtf8 (string_bytes s) (IsUtf8-string_bytes s)

pub string_text_normal : {Z : Type 0} (s : String Z) → Unit {0} → Fits (string (string_bytes s)) → SpellsText (string_bytes s) (flat (string (string_bytes s)))
string_text_normal s any fits = normal_is_spelling (string_bytes s) (is_text s) fits

are_texts : {Y : Type 0} (xs : List (String Y)) → AllByRecursion IsText (map string_bytes xs)
are_texts [] = tt
are_texts (x ∷ xs) = (is_text x, are_texts xs)

pub texts_normal : {Y Z : Type 0} (v : Vec (String Y) Z) → Unit {0} → Fits (texts (texts_of v)) → SpellsTexts (texts_of v) (flat (texts (texts_of v)))
texts_normal v any fits = normal_is_spelling (texts_of v) (are_texts v.items) fits
