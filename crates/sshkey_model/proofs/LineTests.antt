-- Tests of a text that tell that it is no line of a key.
use Rattle.std.proofs.Common.{◌≡◌, ℕ, zero, suc, ◌<◌, Bool, true, false, not, ◌&&◌, List, [], ◌∷◌, ◌++◌, length, Result, Ok, Err, refl, sym, ap, subst, ◌∙◌, arith, eq-eqb}
use Rattle.std.specs.Prelude.{slice_index}
use Rattle.std.specs.Str.{trim_end}
use Rattle.std.proofs.lemmas.Bool.{and_parts}
use Rattle.base64.specs.Engines.{standard}
use Rattle.base64.specs.GeneralPurpose.{decode_of}
use Rattle.base64.specs.declared.decode.DecodeError.{DecodeError}
use Rattle.base64.proofs.EngineFacts.{decode_of-encode_of}
use Rattle.sshkey_model.specs.Lines.{space, after_space, joined, is_word_character, HasWordCharacters, key_name, IsWithout, IsCut, IsNoKeyLine}
use Rattle.sshkey_model.specs.Keys.{SpellsKey}
use Rattle.sshkey_model.proofs.Base64Words.{is_other_than}
use Rattle.sshkey_model.proofs.Blobs.{key_blobs}
use Rattle.sshkey_model.proofs.LineCuts.{one_front, without_space, seam_space}
use Rattle.sshkey_model.proofs.Lines.{no_cut, no_blob}

-- ---- tests of words

abbrev pub all_characters : (ℕ → Bool) → List ℕ → Bool
all_characters p [] = true
all_characters p (c ∷ cs) = p c && all_characters p cs

pub each : (p : ℕ → Bool) (text : List ℕ) → all_characters p text ≡ true → (i : ℕ) → i < length text → p (slice_index text i) ≡ true
each p [] e i lt = absurd (omega arith)
each p (c ∷ cs) e zero lt = (and_parts (p c) (all_characters p cs) e).0
each p (c ∷ cs) e (suc i) lt = each p cs (and_parts (p c) (all_characters p cs) e).1 i (omega arith)

pub lacks : (other : ℕ) (text : List ℕ) → all_characters (is_other_than other) text ≡ true → IsWithout other text
lacks other text e = λ i lt h. cc (sym (each (is_other_than other) text e i lt) ∙ ap not (eq-eqb _ other h))

abbrev pub is_no_space : ℕ → Bool
is_no_space = is_other_than space

pub cut : (text f w m : List ℕ) → trim_end text ≡ joined f w m → 0 < length f → 0 < length w → all_characters is_word_character f ≡ true → all_characters is_no_space w ≡ true → IsCut text f w m
cut text f w m e some_first some_word first word = record { is = e; some_first = some_first; some_word = some_word; characters = each is_word_character f first; one_word = lacks space w word }

-- ---- texts that are no line

abbrev pub fails : Result (List ℕ) DecodeError → Bool
fails (Ok b) = false
fails (Err e) = true

-- its second word is not Base64
pub no_base64 : (text f w m : List ℕ) → IsCut text f w m → fails (decode_of standard w) ≡ true → IsNoKeyLine text
no_base64 text f w m parts e = no_blob key_name SpellsKey key_blobs text f w m parts (λ blob fits word. cc (sym e ∙ ap fails (ap (decode_of standard) word ∙ decode_of-encode_of standard blob refl fits)))

-- it has no space
pub one_word : (text : List ℕ) → all_characters is_no_space (trim_end text) ≡ true → IsNoKeyLine text
one_word text e = no_cut key_name SpellsKey text (λ f w m parts. seam_space (trim_end text) f (w ++ after_space m) (lacks space (trim_end text) e) parts.is)

-- its first word has a character that none has
pub no_character : (text first rest : List ℕ) (i : ℕ) → all_characters is_no_space first ≡ true → trim_end text ≡ first ++ (space ∷ rest) → i < length first → is_word_character (slice_index first i) ≡ false → IsNoKeyLine text
no_character text first rest i clean e lt other = no_cut key_name SpellsKey text (λ f w m parts.
    let front = one_front space f first (w ++ after_space m) rest (without_space f parts.characters) (lacks space first clean) (sym parts.is ∙ e) in
    let named : is_word_character (slice_index first i) ≡ true = subst HasWordCharacters front.0 parts.characters i lt in
    cc (sym other ∙ named))
