-- A line is cut into its fields in one way.
use Rattle.std.proofs.Common.{◌≡◌, ◌⊎◌, ℕ, List, ◌++◌, true, false, sym, ap, subst, ◌∙◌, arith, tests, ◌<◌, ◌≤◌, length, slice_index, inl, inr}
use Rattle.base64.specs.Engines.{standard}
use Rattle.base64.specs.GeneralPurpose.{encode_of}
use Rattle.sshkey_model.specs.Grammar.{SpellsWith}
use Rattle.sshkey_model.specs.Keys.{Key, IsKey, HasKeyPlaces, key}
use Rattle.sshkey_model.specs.Lines.{key_name}
use Rattle.sshkey_model.proofs.Base64Words.{one_blob}
use Rattle.sshkey_model.proofs.Blobs.{key_blobs}
use Rattle.sshkey_model.proofs.CombinedReaders.{bytes_fit}
use Rattle.sshkey_entries.specs.Fields.{without_blanks, is_white, without_white, CutsWord, IsField, EndsField, AreKeyFields, is_blank, CutsField}
use Rattle.sshkey_entries.proofs.Fronts.{same_word, IsCut}

-- ---- fields

pub same_field : (a b r s : List ℕ) → IsField a → IsField b → EndsField r → EndsField s → a ++ r ≡ b ++ s → (a ≡ b) × (r ≡ s)
same_field = same_word is_blank false true (λ e. cc e)

pub blanks_are : (c : ℕ) → is_blank c ≡ true → (c ≡ 0x20) ⊎ (c ≡ 0x09)
blanks_are c is = grind (arith, tests)

pub whites_are : (c : ℕ) → is_white c ≡ true → (c ≡ 0x0b) ⊎ (c ≡ 0x0c) ⊎ (c ≡ 0x0d)
whites_are c is = grind (arith, tests)

pub same_cut : (text w v r s : List ℕ) → CutsWord text w r → CutsWord text v s → (w ≡ v) × (r ≡ s)
same_cut text w v r s f g =
    let same = same_field f.field g.field r s f.one_word g.one_word f.ends g.ends (sym f.is ∙ g.is) in
    (f.word_is ∙ ap without_white same.0 ∙ sym g.word_is, same.1)

-- ---- the fields of a key

pub one_fields : (text : List ℕ) (k l : Key) (m n : List ℕ) → AreKeyFields text k m → AreKeyFields text l n → (k ≡ l) × (m ≡ n)
one_fields text k l m n f g =
    let name = same_field (key_name k) (key_name l) f.after_name g.after_name f.one_word g.one_word f.name_ends g.name_ends (sym f.is ∙ g.is) in
    let word = same_cut (without_blanks g.after_name) (encode_of standard f.blob) (encode_of standard g.blob) f.after_key g.after_key (subst (λ (t : List ℕ). CutsWord (without_blanks t) (encode_of standard f.blob) f.after_key) name.1 f.word) g.word in
    let blob = one_blob f.blob g.blob (bytes_fit f.blob (key_blobs.bytes k f.blob f.spelled)) (bytes_fit g.blob (key_blobs.bytes l g.blob g.spelled)) word.0 in
    (key_blobs.one k l g.blob (subst (SpellsWith IsKey HasKeyPlaces key k) blob f.spelled) g.spelled, f.comment_is ∙ ap without_blanks word.1 ∙ sym g.comment_is)

-- How a field is cut off.

pub blank_ascii : (c : ℕ) → is_blank c ≡ true → c < 128
blank_ascii c e = elim (blanks_are c e) [ inl s ↦ omega (arith, s) | inr t ↦ omega (arith, t) ]

pub cuts_field : (text field rest : List ℕ) → IsCut is_blank text field rest → CutsField text field rest
cuts_field text field rest cut = record { is = cut.0; one_word = cut.1; ends = cut.2 }

pub white_ascii : (c : ℕ) → is_white c ≡ true → c < 128
white_ascii c e = elim (whites_are c e) [ inl v ↦ omega (arith, v) | inr (inl f) ↦ omega (arith, f) | inr (inr r) ↦ omega (arith, r) ]

-- no character is cut where white space begins
pub white_place : (bytes text : List ℕ) (n : ℕ) → bytes ≡ text → n ≤ length bytes → ((k : ℕ) → n ≤ k → k < length bytes → is_white (slice_index bytes k) ≡ true)
    → (n ≤ length text) × (n < length text → 128 ≤ slice_index text n → 192 ≤ slice_index text n)
white_place bytes text n same within behind = (
  subst (λ (t : List ℕ). n ≤ length t) same within,
  λ less high.
      let here : n < length bytes = omega (arith, less, ap length same) in
      let low = white_ascii (slice_index text n) (subst (λ (t : List ℕ). is_white (slice_index t n) ≡ true) same (behind n (omega arith) here)) in
      absurd (omega (arith, low, high)),
)
