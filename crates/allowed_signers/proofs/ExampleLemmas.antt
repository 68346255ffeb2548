-- What the worked examples cite: tests of texts and names, and the one front of a line.
use Rattle.std.proofs.Common.{◌≡◌, ◌≢◌, ℕ, Bool, true, false, not, ◌==◌, ◌||◌, List, [], ◌∷◌, ◌++◌, map, bytes_eq, slice_index, inl, inr, refl, sym, ap, subst, ◌∙◌}
use Rattle.std.specs.Char.{to_ascii_lowercase}
use Rattle.std.specs.List.{list_all}
use Rattle.std.proofs.lemmas.Bool.Decides.{Decides-eqb, Decides-not, not_from_Decides}
use Rattle.std.proofs.lemmas.Slice.Eq.{bytes_eq-Decides}
use Rattle.sshkey_entries.specs.Fields.{EndsField, IsField, is_blank}
use Rattle.sshkey_entries.specs.OptionItems.{IsSameName, quote, Names}
use Rattle.sshkey_entries.proofs.Fields.{same_field}
use Rattle.sshkey_model.specs.Keys.{Key, Ed25519}
use Rattle.sshkey_model.specs.Lines.{IsWithout}
use Rattle.sshkey_matching.specs.Patterns.{MatchesList}
use Rattle.sshkey_matching.proofs.PatternTests.{decides_all, decides_list, matches_list}
use Rattle.allowed_signers.specs.AllowedSigners.{AllowsSigner, HasPrincipals}

pub never : false ≡ true → ⊥
never e = cc

pub differ : (a b : List ℕ) → bytes_eq a b ≡ false → a ≢ b
differ a b unequal = λ same. never (sym unequal ∙ (bytes_eq-Decides a b).1 same)

abbrev pub first_byte : Key → ℕ
first_byte (Ed25519 k) = slice_index k 0
first_byte _ = 0

-- ---- texts

pub without : (c : ℕ) (text : List ℕ) → list_all (λ x. not (x == c)) text ≡ true → IsWithout c text
without c text e = λ k l. (decides_all (λ x. not (x == c)) (λ x. x ≢ c) (λ x. Decides-not (x == c) (Decides-eqb x c)) text).0 e k 0 l

no_blank : (b : Bool) → not b ≡ true → b ≡ false
no_blank true e = sym e
no_blank false e = refl

pub field : (text : List ℕ) → list_all (λ x. not (is_blank x)) text ≡ true → IsField text
field text e = λ k l. no_blank (is_blank (slice_index text k)) ((decides_all (λ x. not (is_blank x)) (λ x. not (is_blank x) ≡ true) (λ x. (λ t. t, λ t. t)) text).0 e k 0 l)

-- ---- names

pub other_name : (a b : List ℕ) → bytes_eq (map to_ascii_lowercase a) (map to_ascii_lowercase b) ≡ false → IsSameName a b → ⊥
other_name a b unequal = differ (map to_ascii_lowercase a) (map to_ascii_lowercase b) unequal

-- none of the rows has the name
abbrev pub has_other_names : {W : Type 0} → List (List ℕ × W) → List ℕ → Bool
has_other_names [] name = false
has_other_names (row ∷ rows) name = bytes_eq (map to_ascii_lowercase name) (map to_ascii_lowercase row.0) || has_other_names rows name

neither : (a b : Bool) → (a || b) ≡ false → (a ≡ false) × (b ≡ false)
neither true b e = absurd (never (sym e))
neither false b e = (refl, e)

pub no_name : {W : Type 0} (rows : List (List ℕ × W)) (name : List ℕ) → has_other_names rows name ≡ false → (w : W) → ¬ Names rows name w
no_name [] name e w none = none
no_name (row ∷ rows) name e w named =
    let both = neither (bytes_eq (map to_ascii_lowercase name) (map to_ascii_lowercase row.0)) (has_other_names rows name) e in
    elim named [
      | inl here ↦ other_name name row.0 both.0 here.0
      | inr after ↦ no_name rows name both.1 w after.1
    ]

-- ---- the front of a line

-- the word at the front is all that can be its principals
pub its_principals : (line word rest : List ℕ) → line ≡ word ++ rest → IsField word → EndsField rest → slice_index line 0 ≢ quote → (principals after : List ℕ) → HasPrincipals line principals after → principals ≡ word
its_principals line word rest is one_word ends plain principals after h = elim h.cut.is [
  | inl cut ↦ (same_field principals word after rest cut.one_word one_word cut.ends ends (sym cut.is ∙ is)).0
  | inr quoted ↦ absurd (plain (ap (λ (t : List ℕ). slice_index t 0) quoted))
]

pub nobody : (identity word rest : List ℕ) → IsField word → EndsField rest → slice_index (word ++ rest) 0 ≢ quote → matches_list (λ c. c) word identity ≡ false → (namespace : List ℕ) (time : ℕ) (key : Key) → ¬ AllowsSigner identity namespace time key (word ++ rest)
nobody identity word rest one_word ends plain unlisted namespace time key allows =
    not_from_Decides (matches_list (λ c. c) word identity) (decides_list (λ c. c) word identity) unlisted
    (subst (λ (p : List ℕ). MatchesList (λ c. c) p identity) (its_principals (word ++ rest) word rest refl one_word ends plain allows.principals allows.rest allows.front) allows.listed)
