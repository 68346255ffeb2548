-- A line has one front, and its principals are that.
use Rattle.std.proofs.Common.{◌≡◌, ◌≢◌, ℕ, suc, ◌+◌, List, [], ◌∷◌, ◌++◌, length, take, drop, false, eqb-true, Option, None, Some, refl, sym, ap, ◌∙◌, arith, inl, inr, subst}
use Rattle.std.proofs.Math.Seq.{get_or-append_seam}
use Rattle.std.proofs.lemmas.List.{length-append}
use Rattle.std.specs.List.{All}
use Rattle.std.specs.Prelude.{position, slice_index}
use Rattle.sshkey_entries.specs.Fields.{EndsField, is_blank, CutsField}
use Rattle.sshkey_entries.specs.Items.{is_quote}
use Rattle.sshkey_entries.specs.OptionItems.{quote}
use Rattle.sshkey_matching.proofs.PatternLists.{none_before, none_there, parts_at}
use Rattle.sshkey_model.specs.Lines.{IsWithout}
use Rattle.sshkey_public.specs.WrittenLines.{carriage_return}
use Rattle.sshkey_entries.proofs.Fields.{same_field}
use Rattle.sshkey_entries.specs.Answers.{IsTheOne}
use Rattle.allowed_signers.specs.AllowedSigners.{ArePrincipals, CutsFirst, CutsQuote, IsFront, IsPlainFront, IsUnquoted, parts_of}
use denote.Ref.{Bor}

abbrev Parts : Type 0
Parts = List ℕ × List ℕ

same_parts : (a b r s : List ℕ) → a ≡ b → r ≡ s → ◌≡◌ {A = Parts} (a, r) (b, s)
same_parts a b r s e f = λ j. (e j, f j)

-- no word without quotes stands before a quote
no_word : (word rest quoted : List ℕ) → IsUnquoted word → EndsField rest → quote ∷ quoted ≡ word ++ rest → ⊥
no_word [] rest quoted plain (inl none) e = cc (e ∙ none)
no_word [] rest quoted plain (inr blank) e = cc (sym blank ∙ ap (λ (t : List ℕ). is_blank (slice_index t 0)) (sym e))
no_word (c ∷ word) rest quoted plain ends e = plain 0 (omega arith) (ap (λ (t : List ℕ). slice_index t 0) (sym e))

-- after a quote come the principals and another quote
after_quote : (line quoted : List ℕ) (p : Parts) → line ≡ quote ∷ quoted → CutsFirst line p.0 p.1 → quoted ≡ p.0 ++ (quote ∷ p.1)
after_quote line quoted p e has = elim has.is [
  | inl cut ↦ absurd (no_word p.0 p.1 quoted has.unquoted cut.ends (sym e ∙ cut.is))
  | inr is ↦ let same : quote ∷ quoted ≡ quote ∷ (p.0 ++ (quote ∷ p.1)) = sym e ∙ is in cc same
]

pub quoted_front : (line quoted : List ℕ) (r : Option (Bor (List ℕ) × Bor (List ℕ))) → line ≡ quote ∷ quoted → IsTheOne parts_of (CutsQuote quoted) r → IsTheOne parts_of (IsFront line) r
quoted_front line quoted None e none = λ p has. none p (has.unquoted, after_quote line quoted p e has)
quoted_front line quoted (Some x) e one = (
  record { unquoted = one.0.0; is = inr (e ∙ ap (λ (t : List ℕ). quote ∷ t) one.0.1) },
  λ p has. one.1 p (has.unquoted, after_quote line quoted p e has),
)

-- ---- up to a quote

pub quoted_line : (line : List ℕ) → slice_index line 0 ≡ quote → line ≡ quote ∷ drop 1 line
quoted_line [] e = absurd (cc e)
quoted_line (c ∷ line) e = λ j. e j ∷ line

unquoted_more : (c : ℕ) (a : List ℕ) → IsUnquoted (c ∷ a) → IsUnquoted a
unquoted_more c a plain = λ k l. plain (suc k) (omega (arith, l))

one_quote : (a c b d : List ℕ) → IsUnquoted a → IsUnquoted c → a ++ (quote ∷ b) ≡ c ++ (quote ∷ d) → (a ≡ c) × (b ≡ d)
one_quote [] [] b d x y e = (refl, cc e)
one_quote [] (m ∷ c) b d x y e = absurd (y 0 (omega arith) (ap (λ (t : List ℕ). slice_index t 0) (sym e)))
one_quote (n ∷ a) [] b d x y e = absurd (x 0 (omega arith) (ap (λ (t : List ℕ). slice_index t 0) e))
one_quote (n ∷ a) (m ∷ c) b d x y e =
    let heads : n ≡ m = ap (λ (t : List ℕ). slice_index t 0) e in
    let tails : a ++ (quote ∷ b) ≡ c ++ (quote ∷ d) = ap (drop 1) e in
    let same = one_quote a c b d (unquoted_more n a x) (unquoted_more m c y) tails in
    ((λ j. heads j ∷ same.0 j), same.1)

unquoted : (text : List ℕ) → All (λ c. is_quote c ≡ false) text → IsUnquoted text
unquoted text none = λ k l is. cc (sym (none k 0 l) ∙ ap is_quote is)

pub quote_cut : (text front back : List ℕ) (n : ℕ) → Some n ≡ position is_quote text → front ≡ take n text → back ≡ drop (n + 1) text → CutsQuote text (front, back) × ((p : Parts) → CutsQuote text p → p ≡ (front, back))
quote_cut text front back n at first rest =
    let plain : IsUnquoted front = subst IsUnquoted (sym first) (unquoted (take n text) (none_before is_quote quote (λ c e. eqb-true c quote e) text n at)) in
    let is : text ≡ front ++ (quote ∷ back) = parts_at is_quote quote (λ c e. eqb-true c quote e) text n at ∙ (λ j. sym first j ++ (quote ∷ sym rest j)) in (
      (plain, is),
      λ p cut. let same = one_quote p.0 front p.1 back cut.0 plain (sym cut.1 ∙ is) in same_parts p.0 front p.1 back same.0 same.1,
    )

pub no_quote : (text : List ℕ) → None ≡ position is_quote text → (p : Parts) → CutsQuote text p → ⊥
no_quote text none p cut =
    let there = none_there is_quote text none (length p.0) 0 (omega (arith, ap length cut.1, length-append p.0 (quote ∷ p.1))) in
    cc (sym there ∙ ap (λ (t : List ℕ). is_quote (slice_index t (length p.0))) cut.1 ∙ ap is_quote (get_or-append_seam p.0 quote p.1 0))

pub plain_front : (line : List ℕ) (r : Option (Bor (List ℕ) × Bor (List ℕ))) → ((rest : List ℕ) → line ≢ quote ∷ rest) → IsTheOne parts_of (IsPlainFront line) r → IsTheOne parts_of (IsFront line) r
plain_front line None other none = λ p has. elim has.is [
  | inl cut ↦ none p (has.unquoted, cut)
  | inr is ↦ other (p.0 ++ (quote ∷ p.1)) is
]
plain_front line (Some x) other one = (
  record { unquoted = one.0.0; is = inl one.0.1 },
  λ p has. elim has.is [
    | inl cut ↦ one.1 p (has.unquoted, cut)
    | inr is ↦ absurd (other (p.0 ++ (quote ∷ p.1)) is)
  ],
)

one_cut : (line a b r s : List ℕ) → CutsField line a r → CutsField line b s → (a ≡ b) × (r ≡ s)
one_cut line a b r s x y = same_field a b r s x.one_word y.one_word x.ends y.ends (sym x.is ∙ y.is)

pub quoted_word : (line word rest : List ℕ) → CutsField line word rest → (IsUnquoted word → ⊥) → (p : Parts) → IsPlainFront line p → ⊥
quoted_word line word rest cut quoted p is = quoted (subst IsUnquoted (sym (one_cut line word p.0 rest p.1 cut is.1).0) is.0)

pub one_word : (line word rest : List ℕ) → CutsField line word rest → (p : Parts) → IsPlainFront line p → ◌≡◌ {A = Parts} p (word, rest)
one_word line word rest cut p is = let same = one_cut line p.0 word p.1 rest is.1 cut in same_parts p.0 word p.1 rest same.0 same.1

-- ---- the principals

module _ (line : List ℕ) (x : Bor (List ℕ) × Bor (List ℕ)) (front : IsFront line (parts_of x)) (one : (p : Parts) → IsFront line p → p ≡ parts_of x) where
  pub returned : (IsWithout carriage_return x.0.now → ⊥) → (p : Parts) → ArePrincipals line p → ⊥
  returned here p has = here (subst (λ (q : Parts). IsWithout carriage_return q.0) (one p has.cut) has.no_return)

  pub principals : IsWithout carriage_return x.0.now → IsTheOne parts_of (ArePrincipals line) (Some x)
  principals plain = (record { cut = front; no_return = plain }, λ p has. one p has.cut)
