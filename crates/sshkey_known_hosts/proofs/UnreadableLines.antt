-- Lines of a text that hide an entry, and those of them that count.
use Rattle.std.proofs.Common.{◌≡◌, ◌↔◌, ◌<◌, ◌∙◌, inl, inr, refl, sym, subst, arith, ℕ, List, [], ◌∷◌, ◌++◌, Bool, true, false, cond, filter, map, length, IsTrue, Some, None, option_map}
use Rattle.std.specs.List.{Any}
use Rattle.std.specs.Str.Lines.{lines}
use Rattle.sshkey_entries.specs.Fields.{filled_lines, is_filled, without_blanks}
use Rattle.sshkey_entries.specs.HostVerdicts.{HidesEntry, HidesSome}
use Rattle.sshkey_known_hosts.specs.HostEntries.{marker_of}
use Rattle.sshkey_known_hosts.specs.HostLines.{IsToHost, is_unreadable}
use Rattle.sshkey_known_hosts.specs.declared.host_line.HostLine.{HostLine}
use Rattle.sshkey_known_hosts.specs.declared.host_line.HostLine.TheVariants as kind
use Rattle.sshkey_known_hosts.specs.Verdicts.{HidesEntryIn, UnreadableHasLine}
use Rattle.sshkey_known_hosts.proofs.Verdicts.{either, first, later, only, this}

-- ---- one line

-- It hides an entry exactly if it counts and cannot be read.
module _ (hmac : List ℕ → List ℕ → List ℕ) (name line text : List ℕ) (is : text ≡ without_blanks line) (filled : is_filled text ≡ true) where
  hidden_text : HidesEntryIn hmac name line → HidesEntry hmac name text
  hidden_text h = subst (HidesEntry hmac name) (sym is) h.1

  pub hides_exactly : (it : HostLine) → IsToHost hmac name text it → (b : Bool) → b ≡ is_unreadable it → IsTrue b ↔ HidesEntryIn hmac name line
  hides_exactly kind.ForOthers f b e = (λ t. absurd (cc (sym e ∙ t)), λ h. absurd ((hidden_text h).1 f))
  hides_exactly (kind.Entry marker key) l b e = (λ t. absurd (cc (sym e ∙ t)), λ h. absurd ((hidden_text h).0 l.0.entry l.0.read))
  hides_exactly (kind.OtherKey marker) l b e = (λ t. absurd (cc (sym e ∙ t)), λ h. absurd ((hidden_text h).2 (option_map marker_of marker, l.hosts, l.read)))
  hides_exactly kind.Unreadable hides b e = (λ t. subst (λ (x : List ℕ). (is_filled x ≡ true) × HidesEntry hmac name x) is (filled, hides), λ h. e)

-- ---- all lines

-- it holds of none of the lines, and not of one more
pub none_more : (P : List ℕ → Type 0) (before : List (List ℕ)) (line : List ℕ) → (Any P before → ⊥) → (P line → ⊥) → Any P (before ++ (line ∷ [])) → ⊥
none_more P before line none not s = elim (either P before (line ∷ []) s) [
  | inl a ↦ none a
  | inr b ↦ not (only P line b)
]

module _ (hmac : List ℕ → List ℕ → List ℕ) (name : List ℕ) where
  abbrev of_filled : List (List ℕ) → List (List ℕ)
  of_filled all = filter is_filled (map without_blanks all)

  -- a line that hides an entry is among those that count
  pub among_filled : (all : List (List ℕ)) → Any (HidesEntryIn hmac name) all → HidesSome hmac name (filter is_filled (map without_blanks all))
  among_filled [] s = absurd (omega (arith, s.2))
  among_filled (l ∷ all) s = elim (either (HidesEntryIn hmac name) (l ∷ []) all s) [
    | inl here ↦
        let h = only (HidesEntryIn hmac name) l here in
        subst (λ (b : Bool). HidesSome hmac name (cond b (without_blanks l ∷ of_filled all) (of_filled all))) (sym h.0) (first (HidesEntry hmac name) (without_blanks l ∷ []) (of_filled all) (this (HidesEntry hmac name) (without_blanks l) h.1))
    | inr more ↦ after (is_filled (without_blanks l)) (among_filled all more)
  ]
    where
      after : (b : Bool) → HidesSome hmac name (of_filled all) → HidesSome hmac name (cond b (without_blanks l ∷ of_filled all) (of_filled all))
      after true more = later (HidesEntry hmac name) (without_blanks l ∷ []) (of_filled all) more
      after false more = more

  -- and one of those that count is a line
  pub among_all : (all : List (List ℕ)) → HidesSome hmac name (filter is_filled (map without_blanks all)) → Any (HidesEntryIn hmac name) all
  among_all [] s = absurd (omega (arith, s.2))
  among_all (l ∷ all) s = go (is_filled (without_blanks l)) refl (among_all all) s
    where
      go : (b : Bool) → is_filled (without_blanks l) ≡ b → (HidesSome hmac name (of_filled all) → Any (HidesEntryIn hmac name) all) → HidesSome hmac name (cond b (without_blanks l ∷ of_filled all) (of_filled all)) → Any (HidesEntryIn hmac name) (l ∷ all)
      go true is rest some = elim (either (HidesEntry hmac name) (without_blanks l ∷ []) (of_filled all) some) [
        | inl here ↦ first (HidesEntryIn hmac name) (l ∷ []) all (this (HidesEntryIn hmac name) l (is, only (HidesEntry hmac name) (without_blanks l) here))
        | inr more ↦ later (HidesEntryIn hmac name) (l ∷ []) all (rest more)
      ]
      go false is rest more = later (HidesEntryIn hmac name) (l ∷ []) all (rest more)

  -- without a line that counts there is none
  pub none_filled : (text : List ℕ) → (0 < length (filled_lines text) → ⊥) → Any (HidesEntryIn hmac name) (lines text) → ⊥
  none_filled text none s = let h = among_filled (lines text) s in none (omega (arith, h.2))

-- some line hides an entry, so that one of them is the first
pub has_line : UnreadableHasLine
has_line hmac name key text (Some n) verdict is = refl
has_line hmac name key text None verdict none = absurd (none (among_all hmac name (lines text) verdict.1))
