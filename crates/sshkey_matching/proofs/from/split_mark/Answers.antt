use Rattle.std.proofs.Common.{◌≡◌, ◌≢◌, ℕ, List, [], ◌∷◌, None, slice_index, cond, ap, sym, refl, lit<, arith, ne_eqb}
use Rattle.std.proofs.lemmas.Str.Pattern.{strip_prefix_char}
use Rattle.sshkey_matching.specs.Patterns.{exclamation_mark, unmarked}
use Rattle.sshkey_matching.proofs.from.split_mark.Goals as goal

no_mark : (t : List ℕ) → ((rest : List ℕ) → t ≢ 33 ∷ rest) → slice_index t 0 ≡ exclamation_mark → ⊥
no_mark [] h e = omega (arith, e)
no_mark (c ∷ t) h e = h t (ap (λ x. x ∷ t) e)

nothing_taken : (t : List ℕ) → ((rest : List ℕ) → t ≢ 33 ∷ rest) → t ≡ unmarked t
nothing_taken [] h = refl
nothing_taken (c ∷ t) h = ap (λ b. cond b t (c ∷ t)) (sym (ne_eqb c 33 (λ e. h t (ap (λ x. x ∷ t) e))))

pub returns-in-None-clause-mark : goal.returns-in-None-clause-mark
returns-in-None-clause-mark c = (λ never. cc never, λ e. absurd (no_mark c.args.piece.now (strip_prefix_char 33 c.args.piece.now None c.in-None.ensures.cases (lit< tt)) e))

pub returns-in-None-clause-pattern : goal.returns-in-None-clause-pattern
returns-in-None-clause-pattern c = nothing_taken c.args.piece.now (strip_prefix_char 33 c.args.piece.now None c.in-None.ensures.cases (lit< tt))
