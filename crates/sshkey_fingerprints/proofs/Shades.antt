-- What the cells show, once the walk has ended.
use Rattle.std.proofs.Common.{◌≡◌, ◌∙◌, Bool, true, false, cond, ℕ, List, get_or, set, refl, sym, ap, arith}
use Rattle.std.proofs.lemmas.List.{get_or-set_other, length-set}
use Rattle.std.proofs.lemmas.Grind.{get_or-set_at}
use Rattle.std.specs.List.{flat_map}
use Rattle.sshkey_fingerprints.specs.RandomArt.{Cell, IsInField, is_cell, last_of, reached, shade, start, steps, trail}
use Rattle.sshkey_fingerprints.specs.Walks.{IsNumbered, IsWalk, cell_of, index}
use Rattle.sshkey_fingerprints.specs.declared.random_art.Walk.{Walk}
use Rattle.sshkey_fingerprints.proofs.Walking.{other_place, same_cell, tally}

shade_is : (d : List ℕ) (c : Cell) → shade d c ≡ cond (is_cell c (last_of start (trail d))) 16 (cond (is_cell c start) 15 (tally (trail d) c))
unfolding shade
shade_is d c = refl

trail_is : (d : List ℕ) → trail d ≡ reached start (flat_map steps d)
unfolding trail
trail_is d = refl

module _ (counts d : List ℕ) (c end : Cell) (at : IsInField c.column c.row) (inside : IsInField end.column end.row) (ends : end ≡ last_of start (trail d)) (counted : IsNumbered counts (tally (trail d))) where
  -- before the end is marked
  started : (s : Bool) → is_cell c start ≡ s → get_or (set counts (index start) 15) (index c) 0 ≡ cond s 15 (tally (trail d) c)
  started true e =
      let same = same_cell c start e in
      get_or-set_at counts (index start) (index c) 15 0 (omega (arith, same.0, same.1)) (omega (arith, counted.size))
  started false e = get_or-set_other counts (index start) (index c) 15 0 (other_place c start at.0 (omega arith) e) ∙ counted.at c at

  marked : (t : Bool) → is_cell c end ≡ t → get_or (set (set counts (index start) 15) (index end) 16) (index c) 0 ≡ cond t 16 (cond (is_cell c start) 15 (tally (trail d) c))
  marked true e =
      let same = same_cell c end e in
      get_or-set_at (set counts (index start) 15) (index end) (index c) 16 0 (omega (arith, same.0, same.1)) (omega (arith, counted.size, inside.0, inside.1, length-set counts (index start) 15))
  marked false e = get_or-set_other (set counts (index start) 15) (index end) (index c) 16 0 (other_place c end at.0 inside.0 e) ∙ started (is_cell c start) refl

  pub shown : get_or (set (set counts (index start) 15) (index end) 16) (index c) 0 ≡ shade d c
  shown = marked (is_cell c end) refl ∙ ap (λ (x : Cell). cond (is_cell c x) 16 (cond (is_cell c start) 15 (tally (trail d) c))) ends ∙ sym (shade_is d c)

-- the walk over all of the digest
pub shaded : (w : Walk) (d taken : List ℕ) (here there : ℕ) → taken ≡ d → IsWalk w (flat_map steps taken) → here ≡ index start → there ≡ index (cell_of w.cell) → IsNumbered (set (set w.counts here 15) there 16) (shade d)
shaded w d taken here there all walk starts ends =
    let whole : reached start (flat_map steps taken) ≡ trail d = ap (λ (l : List ℕ). reached start (flat_map steps l)) all ∙ sym (trail_is d) in
    let last : cell_of w.cell ≡ last_of start (trail d) = walk.at ∙ ap (last_of start) whole in
    let counted : IsNumbered w.counts (tally (trail d)) = record { size = walk.counted.size; at = λ c at. walk.counted.at c at ∙ ap (λ (l : List Cell). tally l c) whole } in
    record {
      size = length-set (set w.counts here 15) there 16 ∙ length-set w.counts here 15 ∙ walk.counted.size;
      at = λ c at. rw (starts, ends) (shown w.counts d c (cell_of w.cell) at w.cell.inside last counted);
    }
