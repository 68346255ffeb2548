use Rattle.std.proofs.Common.{◌+◌, length, arith, tests, drop, ap, sym, ◌∙◌}
use Rattle.std.proofs.lemmas.List.{drop-drop}
use Rattle.sshkey_matching.specs.Patterns.{fold_of}
use Rattle.sshkey_matching.proofs.Matching.{found_star, not_here}
use Rattle.sshkey_matching.proofs.pattern.after_first.Goals as goal

pub returns-then-begins_with_star : goal.returns-then-begins_with_star
returns-then-begins_with_star c =
    let was = c.places.invariant in
    found_star (fold_of c.args.letter_case) c.args.pattern.now c.args.text.now c.places.from.now _ _ was.0 was.1 was.2 c.after_front.ensures.goes c.after_front.ensures.stuck (c.begins_with_star.ensures.0 c.if-begins_with_star.true)

pub places-preserved : goal.places-preserved
places-preserved c =
    let was = c.places.invariant in (
      was.0 + 1,
      ap (drop 1) (sym c.in-Some.ensures.cases.0) ∙ ap (drop 1) was.1 ∙ drop-drop 1 was.0 c.args.text.now,
      not_here (fold_of c.args.letter_case) c.args.pattern.now c.args.text.now c.places.from.now _ _ was.0 was.1 was.2 c.after_front.ensures.goes c.after_front.ensures.stuck
          (λ e. cc (sym c.if-begins_with_star.false ∙ c.begins_with_star.ensures.1 e)) (λ e. let none = ap length e in grind (arith, tests, none)),
    )
