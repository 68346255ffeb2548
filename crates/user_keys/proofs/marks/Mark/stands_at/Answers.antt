use Rattle.std.proofs.Common.{◌+◌, List, arith, drop, subst, sym, ℕ}
use Rattle.std.proofs.lemmas.List.{length-drop, take_all, take_rest}
use Rattle.user_keys.specs.Spellings.{Follow}
use Rattle.user_keys.proofs.Spelled.{first_and_others}
use Rattle.user_keys.proofs.marks.Mark.stands_at.Goals as goal

pub returns-then-text-place : goal.returns-then-text-place
returns-then-text-place c =
    let symbols = c.args.self.now.symbols in
    let text = c.args.text.now in
    let place = c.args.place in
    let parts = first_and_others symbols text place (omega (arith, c.type_inv.self)) in
    let others = take_all 19 (drop 1 symbols) (omega (arith, length-drop 1 symbols, c.type_inv.self)) in
    let rest = take_rest text (place + 1) in (
      λ yes. parts.1 (c.if-text-place.true, subst (λ (l : List ℕ). Follow l (drop (place + 1) text)) others (subst (Follow _) rest (c.follow.ensures.0 yes))),
      λ at. c.follow.ensures.1 (subst (Follow _) (sym rest) (subst (λ (l : List ℕ). Follow l (drop (place + 1) text)) (sym others) (parts.0 at).1)),
    )
