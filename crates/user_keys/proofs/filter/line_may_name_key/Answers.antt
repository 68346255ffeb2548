use Rattle.std.proofs.Common.{◌≤◌, ◌∙◌, List, length, subst, sym, true, ℕ}
use Rattle.sshkey_keys.specs.Keys.{key_of}
use Rattle.user_keys.specs.Spellings.{MaySpell, own_part}
use Rattle.user_keys.proofs.Lines.{are_marks, marks_are, not_marked}
use Rattle.user_keys.proofs.filter.line_may_name_key.Goals as goal

pub returns-clause-spelled : goal.returns-clause-spelled
returns-clause-spelled c long =
    let part = own_part (key_of c.args.key.now) in (
      λ yes. marks_are part c.args.line.now c.of.result c.of.ensures (c.stand_in.ensures.0 yes),
      λ may. c.stand_in.ensures.1 (are_marks part c.args.line.now c.of.result c.of.ensures may),
    )

pub returns-clause-passed : goal.returns-clause-passed
returns-clause-passed c none =
    let part = own_part (key_of c.args.key.now) in
    let long : 17 ≤ length part = subst (λ (t : List ℕ). 17 ≤ length t) c.own_part.ensures c.if-own_part-lt-LEAST_PART.false in
    let unmarked : MaySpell part c.args.line.now → ⊥ = λ may. cc (sym none ∙ c.stand_in.ensures.1 (are_marks part c.args.line.now c.of.result c.of.ensures may)) in
    record {
      no_line = λ authority. (not_marked authority (key_of c.args.key.now) c.args.line.now long unmarked).0;
      not_taken = (not_marked true (key_of c.args.key.now) c.args.line.now long unmarked).1;
    }
