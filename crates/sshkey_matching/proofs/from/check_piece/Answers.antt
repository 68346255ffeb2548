use Rattle.std.proofs.Common.{sym, ◌∙◌}
use Rattle.sshkey_matching.specs.FromLists.{Client}
use Rattle.sshkey_matching.proofs.FromLists.{with_mark, without_mark}
use Rattle.sshkey_matching.proofs.from.check_piece.Goals as goal

pub returns-then-is_negated : goal.returns-then-is_negated
returns-then-is_negated c =
    let client : Client = record { address = c.args.ip; text = c.args.text.now; host = c.args.host.now } in
    with_mark client c.args.piece.now c.split_mark-is_negated.result.1.now c.in-Some.is_for c.split_mark-is_negated.ensures.pattern c.in-Some.ensures.0 c.in-Some.ensures.1 (c.split_mark-is_negated.ensures.mark.0 c.if-is_negated.true)

pub returns-else-is_negated : goal.returns-else-is_negated
returns-else-is_negated c =
    let client : Client = record { address = c.args.ip; text = c.args.text.now; host = c.args.host.now } in
    without_mark client c.args.piece.now c.split_mark-is_negated.result.1.now c.in-Some.is_for c.split_mark-is_negated.ensures.pattern c.in-Some.ensures.0 c.in-Some.ensures.1 (λ e. cc (sym c.if-is_negated.false ∙ c.split_mark-is_negated.ensures.mark.1 e))
