use Rattle.sshkey_calls.specs.KeyLines.{Content, content_of}
use Rattle.sshkey_calls.proofs.KeyLines.{told}
use Rattle.sshkey_calls.proofs.Rooms.{answered}
use Rattle.sshkey_calls.proofs.line.write_line.Goals as goal

pub returns : goal.returns
returns c first blob line fits =
    let x : Content = content_of c.args.kind blob c.args.comment.now in
    told x _ _ _ _ _ (answered x c.lay_out_line.result _ _ _ _ _ (λ answer placed. placed.length) (c.lay_out_line.ensures first blob line fits) c.answer_with.ensures)
