use Rattle.std.proofs.Common.{◌≡◌, List, ℕ, ◌++◌, length, refl, ap, rules, ◌∙◌}
use Rattle.sshkey_calls.proofs.KeyLines.{laid}
use Rattle.sshkey_calls.proofs.line.lay_out_line.Goals as goal

pub returns : goal.returns
returns c first blob line fits =
    let comment = c.as_bytes.ensures.value in
    let front : c.len.result ≡ length c.in_ok-content.content.items = search rules in
    let all : c.len-length.result ≡ length c.add.new.content.items = search rules in
    laid c.args.kind blob c.args.comment.now c.in_ok-content.content.items c.add.new.content.items _
    (c.in_ok-content.ensures first blob c.args.comment.now line fits)
    (c.in_ok-comment.ensures.added ∙ ap (λ (x : List ℕ). c.in_ok-content.content.items ++ x) comment)
    refl refl front c.in_ok-comment.ensures.start (c.in_ok-comment.ensures.length ∙ ap length comment) all
