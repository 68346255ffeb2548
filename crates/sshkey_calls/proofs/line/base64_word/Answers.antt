use Rattle.std.proofs.Common.{◌++◌, Some, None, arith, ◌∙◌}
use Rattle.std.proofs.lemmas.Str.Pattern.{split_after}
use Rattle.sshkey_model.specs.Lines.{space, after_space}
use Rattle.sshkey_model.proofs.LineCuts.{without_space}
use Rattle.sshkey_calls.proofs.line.base64_word.Goals as goal

pub returns-in-Some : goal.returns-in-Some
returns-in-Some c first w m cut =
    let after = split_after space c.trim_end.result.now first (w ++ after_space m) (Some c.in-Some.cut) c.in-Some.ensures.cases (omega arith) (c.trim_end.ensures.trim ∙ cut.is) (without_space first cut.characters) in
    c.first_word.ensures w m cut.one_word after.1

pub returns-in-None : goal.returns-in-None
returns-in-None c first w m cut = absurd (split_after space c.trim_end.result.now first (w ++ after_space m) None c.in-None.ensures.cases (omega arith) (c.trim_end.ensures.trim ∙ cut.is) (without_space first cut.characters))
