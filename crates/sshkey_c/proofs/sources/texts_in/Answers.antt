use Rattle.std.proofs.Common.{ap, ◌∙◌}
use Rattle.std.proofs.lemmas.List.{take_all}
use Rattle.sshkey_c.specs.Logins.{texts_in}
use Rattle.sshkey_c.proofs.Texts.{one_more}
use Rattle.sshkey_c.proofs.sources.texts_in.Goals as goal

pub loop-part-preserved : goal.loop-part-preserved
loop-part-preserved c = one_more c.args.parts.now c.loop-part.part-index _ c.text_in.result c.loop-part.found.items _ c.loop-part-test.true c.loop-part.invariant c.text_in.ensures c.in_ok-push.ensures.items

pub returns : goal.returns
returns c = c.loop-part.invariant ∙ ap texts_in (take_all c.loop-part.part-index c.args.parts.now c.loop-part-test.false)
