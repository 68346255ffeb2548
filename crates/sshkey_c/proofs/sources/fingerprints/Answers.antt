use Rattle.std.proofs.Common.{ap, ◌∙◌}
use Rattle.std.proofs.lemmas.List.{take_all}
use Rattle.sshkey_calls.specs.Validations.{authorities_of}
use Rattle.sshkey_c.proofs.Digests.{one_more}
use Rattle.sshkey_c.proofs.sources.fingerprints.Goals as goal

pub loop-digest-preserved : goal.loop-digest-preserved
loop-digest-preserved c = one_more c.args.digests.now c.loop-digest.digest-index _ c.loop-digest.found.items _ c.loop-digest-test.true c.loop-digest.invariant c.in_ok-push.ensures.items

pub returns : goal.returns
returns c = c.loop-digest.invariant ∙ ap authorities_of (take_all c.loop-digest.digest-index c.args.digests.now c.loop-digest-test.false)
