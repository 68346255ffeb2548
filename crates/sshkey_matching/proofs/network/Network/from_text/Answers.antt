use Rattle.std.proofs.Common.{sym, ◌∙◌}
use Rattle.sshkey_matching.proofs.AddressTexts.{none_whole}
use Rattle.sshkey_matching.proofs.network.Network.from_text.Goals as goal

pub returns-in_default : goal.returns-in_default
returns-in_default c = λ s. c.in_default.ensures s.0 s.1 s.2.written s.2.fits

pub returns-then-not-is_whole : goal.returns-then-not-is_whole
returns-then-not-is_whole c = none_whole c.args.text.now _ _ c.in-Some.ensures (λ whole. cc (sym c.if-not-is_whole.true ∙ c.is_whole.ensures.1 whole))
