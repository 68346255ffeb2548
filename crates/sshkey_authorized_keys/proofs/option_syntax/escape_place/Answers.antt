use Rattle.std.proofs.Common.{sym, ◌∙◌, arith}
use Rattle.sshkey_authorized_keys.specs.Options.{is_escape}
use Rattle.sshkey_authorized_keys.proofs.OptionCuts.{none_more}
use Rattle.sshkey_authorized_keys.proofs.option_syntax.escape_place.Goals as goal

pub loop-index-init : goal.loop-index-init
loop-index-init c = λ k l. absurd (omega (arith, l))

pub loop-index-preserved : goal.loop-index-preserved
loop-index-preserved c = none_more (is_escape c.args.text.now) c.loop-index.index c.loop-index.invariant (sym c.is_escape.ensures ∙ c.if-is_escape.false)

pub returns-then-is_escape : goal.returns-then-is_escape
returns-then-is_escape c = (c.loop-index-test.true, sym c.is_escape.ensures ∙ c.if-is_escape.true, c.loop-index.invariant)

pub returns : goal.returns
returns c = λ k l. c.loop-index.invariant k (omega (arith, l, c.loop-index-test.false))
