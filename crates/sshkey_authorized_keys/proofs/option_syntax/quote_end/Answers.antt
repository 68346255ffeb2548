use Rattle.std.proofs.Common.{sym, ◌∙◌, arith}
use Rattle.sshkey_entries.specs.Fields.{is_plain_quote}
use Rattle.sshkey_authorized_keys.proofs.OptionCuts.{none_more}
use Rattle.sshkey_authorized_keys.proofs.option_syntax.quote_end.Goals as goal

pub loop-place-init : goal.loop-place-init
loop-place-init c = λ k l. absurd (omega (arith, l))

pub loop-place-preserved : goal.loop-place-preserved
loop-place-preserved c = none_more (is_plain_quote c.args.text.now) c.loop-place.place c.loop-place.invariant (sym c.is_plain_quote.ensures ∙ c.if-is_plain_quote.false)

pub returns-then-is_plain_quote : goal.returns-then-is_plain_quote
returns-then-is_plain_quote c = (c.loop-place-test.true, sym c.is_plain_quote.ensures ∙ c.if-is_plain_quote.true, c.loop-place.invariant)

pub returns : goal.returns
returns c = λ k l. c.loop-place.invariant k (omega (arith, l, c.loop-place-test.false))
