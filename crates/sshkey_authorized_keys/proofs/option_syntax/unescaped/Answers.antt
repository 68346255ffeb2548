use Rattle.std.proofs.Common.{◌∙◌}
use Rattle.sshkey_authorized_keys.proofs.OptionCuts.{escape_more, escape_last, whole_front}
use Rattle.sshkey_authorized_keys.proofs.option_syntax.unescaped.Goals as goal

pub parts-preserved : goal.parts-preserved
parts-preserved c = (c.range_from-rest.utf8, escape_more c.args.text.now _ c.parts.rest.now c.as_bytes.result.now c.range.result.now c.range_from-rest.result.now _ c.in-Some.place c.parts.invariant.1 c.as_bytes.ensures.value c.in-Some.ensures (c.range.ensures.value ∙ whole_front c.in-Some.place c.parts.rest.now) c.range_from-rest.ensures.value c.in_ok-push_str.ensures.bytes)

pub returns-clause-value : goal.returns-clause-value
returns-clause-value c = escape_last c.args.text.now _ c.parts.rest.now c.as_bytes.result.now _ c.parts.invariant.1 c.as_bytes.ensures.value c.in_default.ensures c.in_ok-push_str-2.ensures.bytes
