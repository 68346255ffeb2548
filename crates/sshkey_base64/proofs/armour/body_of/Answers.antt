use Rattle.std.proofs.Common.{None, Some}
use Rattle.std.proofs.lemmas.Bool.Decides.{Decides-eqb}
use Rattle.std.proofs.lemmas.Slice.Eq.{strip_prefix_is, strip_suffix_is}
use Rattle.std.specs.Prelude.{codes}
use Rattle.sshkey_base64.specs.Armour.{first_line, last_line}
use Rattle.sshkey_base64.proofs.ArmourBodies.{body_is, no_dash, no_end, no_last}
use Rattle.sshkey_base64.proofs.armour.body_of.Goals as goal

pub returns-in_default-after_line_end : goal.returns-in_default-after_line_end
returns-in_default-after_line_end c = no_end c.args.text.now c.in-Some.after.now (strip_prefix_is Decides-eqb c.args.text.now first_line (Some c.in-Some.after) c.in-Some.ensures.cases) c.in_default-after_line_end.ensures

pub returns-in_default-split_dash : goal.returns-in_default-split_dash
returns-in_default-split_dash c = no_dash c.args.text.now c.in-Some.after.now (strip_prefix_is Decides-eqb c.args.text.now first_line (Some c.in-Some.after) c.in-Some.ensures.cases) c.in-Some-after_line_end.lines.now c.in-Some-after_line_end.ensures c.in_default-split_dash.ensures

pub returns-in_default-strip_prefix : goal.returns-in_default-strip_prefix
returns-in_default-strip_prefix c = no_last c.args.text.now c.in-Some.after.now (strip_prefix_is Decides-eqb c.args.text.now first_line (Some c.in-Some.after) c.in-Some.ensures.cases) c.in-Some-after_line_end.lines.now c.in-Some-after_line_end.ensures c.in-Some-split_dash.front.now c.in-Some-split_dash.back.now c.in-Some-split_dash.ensures (strip_prefix_is Decides-eqb c.in-Some-split_dash.back.now last_line None c.in_default-strip_prefix.ensures.cases)

pub returns : goal.returns
returns c = body_is c.args.text.now c.in-Some.after.now (strip_prefix_is Decides-eqb c.args.text.now first_line (Some c.in-Some.after) c.in-Some.ensures.cases) c.in-Some-after_line_end.lines.now c.in-Some-after_line_end.ensures c.in-Some-split_dash.front.now c.in-Some-split_dash.back.now c.in-Some-split_dash.ensures c.in-Some-strip_prefix.field-0.now c.strip_suffix.result (strip_prefix_is Decides-eqb c.in-Some-split_dash.back.now last_line (Some c.in-Some-strip_prefix.field-0) c.in-Some-strip_prefix.ensures.cases) (strip_suffix_is Decides-eqb c.in-Some-split_dash.front.now (codes "\n") c.strip_suffix.result c.strip_suffix.ensures.cases)
