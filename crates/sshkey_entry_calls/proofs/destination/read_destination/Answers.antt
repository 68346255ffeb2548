use Rattle.std.proofs.Common.{None, Some, lit<}
use Rattle.std.proofs.lemmas.Str.Pattern.{strip_prefix_char}
use Rattle.sshkey_entry_calls.specs.Destinations.{opening_bracket}
use Rattle.sshkey_entry_calls.proofs.Destinations.{in_brackets, plain}
use Rattle.sshkey_entry_calls.proofs.destination.read_destination.Goals as goal

pub returns-in-Some : goal.returns-in-Some
returns-in-Some c = in_brackets c.args.text.now c.in-Some.inside.now c.read_bracketed.result (strip_prefix_char opening_bracket c.args.text.now (Some c.in-Some.inside) c.in-Some.ensures.cases (lit< tt)) c.read_bracketed.ensures

pub returns-in-None : goal.returns-in-None
returns-in-None c = plain c.args.text.now c.read_plain.result (strip_prefix_char opening_bracket c.args.text.now None c.in-None.ensures.cases (lit< tt)) c.read_plain.ensures
