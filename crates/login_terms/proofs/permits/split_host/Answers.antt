use Rattle.std.proofs.Common.{None, lit<}
use Rattle.std.proofs.lemmas.Str.Pattern.{strip_prefix_char}
use Rattle.login_terms.specs.Values.{opening_bracket}
use Rattle.login_terms.proofs.Hosts.{plain_host}
use Rattle.login_terms.proofs.permits.split_host.Goals as goal

pub returns-in-None : goal.returns-in-None
returns-in-None c = plain_host c.args.text.now c.split_plain.result (strip_prefix_char opening_bracket c.args.text.now None c.in-None.ensures.cases (lit< tt)) c.split_plain.ensures
