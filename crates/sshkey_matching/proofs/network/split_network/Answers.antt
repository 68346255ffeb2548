use Rattle.sshkey_matching.proofs.AddressTexts.{none_alone, none_front, none_digits}
use Rattle.sshkey_matching.proofs.network.split_network.Goals as goal

pub returns-in_default-parse : goal.returns-in_default-parse
returns-in_default-parse c = λ a n w le. none_alone c.args.text.now c.in_default-parse.ensures.value c.in_default.ensures.cases a n w

pub returns-in_default-parse-2 : goal.returns-in_default-parse-2
returns-in_default-parse-2 c = λ a n w le. none_front c.args.text.now (c.in-Some.front, c.in-Some.digits) c.in-Some.ensures.cases c.in_default-parse-2.ensures.value a n w

pub returns-in_default-read_count : goal.returns-in_default-read_count
returns-in_default-read_count c = none_digits c.args.text.now (c.in-Some.front, c.in-Some.digits) c.in-Some.ensures.cases c.in_default-read_count.ensures
