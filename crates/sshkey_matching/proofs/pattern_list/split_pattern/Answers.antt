use Rattle.sshkey_matching.proofs.PatternLists.{patterns_first, patterns_last}
use Rattle.sshkey_matching.proofs.pattern_list.split_pattern.Goals as goal

pub returns-in-Some-clause-patterns : goal.returns-in-Some-clause-patterns
returns-in-Some-clause-patterns c = patterns_first c.args.list.now c.in-Some.pattern c.in-Some.rest c.in-Some.ensures.cases

pub returns-in-None-clause-patterns : goal.returns-in-None-clause-patterns
returns-in-None-clause-patterns c = patterns_last c.args.list.now c.in-None.ensures.cases c.requires
