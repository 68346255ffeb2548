use Rattle.std.proofs.Common.{◌+◌, refl}
use Rattle.std.proofs.lemmas.List.{take_rest}
use Rattle.sshkey_matching.proofs.PatternLists.{patterns_alone, patterns_at}
use Rattle.sshkey_matching.proofs.pattern_list.split_first_pattern.Goals as goal

pub returns-in-Some : goal.returns-in-Some
returns-in-Some c = patterns_at c.args.list.now _ _ c.in-Some.end c.in-Some.ensures refl (take_rest c.args.list.now (c.in-Some.end + 1))

pub returns-in-None : goal.returns-in-None
returns-in-None c = patterns_alone c.args.list.now c.in-None.ensures c.requires
