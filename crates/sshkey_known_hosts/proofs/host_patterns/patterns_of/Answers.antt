use Rattle.std.proofs.Common.{sym, ap, ◌∙◌, append-nil, ◌++◌, List, ℕ}
use Rattle.sshkey_entries.proofs.PatternLists.{no_patterns_left}
use Rattle.sshkey_known_hosts.proofs.host_patterns.patterns_of.Goals as goal

pub returns : goal.returns
returns c = sym (c.patterns.invariant.so_far ∙ ap (λ (l : List (List ℕ)). c.patterns.found.items ++ l) (no_patterns_left c.patterns.rest.now c.is_empty.result c.is_empty.ensures c.patterns-test.false) ∙ append-nil c.patterns.found.items)
