use Rattle.std.proofs.Common.{sym, subst, ◌∙◌}
use Rattle.sshkey_entries.specs.KnownHosts.{IsKnownHost}
use Rattle.sshkey_entries.proofs.OneEntry.{one_host}
use Rattle.sshkey_known_hosts.specs.HostEntries.{known_host_of}
use Rattle.sshkey_known_hosts.proofs.made.is_read_back.Goals as goal

pub returns-in-Ok-clause-answer : goal.returns-in-Ok-clause-answer
returns-in-Ok-clause-answer c =
    let line = c.args.line.now in
    let is = c.in-Ok.ensures.reads in
    let same = c.is_same_entry.ensures c.in-Ok.ensures.reads.line.spelled.is in
    (λ t. subst (IsKnownHost line) (same.0 t) is, λ k. same.1 (one_host line (known_host_of c.in-Ok.read) (known_host_of c.args.entry.now) is k))

pub returns-else-is_memory-clause-answer : goal.returns-else-is_memory-clause-answer
returns-else-is_memory-clause-answer c =
    (λ never. cc never, λ k. absurd (c.in-Err.ensures.reads (λ e. cc (sym c.if-is_memory.false ∙ c.is_memory.ensures.cause.1 e)) (known_host_of c.args.entry.now) k))
