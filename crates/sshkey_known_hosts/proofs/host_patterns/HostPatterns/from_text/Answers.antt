use Rattle.std.proofs.Common.{◌++◌, List, ℕ, ap, sym, ◌∙◌}
use Rattle.sshkey_entries.specs.KnownHosts.{hashed_mark}
use Rattle.sshkey_known_hosts.proofs.Hosts.{reads_after_mark}
use Rattle.sshkey_known_hosts.proofs.host_patterns.HostPatterns.from_text.Goals as goal

pub returns-in-Some-clause-reads : goal.returns-in-Some-clause-reads
returns-in-Some-clause-reads c =
    let cut = c.in-Some.ensures.cases in
    reads_after_mark c.args.text.now c.in-Some.hashed.now c.from_hashed.result (cut.1.1 ∙ ap (λ (l : List ℕ). hashed_mark ++ l) (sym cut.2)) c.from_hashed.ensures
