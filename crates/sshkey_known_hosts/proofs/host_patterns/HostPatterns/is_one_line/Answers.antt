use Rattle.std.proofs.Common.{sym, subst, refl}
use Rattle.std.specs.List.{All}
use Rattle.sshkey_entries.specs.KnownHosts.{hosts_text}
use Rattle.sshkey_public.specs.WrittenLines.{IsOneLine}
use Rattle.sshkey_known_hosts.specs.HostEntries.{hosts_of}
use Rattle.sshkey_known_hosts.specs.declared.host_patterns.HostPatterns.{HostPatterns}
use Rattle.sshkey_known_hosts.proofs.Entries.{joined_so, so_joined, hashed_so}
use Rattle.sshkey_known_hosts.proofs.host_patterns.HostPatterns.is_one_line.Goals as goal

pub returns-in-Patterns : goal.returns-in-Patterns
returns-in-Patterns c =
    let is = c.in-Patterns.is in
    let items = c.deref.ensures.value in (
      λ yes. subst (λ (x : HostPatterns). IsOneLine (hosts_text (hosts_of x))) (sym is) (joined_so _ (subst (All IsOneLine) items (c.are_one_line.ensures.0 yes))),
      λ h. c.are_one_line.ensures.1 (subst (All IsOneLine) (sym items) (so_joined _ (subst (λ (x : HostPatterns). IsOneLine (hosts_text (hosts_of x))) is h))),
    )

pub returns-in-HashedName : goal.returns-in-HashedName
returns-in-HashedName c = (λ _. subst (λ (x : HostPatterns). IsOneLine (hosts_text (hosts_of x))) (sym c.in-HashedName.is) (hashed_so _ _), λ _. refl)
