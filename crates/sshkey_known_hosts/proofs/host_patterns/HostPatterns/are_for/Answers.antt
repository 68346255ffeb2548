use Rattle.std.proofs.Common.{◌≡◌, List, ℕ, sym, subst}
use Rattle.sshkey_entries.specs.HostVerdicts.{AreFor, AreForName}
use Rattle.sshkey_known_hosts.specs.HostEntries.{hosts_of}
use Rattle.sshkey_known_hosts.specs.declared.host_patterns.HostPatterns.{HostPatterns}
use Rattle.sshkey_known_hosts.proofs.host_patterns.HostPatterns.are_for.Goals as goal

for_so : (n : List ℕ) (ps qs : List (List ℕ)) → ps ≡ qs → AreForName n ps → AreForName n qs
for_so n ps qs = subst (AreForName n)

pub returns-in-Patterns : goal.returns-in-Patterns
returns-in-Patterns g c =
    let is = c.in-Patterns.is in
    let hmac = g.H.HostHasher.hmac c.args.hmac.now in (
      λ t. subst (λ (x : HostPatterns). AreFor hmac c.args.name.now (hosts_of x)) (sym is) (for_so _ _ _ c.deref.ensures.value (c.are_named.ensures.0 t)),
      λ h. c.are_named.ensures.1 (for_so _ _ _ (sym c.deref.ensures.value) (subst (λ (x : HostPatterns). AreFor hmac c.args.name.now (hosts_of x)) is h)),
    )
