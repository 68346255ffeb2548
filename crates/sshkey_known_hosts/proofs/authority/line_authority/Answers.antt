use Rattle.std.proofs.Common.{Some, inl, sym, subst, ◌∙◌}
use Rattle.sshkey_entries.specs.KnownHosts.{CertAuthority}
use Rattle.sshkey_entries.proofs.OtherKeys.{other_line_none}
use Rattle.sshkey_known_hosts.specs.HostLines.{IsToHost}
use Rattle.sshkey_known_hosts.proofs.AuthorityKeys.{an_authority, authority_mark, no_authority, other_mark}
use Rattle.sshkey_known_hosts.proofs.HostCuts.{lists_none}
use Rattle.sshkey_known_hosts.proofs.authority.line_authority.Goals as goal

pub returns-then-is_authority-clause-answer : goal.returns-then-is_authority-clause-answer
returns-then-is_authority-clause-answer g c =
    let hmac = g.H.HostHasher.hmac c.args.hmac.now in
    let it = subst (IsToHost hmac c.args.name.now c.args.line.now) c.in-Entry.is c.in_ok-marker.ensures.answer in
    let l = it.0 in
    an_authority hmac c.args.name.now c.args.line.now l.entry l.read c.in-Entry.public_key l.key_is it.1
    (l.marker_is ∙ authority_mark c.in-Entry.marker (sym c.is_authority.ensures ∙ c.if-is_authority.true)) l.is_for

pub returns-else-is_authority-clause-answer : goal.returns-else-is_authority-clause-answer
returns-else-is_authority-clause-answer g c =
    let hmac = g.H.HostHasher.hmac c.args.hmac.now in
    let it = subst (IsToHost hmac c.args.name.now c.args.line.now) c.in-Entry.is c.in_ok-marker.ensures.answer in
    let l = it.0 in
    no_authority hmac c.args.name.now c.args.line.now l.entry l.read
    (inl (λ mark. other_mark c.in-Entry.marker (sym c.is_authority.ensures ∙ c.if-is_authority.false) (sym l.marker_is ∙ mark)))

pub returns-in-ForOthers-clause-answer : goal.returns-in-ForOthers-clause-answer
returns-in-ForOthers-clause-answer g c key =
    let hmac = g.H.HostHasher.hmac c.args.hmac.now in
    lists_none hmac c.args.name.now c.args.line.now (subst (IsToHost hmac c.args.name.now c.args.line.now) c.in-ForOthers.is c.in_ok-marker.ensures.answer) (Some CertAuthority) key

pub returns-in-OtherKey-clause-answer : goal.returns-in-OtherKey-clause-answer
returns-in-OtherKey-clause-answer g c key listed =
    let l = subst (IsToHost (g.H.HostHasher.hmac c.args.hmac.now) c.args.name.now c.args.line.now) c.in-OtherKey.is c.in_ok-marker.ensures.answer in
    other_line_none c.args.line.now _ l.hosts l.read listed.entry listed.read

pub returns-in-Unreadable-clause-answer : goal.returns-in-Unreadable-clause-answer
returns-in-Unreadable-clause-answer g c key listed =
    let hides = subst (IsToHost (g.H.HostHasher.hmac c.args.hmac.now) c.args.name.now c.args.line.now) c.in-Unreadable.is c.in_ok-marker.ensures.answer in
    hides.0 listed.entry listed.read
