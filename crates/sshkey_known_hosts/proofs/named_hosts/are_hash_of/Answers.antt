use Rattle.std.proofs.Common.{◌++◌, List, ℕ, subst}
use Rattle.sshkey_entries.specs.KnownHosts.{hashed_mark}
use Rattle.sshkey_known_hosts.proofs.Hosts.{no_text_hash}
use Rattle.sshkey_known_hosts.specs.HostLines.{TellsHosts}
use Rattle.sshkey_known_hosts.proofs.named_hosts.are_hash_of.Goals as goal

pub returns-in-Some : goal.returns-in-Some
returns-in-Some g c = subst (λ (t : List ℕ). TellsHosts (g.H.HostHasher.hmac c.args.hmac.now) c.args.name.now (hashed_mark ++ t) c.is_hash_of.result) c.in-Some.ensures.1 c.is_hash_of.ensures

pub returns-in-None : goal.returns-in-None
returns-in-None g c = no_text_hash c.args.hashed.now c.in-None.ensures
