use Rattle.std.proofs.Common.{[], ◌∷◌, None, codes, arith, refl}
use Rattle.sshkey_entries.specs.Fields.{without_front}
use Rattle.sshkey_entries.specs.HostVerdicts.{HidesEntry, Lists}
use Rattle.sshkey_entries.specs.KnownHosts.{Patterns}
use Rattle.sshkey_model.specs.KeyExamples.{ed25519_key}
use Rattle.sshkey_matching.specs.Patterns.{patterns}
use Rattle.sshkey_known_hosts.specs.Examples.{broken_line, host, line}
use Rattle.sshkey_known_hosts.specs.HeldNames.{IsAmong, SayNothing, name_hash}
use Rattle.sshkey_known_hosts.specs.Hmac.{hmac_sha1}
use Rattle.sshkey_known_hosts.proofs.ExampleLemmas.{after_hosts, for_others, other_host, parts, said_of_host, without_key}
use Rattle.sshkey_known_hosts.proofs.HeldNames.{any_name, others_say_nothing}
use Rattle.sshkey_known_hosts.proofs.HostCuts.{lists_none}
use Rattle.sshkey_known_hosts.proofs.Verdicts.{only, this}
use Rattle.sshkey_known_hosts.proofs.examples.told_names.Goals as goal

listed : Lists hmac_sha1 host None ed25519_key (line None host)
listed = only (Lists hmac_sha1 host None ed25519_key) (line None host) said_of_host.0.0.2

says_something : SayNothing hmac_sha1 host (line None host ∷ []) → ⊥
says_something nothing = nothing.0 None ed25519_key (this (Lists hmac_sha1 host None ed25519_key) (line None host) listed)

not_among : IsAmong 0 (name_hash host) → ⊥
not_among e = omega (arith, e)

pub returns : goal.returns
unfolding without_front
returns c = (
  any_name (line None host),
  λ told. lists_none hmac_sha1 host (line None host) (told hmac_sha1 host not_among) None ed25519_key listed,
  λ hmac name other. ((λ m k s. omega (arith, s.2)), (λ m s. omega (arith, s.2)), (λ s. omega (arith, s.2))),
  λ told. says_something (told hmac_sha1 host not_among),
  others_say_nothing hmac_sha1 host (line None (codes "g.example")) (for_others (line None (codes "g.example")) None (codes "g.example") after_hosts (parts None (codes "g.example") refl) (Patterns (patterns (codes "g.example"))) other_host.0 host other_host.1),
  says_something,
  λ nothing. nothing.2 (this (HidesEntry hmac_sha1 host) broken_line without_key),
)
