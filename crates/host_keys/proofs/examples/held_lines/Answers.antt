use Rattle.std.proofs.Common.{[], codes, arith, refl}
use Rattle.sshkey_entries.specs.HostVerdicts.{known_name}
use Rattle.sshkey_model.specs.KeyExamples.{ed25519_key}
use Rattle.sshkey_known_hosts.specs.Hmac.{hmac_sha1}
use Rattle.sshkey_known_hosts.proofs.ExampleLemmas.{said_of_host}
use Rattle.sshkey_known_hosts.proofs.HeldLines.{no_lines_same, same_more}
use Rattle.host_keys.specs.Examples.{login}
use Rattle.host_keys.specs.Hosts.{plain_name}
use Rattle.host_keys.proofs.ExampleLemmas.{asked}
use Rattle.host_keys.proofs.examples.held_lines.Goals as goal

pub returns : goal.returns
returns c = (
  λ l. refl,
  λ name is. (same_more hmac_sha1 (known_name name 22) [] [] login.lines (no_lines_same hmac_sha1 (known_name name 22)), same_more hmac_sha1 (plain_name name) [] [] login.lines (no_lines_same hmac_sha1 (plain_name name))),
  λ same. let s = ((same (codes "H.Example") (asked 22 (λ e. omega (arith, e)))).0.listed ed25519_key).0 said_of_host.0.0.2 in omega (arith, s.2),
  λ name is. absurd (is.some_port refl),
  λ l ran_out. cc ran_out.0,
)
