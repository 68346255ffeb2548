use denote.Ref.{Bor}
use Rattle.std.proofs.Common.{List, ℕ, subst}
use Rattle.host_keys.specs.Hosts.{lines_of}
use Rattle.sshkey_entry_calls.specs.Hosts.{TellsKey, held_lines}
use Rattle.sshkey_entry_calls.proofs.Hosts.{key_there}
use Rattle.sshkey_entry_calls.proofs.host_key.held_host_key_status.Goals as goal

pub returns : goal.returns
returns c are k spelled =
    let login = c.args.login.now in
    key_there login (held_lines login c.args.held.now.text.now) (lines_of c.in-Ok.texts.items) (c.in-Ok.ensures are) k c.host_key_status.result
    (subst (λ (t : List (Bor (List ℕ))). TellsKey login (lines_of t) k c.host_key_status.result) c.deref.ensures.value (c.host_key_status.ensures k spelled))
