use Rattle.std.proofs.Common.{◌≡◌, List, rules, subst, ℕ}
use Rattle.sshkey_known_hosts.specs.HostEntries.{HasLineFault, NeedsHostLine}
use Rattle.sshkey_entries.specs.OpenSshLines.{IsHostLine}
use Rattle.sshkey_entry_calls.specs.Entries.{FindsEntry, TellsFault, of_known_host}
use Rattle.sshkey_c.proofs.entry.raf_known_host.Goals as goal

pub returns-in-Ok-clause-entry : goal.returns-in-Ok-clause-entry
returns-in-Ok-clause-entry c utf8 =
    let same : c.in-Ok.text.now ≡ c.args.line.now = search rules in
    subst (λ (l : List ℕ). FindsEntry (IsHostLine l) of_known_host c.known_host_of.result c.args.answer.now c.known_host_of.new.answer c.args.room.now c.known_host_of.new.room) same c.known_host_of.ensures.entry

pub returns-in-Ok-clause-fault : goal.returns-in-Ok-clause-fault
returns-in-Ok-clause-fault c utf8 =
    let same : c.in-Ok.text.now ≡ c.args.line.now = search rules in
    subst (λ (l : List ℕ). TellsFault HasLineFault l c.known_host_of.result) same c.known_host_of.ensures.fault

pub returns-in-Ok-clause-memory : goal.returns-in-Ok-clause-memory
returns-in-Ok-clause-memory c one =
    let same : c.in-Ok.text.now ≡ c.args.line.now = search rules in
    subst NeedsHostLine same (c.known_host_of.ensures.memory one)

pub returns-in-Ok-clause-stays : goal.returns-in-Ok-clause-stays
returns-in-Ok-clause-stays c = c.known_host_of.ensures.entry.stays
