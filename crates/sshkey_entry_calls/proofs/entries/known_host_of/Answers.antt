use Rattle.std.proofs.Common.{refl}
use Rattle.sshkey_base.specs.Causes.{cause}
use Rattle.sshkey_known_hosts.specs.HostEntries.{known_host_of, HasLineFault}
use Rattle.sshkey_entries.specs.OpenSshLines.{IsHostLine}
use Rattle.sshkey_entry_calls.specs.Entries.{of_known_host}
use Rattle.sshkey_calls.proofs.Rooms.{only_memory, give_one}
use Rattle.sshkey_known_hosts.proofs.HostLines.{entry_needs}
use Rattle.sshkey_entry_calls.proofs.Found.{no_fault, none_found, told}
use Rattle.sshkey_entry_calls.proofs.entries.known_host_of.Goals as goal

pub returns-in-Ok-clause-entry : goal.returns-in-Ok-clause-entry
returns-in-Ok-clause-entry c = give_one (known_host_of c.in-Ok.entry) _ _ _ _ _ c.in-Ok.ensures.reads c.tell_known_host.ensures

pub returns-in-Ok-clause-fault : goal.returns-in-Ok-clause-fault
returns-in-Ok-clause-fault c = no_fault HasLineFault c.args.line.now of_known_host (known_host_of c.in-Ok.entry) _ _ _ _ _ c.tell_known_host.ensures

pub returns-in-Err-clause-entry : goal.returns-in-Err-clause-entry
returns-in-Err-clause-entry c = none_found (IsHostLine c.args.line.now) of_known_host c.in-Err.error _ _ _ _ _ (refl, refl) c.error_status.ensures.some c.error_status.ensures.apart c.error_status.ensures.memory c.in-Err.ensures.reads

pub returns-in-Err-clause-fault : goal.returns-in-Err-clause-fault
returns-in-Err-clause-fault c = told HasLineFault c.args.line.now c.in-Err.error _ c.error_status.ensures.memory c.error_status.ensures.number c.in-Err.ensures.fault

pub returns-in-Ok-clause-memory : goal.returns-in-Ok-clause-memory
returns-in-Ok-clause-memory c _ = entry_needs c.args.line.now (known_host_of c.in-Ok.entry) c.in-Ok.ensures.reads

pub returns-in-Err-clause-memory : goal.returns-in-Err-clause-memory
returns-in-Err-clause-memory c one = c.in-Err.ensures.asks (only_memory (cause c.in-Err.error) _ c.error_status.ensures.range one)
