use Rattle.std.proofs.Common.{inl, inr, refl}
use Rattle.sshkey_base.specs.Causes.{cause}
use Rattle.sshkey_authorized_keys.specs.OpenSshEntries.{openssh_entry_of, HasLineFault}
use Rattle.sshkey_entries.specs.OpenSshLines.{IsAuthorizedLine}
use Rattle.sshkey_entry_calls.specs.Entries.{of_authorized_key}
use Rattle.sshkey_calls.proofs.Rooms.{only_memory, give_one}
use Rattle.sshkey_entry_calls.proofs.Found.{no_fault, none_found, told}
use Rattle.sshkey_entry_calls.proofs.entries.authorized_entry_of.Goals as goal

pub returns-in-Ok-clause-entry : goal.returns-in-Ok-clause-entry
returns-in-Ok-clause-entry c = give_one (openssh_entry_of c.in-Ok.entry) _ _ _ _ _ c.in-Ok.ensures.reads c.tell_authorized_key.ensures

pub returns-in-Ok-clause-fault : goal.returns-in-Ok-clause-fault
returns-in-Ok-clause-fault c = no_fault HasLineFault c.args.line.now of_authorized_key (openssh_entry_of c.in-Ok.entry) _ _ _ _ _ c.tell_authorized_key.ensures

pub returns-in-Err-clause-entry : goal.returns-in-Err-clause-entry
returns-in-Err-clause-entry c = none_found (IsAuthorizedLine c.args.line.now) of_authorized_key c.in-Err.error _ _ _ _ _ (refl, refl) c.error_status.ensures.some c.error_status.ensures.apart c.error_status.ensures.memory c.in-Err.ensures.reads

pub returns-in-Err-clause-fault : goal.returns-in-Err-clause-fault
returns-in-Err-clause-fault c = told HasLineFault c.args.line.now c.in-Err.error _ c.error_status.ensures.memory c.error_status.ensures.number c.in-Err.ensures.fault

pub returns-in-Ok-clause-memory : goal.returns-in-Ok-clause-memory
returns-in-Ok-clause-memory c _ = inr (openssh_entry_of c.in-Ok.entry, c.in-Ok.ensures.reads)

pub returns-in-Err-clause-memory : goal.returns-in-Err-clause-memory
returns-in-Err-clause-memory c one = inl (c.in-Err.ensures.asks (only_memory (cause c.in-Err.error) _ c.error_status.ensures.range one))
