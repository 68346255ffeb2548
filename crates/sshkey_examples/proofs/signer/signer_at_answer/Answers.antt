use Rattle.std.proofs.Common.{Result, subst}
use Rattle.ssh_key.specs.authorized_keys.OpenSshEntries.{openssh_entry_of}
use Rattle.ssh_key.specs.entries.Answers.{ReadsEntry}
use Rattle.ssh_key.specs.entries.OpenSshLines.{IsAuthorizedLine}
use Rattle.ssh_key.specs.types.Error.{Error}
use Rattle.ssh_key.specs.types.authorized_keys.OpenSshEntry.{OpenSshEntry}
use Rattle.sshkey_examples.proofs.Signers.{entry_decides, no_entry, well_formed}
use Rattle.sshkey_examples.proofs.signer.signer_at_answer.Goals as goal

pub returns-in-Ok : goal.returns-in-Ok
returns-in-Ok g c = λ line read.
    let entry = subst (λ (r : Result OpenSshEntry Error). ReadsEntry openssh_entry_of IsAuthorizedLine line r) c.in-Ok.is read in
    entry_decides _ _ _ line _ _ c.one_authorized_line.ensures entry c.signer_at_entry.result (c.signer_at_entry.ensures (well_formed line _ entry))

pub returns-in-Err : goal.returns-in-Err
returns-in-Err g c = λ line read.
    let none = subst (λ (r : Result OpenSshEntry Error). ReadsEntry openssh_entry_of IsAuthorizedLine line r) c.in-Err.is read in
    no_entry _ _ _ line _ _ none c.unless_memory.result c.unless_memory.ensures
