use Rattle.std.proofs.Common.{◌≡◌, List, rules, subst, ℕ}
use Rattle.sshkey_authorized_keys.specs.OpenSshEntries.{HasLineFault}
use Rattle.sshkey_entries.specs.OpenSshLines.{IsAuthorizedLine}
use Rattle.sshkey_entry_calls.specs.Entries.{FindsEntry, NeedsAuthorizedEntry, TellsFault, of_authorized_key}
use Rattle.sshkey_c.proofs.entry.raf_authorized_entry.Goals as goal

pub returns-in-Ok-clause-entry : goal.returns-in-Ok-clause-entry
returns-in-Ok-clause-entry c utf8 =
    let same : c.in-Ok.text.now ≡ c.args.line.now = search rules in
    subst (λ (l : List ℕ). FindsEntry (IsAuthorizedLine l) of_authorized_key c.authorized_entry_of.result c.args.answer.now c.authorized_entry_of.new.answer c.args.room.now c.authorized_entry_of.new.room) same c.authorized_entry_of.ensures.entry

pub returns-in-Ok-clause-fault : goal.returns-in-Ok-clause-fault
returns-in-Ok-clause-fault c utf8 =
    let same : c.in-Ok.text.now ≡ c.args.line.now = search rules in
    subst (λ (l : List ℕ). TellsFault HasLineFault l c.authorized_entry_of.result) same c.authorized_entry_of.ensures.fault

pub returns-in-Ok-clause-memory : goal.returns-in-Ok-clause-memory
returns-in-Ok-clause-memory c one =
    let same : c.in-Ok.text.now ≡ c.args.line.now = search rules in
    subst NeedsAuthorizedEntry same (c.authorized_entry_of.ensures.memory one)

pub returns-in-Ok-clause-stays : goal.returns-in-Ok-clause-stays
returns-in-Ok-clause-stays c = c.authorized_entry_of.ensures.entry.stays
