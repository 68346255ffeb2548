use Rattle.std.proofs.Common.{refl, ◌∙◌}
use Rattle.sshkey_authorized_keys.specs.OpenSshEntries.{openssh_entry_of}
use Rattle.sshkey_entry_calls.specs.Entries.{of_authorized_key}
use Rattle.sshkey_entry_calls.proofs.Found.{found_entry, same_text}
use Rattle.sshkey_entry_calls.proofs.entries.tell_authorized_key.Goals as goal

pub returns : goal.returns
returns c = found_entry _ of_authorized_key (openssh_entry_of c.args.entry.now) _ _ _ _ _ refl (same_text _ _ _ _ _ _ _ _ _ _ _ (c.as_str-options.ensures ∙ c.options.ensures) c.public_key.ensures refl c.answer_with.ensures)
