use Rattle.sshkey_entries.specs.OpenSshLines.{IsAuthorizedLine}
use Rattle.sshkey_authorized_keys.proofs.Entries.{openssh_form, tells_openssh, tells_none}
use Rattle.sshkey_authorized_keys.proofs.read_back.is_read_by_openssh.Goals as goal

pub is_openssh_entry-requires : goal.is_openssh_entry-requires
is_openssh_entry-requires c = openssh_form _ _ c.in-Ok.ensures.reads

pub returns-in-Ok : goal.returns-in-Ok
returns-in-Ok c = tells_openssh _ _ _ _ c.is_openssh_entry.ensures.same c.is_openssh_entry.ensures.every c.in-Ok.ensures.reads

pub returns-in-Err : goal.returns-in-Err
returns-in-Err c = tells_none IsAuthorizedLine _ _ _ _ c.in-Err.ensures.reads c.no_entry.ensures
