use Rattle.sshkey_entries.specs.AuthorizedKeys.{IsAuthorizedKey}
use Rattle.sshkey_authorized_keys.proofs.Entries.{plain_form, tells_plainly, tells_none}
use Rattle.sshkey_authorized_keys.proofs.read_back.is_read_plainly.Goals as goal

pub is_same-requires : goal.is_same-requires
is_same-requires c = plain_form _ _ c.in-Ok.ensures.reads

pub returns-in-Ok : goal.returns-in-Ok
returns-in-Ok c = tells_plainly _ _ _ _ c.is_same.ensures.same c.is_same.ensures.every c.in-Ok.ensures.reads

pub returns-in-Err : goal.returns-in-Err
returns-in-Err c = tells_none IsAuthorizedKey _ _ _ _ c.in-Err.ensures.reads c.no_entry.ensures
