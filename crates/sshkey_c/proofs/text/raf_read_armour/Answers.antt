use Rattle.sshkey_entry_calls.proofs.Texts.{unread}
use Rattle.sshkey_c.proofs.text.raf_read_armour.Goals as goal

pub returns-in-Err : goal.returns-in-Err
returns-in-Err c = unread c.args.text.now c.in-Err.error c.error_status.result c.args.length.now c.args.room.now c.in-Err.ensures c.error_status.ensures.number
