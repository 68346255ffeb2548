use Rattle.sshkey_authorized_keys.specs.Options.{key_option_of}
use Rattle.sshkey_calls.proofs.Rooms.{answered}
use Rattle.sshkey_entry_calls.proofs.EntryOptions.{told, told_none}
use Rattle.sshkey_entry_calls.proofs.options.tell_option.Goals as goal

pub returns-in-Some : goal.returns-in-Some
returns-in-Some c = told c.args.text.now c.args.next (key_option_of c.in-Some.option) c.in-Some.ensures.0 _ _ _ _ _ c.in-Some.ensures.1 (answered (key_option_of c.in-Some.option) c.lay_out_option.result _ _ _ _ _ (λ answer placed. placed.length) c.lay_out_option.ensures c.answer_with.ensures)

pub returns-in-None : goal.returns-in-None
returns-in-None c = told_none c.args.text.now c.args.next c.args.answer.now c.args.room.now c.in-None.ensures
