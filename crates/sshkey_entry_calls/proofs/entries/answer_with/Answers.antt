use Rattle.sshkey_public.specs.PublicKeys.{comment_of, public_of}
use Rattle.sshkey_entry_calls.specs.Entries.{entry_text}
use Rattle.sshkey_calls.proofs.Rooms.{answered}
use Rattle.sshkey_entry_calls.proofs.entries.answer_with.Goals as goal

pub returns : goal.returns
returns c = answered (entry_text c.args.front.now (public_of c.args.key.now) (comment_of c.args.key.now) c.args.marker) c.lay_out_entry.result _ _ _ _ _ (λ answer placed. placed.length) c.lay_out_entry.ensures c.answer_with.ensures
