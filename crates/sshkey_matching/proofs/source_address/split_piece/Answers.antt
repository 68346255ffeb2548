use Rattle.sshkey_matching.proofs.FromLists.{first_piece, only_piece}
use Rattle.sshkey_matching.proofs.source_address.split_piece.Goals as goal

pub returns-in-Some : goal.returns-in-Some
returns-in-Some c = first_piece c.args.list.now c.in-Some.piece c.in-Some.rest c.in-Some.ensures.cases

pub returns-in-None : goal.returns-in-None
returns-in-None c = only_piece c.args.list.now c.in-None.ensures.cases
