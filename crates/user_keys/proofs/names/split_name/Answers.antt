use Rattle.sshkey_matching.proofs.FromLists.{first_piece, only_piece}
use Rattle.user_keys.proofs.names.split_name.Goals as goal

pub returns-in-Some : goal.returns-in-Some
returns-in-Some c = first_piece c.args.list.now c.in-Some.name c.in-Some.rest c.in-Some.ensures.cases

pub returns-in-None : goal.returns-in-None
returns-in-None c = only_piece c.args.list.now c.in-None.ensures.cases
