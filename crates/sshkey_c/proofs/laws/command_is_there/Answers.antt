use Rattle.std.proofs.Common.{drop, length}
use Rattle.login_terms.specs.Options.{terms_of}
use Rattle.sshkey_c.proofs.Grants.{at_front}
use Rattle.sshkey_c.specs.Grants.{command_of, grant_bytes, key_id_of, permit_strings, strings, to_listen, to_open}
use Rattle.sshkey_c.proofs.laws.command_is_there.Goals as goal

pub returns : goal.returns
returns c = λ g a before after is.
    let t = terms_of g.user.terms in
    let there = at_front (command_of g.user) (key_id_of g.user.certified) (permit_strings (to_open t)) (permit_strings (to_listen t)) (strings t.environment) (drop (length (grant_bytes g)) before) after a.force_command is.content is.placed.force_command.0 is.placed.force_command.1 in
    record { permits = is.placed.permits; within = there.0; bytes = there.1 }
