use Rattle.std.proofs.Common.{◌∙◌, [], subst, sym, true}
use Rattle.sshkey_entries.proofs.ByteLines.{step}
use Rattle.sshkey_known_hosts.specs.HeldNames.{SayNothing}
use Rattle.sshkey_known_hosts.proofs.HeldNames.{others_say_nothing}
use Rattle.sshkey_known_hosts.proofs.places.names_of.Goals as goal

pub returns-then-is_filled : goal.returns-then-is_filled
returns-then-is_filled c text one hmac name other =
    let filled = c.skip_blanks-filled.result.now in
    subst (SayNothing hmac name) (sym (step text c.args.line.now [] filled true one c.skip_blanks-filled.ensures (sym c.is_filled.ensures ∙ c.if-is_filled.true))) (others_say_nothing hmac name filled (c.names_of_line.ensures hmac name other))
