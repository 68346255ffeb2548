use Rattle.std.proofs.Common.{ap, ◌∙◌}
use Rattle.sshkey_base.specs.Causes.{cause}
use Rattle.sshkey_calls.proofs.Drafts.{fits_number, is_string, short_or_long}
use Rattle.sshkey_calls.proofs.draft_fields.string_of.Goals as goal

pub returns-in-Ok : goal.returns-in-Ok
returns-in-Ok c =
    let made = is_string c.args.bytes.now c.in-Ok.string.items c.in-Ok.ensures in
    (made, fits_number c.args.bytes.now made.1)

pub returns-in-Err : goal.returns-in-Err
returns-in-Err c = short_or_long c.args.bytes.now c.in-Err.error c.error_status.result c.in-Err.ensures
    (λ memory. c.error_status.ensures.memory (ap cause c.from.ensures ∙ memory))
    (λ fault is. c.error_status.ensures.fault fault (ap cause c.from.ensures ∙ is))
