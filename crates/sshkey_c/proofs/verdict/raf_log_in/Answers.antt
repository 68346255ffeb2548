use Rattle.std.proofs.Common.{Global, ap, refl, ◌∙◌}
use Rattle.sshkey_c.specs.Grants.{no_grant}
use Rattle.sshkey_c.specs.Logins.{signed_in}
use Rattle.sshkey_c.proofs.Verdicts.{given, refused}
use Rattle.sshkey_c.proofs.verdict.raf_log_in.Goals as goal

pub returns-in-Ok-clause-verdict : goal.returns-in-Ok-clause-verdict
returns-in-Ok-clause-verdict c = λ other. given c.args.login.now c.args.ticket.now.bytes c.args.answers c.write_grant.result c.write_grant.new.answer c.args.room.now c.write_grant.new.room (signed_in c.args.login.now.signed_by) (c.in-Ok.content, c.in-Ok.grant) c.deref.result.now c.no_grant-short.result c.deref.ensures.value (c.no_grant-short.ensures ∙ ap (no_grant c.in-Ok.grant.length) c.said.ensures) c.write_grant.ensures c.in-Ok.ensures.verdict

pub returns-in-Err-clause-verdict : goal.returns-in-Err-clause-verdict
returns-in-Err-clause-verdict c = λ other. refused c.args.login.now c.args.ticket.now.bytes c.args.answers c.in-Err.refusal.number c.no_grant.result c.args.room.now c.args.room.now Global (signed_in c.args.login.now.signed_by) c.in-Err.refusal refl c.no_grant.ensures (c.in-Err.ensures.range other) c.in-Err.ensures.verdict other
