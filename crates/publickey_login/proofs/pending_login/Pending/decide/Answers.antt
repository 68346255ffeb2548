use Rattle.std.proofs.Common.{◌∙◌, inr, refl, sym}
use Rattle.publickey_login.specs.Results.{authority_in}
use Rattle.publickey_login.proofs.Pendings.{not_said, said_not, said_so, yes_said, yes_unasked}
use Rattle.publickey_login.proofs.pending_login.Pending.decide.Goals as goal
use Rattle.publickey_login.proofs.pending_login.Pending.decide.Goals.{else-is_some-via-then-is_some+else-not-answers, else-is_some-via-else-is_some}

pub returns-then-not-answers-2 : goal.returns-then-not-answers-2
returns-then-not-answers-2 c = inr (
  elim c.else-is_some.branch [
    | else-is_some-via-then-is_some+else-not-answers w ↦ yes_said (authority_in c.args.self) c.args.answers.authority (said_so c.args.answers.authority w.if-not-answers.false)
    | else-is_some-via-else-is_some w ↦ yes_unasked c.args.self.authority c.args.answers.authority (sym c.is_some.ensures ∙ w.if-is_some.false)
  ],
  not_said c.args.self.client c.args.answers.client (sym c.is_some-2.ensures ∙ c.if-is_some-2.true) (said_not c.args.answers.client c.if-not-answers-2.true),
  refl,
)
