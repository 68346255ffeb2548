use Rattle.std.proofs.Common.{ℕ, ◌<◌, get_or}
use Rattle.login_terms.specs.Questions.{Opens}
use Rattle.login_terms.specs.Values.{permit_of}
use Rattle.login_terms.specs.declared.permits.Permit.{Permit}
use Rattle.login_terms.proofs.questions.is_opened.Given as goal

-- none so far is for them
abbrev pub invariant-loop-permit : goal.invariant-loop-permit
invariant-loop-permit l = (k : ℕ) (d : Permit) → k < l.permit-index → Opens (permit_of (get_or l.permits k d)).host (permit_of (get_or l.permits k d)).port l.host l.port → ⊥
