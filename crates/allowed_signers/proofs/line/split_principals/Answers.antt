use Rattle.std.proofs.Common.{◌∙◌, sym}
use Rattle.allowed_signers.proofs.Fronts.{principals, returned}
use Rattle.allowed_signers.proofs.line.split_principals.Goals as goal

pub returns-in_default : goal.returns-in_default
returns-in_default c = λ p has. c.in_default.ensures p has.cut

pub returns-then-not-is_without : goal.returns-then-not-is_without
returns-then-not-is_without c = returned c.args.line.now (c.in-Some.principals, c.in-Some.rest) c.in-Some.ensures.0 c.in-Some.ensures.1 (λ plain. cc (sym c.if-not-is_without.true ∙ c.is_without.ensures.1 plain))

pub returns : goal.returns
returns c = principals c.args.line.now (c.in-Some.principals, c.in-Some.rest) c.in-Some.ensures.0 c.in-Some.ensures.1 (c.is_without.ensures.0 c.if-not-is_without.false)
