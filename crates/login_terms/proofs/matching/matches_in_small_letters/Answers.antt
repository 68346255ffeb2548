use Rattle.std.proofs.Common.{◌∙◌, subst, sym}
use Rattle.std.specs.List.{All}
use Rattle.login_terms.specs.Questions.{IsSmall}
use Rattle.login_terms.proofs.SmallLetters.{in_either, in_small}
use Rattle.login_terms.proofs.matching.matches_in_small_letters.Goals as goal

pub returns-then-not-has_no_capital : goal.returns-then-not-has_no_capital
returns-then-not-has_no_capital c = (
  (λ never. cc),
  λ is. cc (sym c.if-not-has_no_capital.true ∙ c.has_no_capital.ensures.1 (subst (All IsSmall) (sym c.as_bytes.ensures.value) (in_either c.args.pattern.now c.args.host.now is).0)),
)

pub returns : goal.returns
returns c = (
  (λ yes. in_small c.args.pattern.now c.args.host.now (subst (All IsSmall) c.as_bytes.ensures.value (c.has_no_capital.ensures.0 c.if-not-has_no_capital.false)) (c.matches_pattern.ensures.0 yes)),
  λ is. c.matches_pattern.ensures.1 (in_either c.args.pattern.now c.args.host.now is).1,
)
