use Rattle.std.proofs.Common.{codes, refl}
use Rattle.user_keys.proofs.ExampleLemmas.{first_of_two, never_at_1, never_at_3, unlike}
use Rattle.user_keys.proofs.examples.first_lines.Goals as goal

pub returns : goal.returns
returns c = (
  first_of_two,
  (λ first. never_at_3 first.before first.after first.is first.none first.counted),
  (λ first. never_at_1 first.before first.after (codes "b") first.is first.holds first.counted),
  (λ first. unlike (codes "a") (codes "b") first.holds refl),
)
