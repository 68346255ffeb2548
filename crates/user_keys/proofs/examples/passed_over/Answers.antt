use Rattle.std.proofs.Common.{true, false}
use Rattle.user_keys.proofs.examples.passed_over.Goals as goal

pub returns : goal.returns
returns c = (
  (λ line t is over. over.no_line false t is),
  (λ line t is over. over.no_line true t is),
  (λ line may over. over.not_taken may),
  (λ line none never. record { no_line = none; not_taken = never }),
)
