use Rattle.std.specs.Int.Count.{count_leading_zeros}
use Rattle.host_keys.proofs.ExampleLemmas.{never}
use Rattle.host_keys.proofs.examples.unaccepted.Goals as goal

pub returns : goal.returns
unfolding count_leading_zeros
returns c = λ l. ((λ t. never t.accepted), (λ t. never t.accepted), (λ t. never t.accepted), (λ t. never t.accepted))
