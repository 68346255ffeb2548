use Rattle.std.proofs.Common.{ℕ, List, inr, subst, ◌∙◌}
use Rattle.sshkey_matching.specs.FromLists.{DecidesFrom}
use Rattle.sshkey_matching.proofs.from.from_allows_at.Goals as goal

pub returns : goal.returns
returns c = inr (c.seen-seen.result, c.seen-seen.ensures, subst (λ (t : List ℕ). DecidesFrom c.args.list.now c.args.host t c.from_allows.result) (c.as_str.ensures.value ∙ c.in-Ok.ensures.ok) c.from_allows.ensures)
