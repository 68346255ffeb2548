use Rattle.std.proofs.Common.{sym, ◌∙◌}
use Rattle.authority.proofs.keys.KeyKinds.allow.Goals as goal

pub returns-then-are_of : goal.returns-then-are_of
returns-then-are_of c = (
  λ yes. record { among = sym c.are_of.ensures ∙ c.if-are_of.true; let_in = sym c.openssh_accepts_key.ensures ∙ yes },
  λ is. c.openssh_accepts_key.ensures ∙ is.let_in,
)
