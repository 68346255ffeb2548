use Rattle.std.proofs.Common.{ℕ, ◌<◌, get_or, Global}
use Rattle.std.specs.Prelude.{String, string_bytes}
use Rattle.login_terms.specs.Values.{IsVariable}
use Rattle.login_terms.proofs.options.has_variable.Given as goal

-- none so far is one of that name
abbrev pub invariant-loop-variable : goal.invariant-loop-variable
invariant-loop-variable l = (k : ℕ) (d : String Global) → k < l.variable-index → IsVariable (string_bytes (get_or l.known k d)) l.name → ⊥
