use Rattle.std.proofs.Common.{ℕ, List, ◌++◌, sym, ap, ◌∙◌, append_assoc}
use Rattle.std.specs.Prelude.{Option, Some, None}
use Rattle.std.specs.Io.KnownBytes.{Consumes}
use Rattle.sshkey_public.proofs.read.read_within.Goals as goal

-- what two reads pass, one after the other
passed_then : (old middle new : Option (List ℕ)) (a b : List ℕ) → Consumes old middle a → Consumes middle new b → Consumes old new (a ++ b)
passed_then None middle new a b first second = tt
passed_then (Some xs) None new a b first second = absurd first
passed_then (Some xs) (Some ys) None a b first second = absurd second
passed_then (Some xs) (Some ys) (Some zs) a b first second = first ∙ ap (λ (l : List ℕ). a ++ l) second ∙ sym (append_assoc a b zs)

pub returns-in_err-extend_from_slice-in-Ok-clause-passed : goal.returns-in_err-extend_from_slice-in-Ok-clause-passed
returns-in_err-extend_from_slice-in-Ok-clause-passed g c = (_, passed_then _ (g.R.Read.remaining c.reads.input) _ _ _ c.reads.invariant c.in-Ok.ensures.bytes.0)
