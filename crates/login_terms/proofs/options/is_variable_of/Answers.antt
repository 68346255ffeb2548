use Rattle.std.proofs.Common.{◌∙◌, ◌∷◌, ◌++◌, [], List, Some, None, ap, sym, ℕ}
use Rattle.std.proofs.lemmas.Bool.Decides.{Decides-eqb}
use Rattle.std.proofs.lemmas.Slice.Eq.{starts_is, strip_prefix_is}
use Rattle.login_terms.proofs.Variables.{goes_on}
use Rattle.login_terms.proofs.options.is_variable_of.Goals as goal

pub returns-in-Some : goal.returns-in-Some
returns-in-Some c =
    let front = strip_prefix_is Decides-eqb c.as_bytes.result.now c.as_bytes-2.result.now (Some c.in-Some.rest) c.in-Some.ensures.cases in
    let next = starts_is Decides-eqb c.in-Some.rest.now (0x3d ∷ []) c.starts_with.result c.starts_with.ensures.value in
    let both = goes_on c.args.text.now c.args.name.now c.in-Some.rest.now c.requires (sym c.as_bytes.ensures.value ∙ front ∙ ap (λ (n : List ℕ). n ++ c.in-Some.rest.now) c.as_bytes-2.ensures.value) in
    ((λ yes. both.0 (_, next.0 yes)), (λ is. next.1 (both.1 is).0 (both.1 is).1))

pub returns-in-None : goal.returns-in-None
returns-in-None c =
    let front = strip_prefix_is Decides-eqb c.as_bytes.result.now c.as_bytes-2.result.now None c.in-None.ensures.cases in
    ((λ yes. absurd cc), (λ is. absurd (front (0x3d ∷ is.value) (c.as_bytes.ensures.value ∙ is.is ∙ sym (ap (λ (n : List ℕ). n ++ (0x3d ∷ is.value)) c.as_bytes-2.ensures.value)))))
