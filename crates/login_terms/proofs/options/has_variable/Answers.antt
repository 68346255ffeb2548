use Rattle.std.proofs.Common.{◌∙◌, Global, List, refl, sym, subst, ℕ}
use Rattle.std.specs.Prelude.{String, string_bytes}
use Rattle.login_terms.specs.Values.{IsVariable}
use Rattle.login_terms.proofs.Variables.{none_more, none_of, of_these, of_those}
use Rattle.login_terms.proofs.options.has_variable.Goals as goal

pub returns-then-is_variable_of : goal.returns-then-is_variable_of
returns-then-is_variable_of c =
    let own = subst (λ (t : List ℕ). IsVariable t c.args.name.now) c.as_str.ensures.value (c.is_variable_of.ensures.0 c.if-is_variable_of.true) in
    ((λ e. of_those (λ (t : List ℕ). IsVariable t c.args.name.now) string_bytes c.args.known.now (c.loop-variable.variable-index, c.variable-item.result, c.loop-variable-test.true, sym c.variable-item.is, own)), λ any. refl)

pub loop-variable-preserved : goal.loop-variable-preserved
loop-variable-preserved c =
    none_more (λ (v : String Global). IsVariable (string_bytes v) c.args.name.now) c.args.known.now c.loop-variable.variable-index c.variable-item.result c.loop-variable-test.true (sym c.variable-item.is)
    (λ own. cc (sym c.if-is_variable_of.false ∙ c.is_variable_of.ensures.1 (subst (λ (t : List ℕ). IsVariable t c.args.name.now) (sym c.as_str.ensures.value) own))) c.loop-variable.invariant

pub returns : goal.returns
returns c = (
  (λ never. cc),
  λ any. absurd (none_of (λ (v : String Global). IsVariable (string_bytes v) c.args.name.now) c.args.known.now c.loop-variable.variable-index c.loop-variable-test.false c.loop-variable.invariant (of_these (λ (t : List ℕ). IsVariable t c.args.name.now) string_bytes c.args.known.now any)),
)
