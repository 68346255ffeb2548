use Rattle.std.proofs.Common.{◌∙◌, ℕ, List, refl, sym, subst}
use Rattle.login_terms.specs.Questions.{Listens}
use Rattle.login_terms.specs.Values.{HostAndPort, permit_of}
use Rattle.login_terms.specs.declared.permits.Permit.{Permit}
use Rattle.login_terms.proofs.Variables.{none_more, none_of, of_these, of_those}
use Rattle.login_terms.proofs.questions.is_listened.Goals as goal

pub returns-then-listens : goal.returns-then-listens
returns-then-listens c =
    let own = subst (λ (h : List ℕ). Listens h c.permit-item.result.port c.args.host.now c.args.port) c.as_str.ensures.value (c.listens.ensures.0 c.if-listens.true) in
    ((λ e. of_those (λ (p : HostAndPort). Listens p.host p.port c.args.host.now c.args.port) permit_of c.args.permits.now (c.loop-permit.permit-index, c.permit-item.result, c.loop-permit-test.true, sym c.permit-item.is, own)), λ any. refl)

pub loop-permit-preserved : goal.loop-permit-preserved
loop-permit-preserved c =
    none_more (λ (p : Permit). Listens (permit_of p).host p.port c.args.host.now c.args.port) c.args.permits.now c.loop-permit.permit-index c.permit-item.result c.loop-permit-test.true (sym c.permit-item.is)
    (λ own. cc (sym c.if-listens.false ∙ c.listens.ensures.1 (subst (λ (h : List ℕ). Listens h c.permit-item.result.port c.args.host.now c.args.port) (sym c.as_str.ensures.value) own))) c.loop-permit.invariant

pub returns : goal.returns
returns c = (
  (λ never. cc),
  λ any. absurd (none_of (λ (p : Permit). Listens (permit_of p).host p.port c.args.host.now c.args.port) c.args.permits.now c.loop-permit.permit-index c.loop-permit-test.false c.loop-permit.invariant (of_these (λ (p : HostAndPort). Listens p.host p.port c.args.host.now c.args.port) permit_of c.args.permits.now any)),
)
