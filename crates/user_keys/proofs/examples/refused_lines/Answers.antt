use Rattle.std.proofs.Common.{None, arith, inl, refl, subst}
use Rattle.login_terms.specs.Options.{Terms}
use Rattle.user_keys.specs.Judgements.{Judges}
use Rattle.user_keys.specs.TermExamples.{expiring}
use Rattle.user_keys.specs.declared.answer.Judgement.TheVariants.{Allows, Refuses, Unclear}
use Rattle.user_keys.specs.declared.refusal.Reason.TheVariants.{Expired}
use Rattle.user_keys.proofs.ExampleLemmas.{never}
use Rattle.user_keys.proofs.examples.refused_lines.Goals as goal

pub returns : goal.returns
returns c = (
  (λ line own. record { terms = expiring; own = own; refused = (omega arith, omega arith) }),
  (λ line only is.
      let refused : Judges expiring 20 None None (Refuses Expired) = subst (λ (t : Terms). Judges t 20 None None (Refuses Expired)) (only is.terms is.own) is.refused in
      omega (arith, refused.1)),
  (λ line own. record { terms = expiring; own = own; may = ((λ no. omega (arith, no.1)), (λ vain. never vain.1), (λ out. out), inl (omega arith, omega arith)) }),
  (λ line only is.
      let judged : Judges expiring 21 None None Unclear = subst (λ (t : Terms). Judges t 21 None None Unclear) (only is.terms is.own) is.may in
      judged.0 (omega arith, omega arith)),
  refl,
  (Allows, refl, refl),
  (Allows, refl, refl),
)
