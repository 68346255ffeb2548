use Rattle.std.proofs.Common.{◌≡◌, ◌<◌, ◌⊎◌, ℕ, List, true, false, None, arith, inl, inr, subst}
use Rattle.login_terms.specs.Options.{Terms}
use Rattle.user_keys.specs.Judgements.{Judges}
use Rattle.user_keys.specs.Lines.{MayBeFor}
use Rattle.user_keys.specs.LoginExamples.{by_key, login_at, other}
use Rattle.user_keys.specs.TermExamples.{expiring}
use Rattle.user_keys.specs.UserLogins.{IsOwn, MayLet}
use Rattle.user_keys.specs.declared.answer.Judgement.TheVariants.{Unclear}
use Rattle.user_keys.proofs.examples.may_let_in.Goals as goal

never : false ≡ true → ⊥
never e = absurd cc

-- a line that is over in some zone
over : (line : List ℕ) (time : ℕ) → 10 < time → time < 21 → IsOwn by_key line expiring → MayLet (login_at time) by_key line
over line time first last own = inr (record {
  terms = expiring;
  own = own;
  may = ((λ no. omega (arith, last, no.1)), (λ vain. never vain.1), (λ out. out), inl (first, omega (arith, last)));
})

-- one of which can be told whether it is
told : (line : List ℕ) (time : ℕ) → (time < 11) ⊎ (20 < time) → (MayBeFor other line → ⊥) → ((t : Terms) → IsOwn by_key line t → t ≡ expiring) → MayLet (login_at time) by_key line → ⊥
told line time outside none only (inl may) = none may
told line time outside none only (inr may) =
    let judged : Judges expiring time None None Unclear = subst (λ (t : Terms). Judges t time None None Unclear) (only may.terms may.own) may.may in
    elim judged.3 [
      | inl unclear ↦ omega (arith, outside, unclear.0, unclear.1)
      | inr from ↦ from
    ]

pub returns : goal.returns
returns c = (
  (λ line may. inl may),
  (λ line own. over line 11 (omega arith) (omega arith) own),
  (λ line own. over line 20 (omega arith) (omega arith) own),
  (λ line none only. told line 10 (inl (omega arith)) none only),
  (λ line none only. told line 21 (inr (omega arith)) none only),
)
