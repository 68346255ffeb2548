use Rattle.std.proofs.Common.{◌∙◌, ap, inl, refl}
use Rattle.login_policy.specs.declared.refusal.LoginRefusal as policies
use Rattle.sshkey_base.proofs.Acceptance.{other_cause}
use Rattle.user_keys.specs.declared.refusal.UserRefusal.TheVariants as refusal
use Rattle.user_keys.proofs.CertificateLogins.{other_error, other_refusal}
use Rattle.user_keys.proofs.policy.read_certificate.Goals as goal

pub returns-in-Err-clause-refused : goal.returns-in-Err-clause-refused
returns-in-Err-clause-refused c =
    λ other.
    let p = other_refusal c.from.result c.from-in-Err.result c.from-in-Err.ensures other in
    let e = other_error c.in-Err.error c.from.result c.from.ensures p.0 in
    inl (c.in-Err.ensures.accepts (other_cause _ e.0) refl, (c.in-Err.error, c.in-Err.ensures.gives.fault (other_cause _ e.0) refl, p.1 ∙ ap (λ (x : policies.LoginRefusal). refusal.Certificate x) e.1))
