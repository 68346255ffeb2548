use Rattle.std.proofs.Common.{refl, subst}
use Rattle.user_keys.specs.CertificateLogins.{IsCertified}
use Rattle.user_keys.proofs.ExampleLemmas.{no_dsa}
use Rattle.user_keys.proofs.examples.admitted_certificates.Goals as goal

pub returns : goal.returns
returns c = (
  (λ authorities l g a k dsa. no_dsa 0 a.certificate.signed.signature_key k dsa a.accepted),
  (λ authorities l g a. a.line),
  (λ p c t g binds. binds.normal),
  (λ p c t g binds. binds.lets_in),
  (λ p c t g binds. binds.merges),
  (λ p c t g none binds. subst (IsCertified c) none binds.certified),
  (λ is. is),
  (λ by is. is.serial),
  refl,
  (λ address. refl),
)
