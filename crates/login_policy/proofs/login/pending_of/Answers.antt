use Rattle.std.proofs.Common.{◌≡◌, ◌∙◌, inl, inr, refl, sym, true}
use Rattle.std.proofs.lemmas.Result.{err_from_is_err_and}
use Rattle.sshkey_cert.specs.Certificates.{certificate_of}
use Rattle.login_policy.specs.Logins.{login_of}
use Rattle.login_policy.specs.Refusals.{FromElsewhere, NotSigned}
use Rattle.login_policy.proofs.Logins.{field_not_memory, granted, refused, trusted_if_none, valid_if_signed}
use Rattle.login_policy.proofs.login.pending_of.Goals as goal

pub returns-then-not-is_normal_form-clause-exactly : goal.returns-then-not-is_normal_form-clause-exactly
returns-then-not-is_normal_form-clause-exactly g c = λ other. refused c.refused_or_wanted.ensures c.one_certificate.ensures _ (certificate_of c.args.certificate) _ c.requires (inl ((λ same. let yes : c.is_normal_form.result ≡ true = c.is_normal_form.ensures.1 same in absurd cc), refl))

pub returns-then-not-is_normal_form-clause-refused : goal.returns-then-not-is_normal_form-clause-refused
returns-then-not-is_normal_form-clause-refused g c = λ other. inr ((certificate_of c.args.certificate), c.requires, inl ((λ same. let yes : c.is_normal_form.result ≡ true = c.is_normal_form.ensures.1 same in absurd cc), refl))

pub returns-in_err-check_fields-clause-exactly : goal.returns-in_err-check_fields-clause-exactly
returns-in_err-check_fields-clause-exactly g c =
    let p = err_from_is_err_and c.from_residual.result c.from_residual.ensures.1 in
    rw (p.1, p.2) (λ other. refused c.refused_or_wanted.ensures c.one_certificate.ensures _ (certificate_of c.args.certificate) _ c.requires (inr ((c.is_normal_form.ensures.0 c.if-not-is_normal_form.false), inl c.in_err-check_fields.ensures.wrong)))

pub returns-in_err-check_fields-clause-refused : goal.returns-in_err-check_fields-clause-refused
returns-in_err-check_fields-clause-refused g c =
    let p = err_from_is_err_and c.from_residual.result c.from_residual.ensures.1 in
    rw (p.1, p.2) (λ other. inr ((certificate_of c.args.certificate), c.requires, inr ((c.is_normal_form.ensures.0 c.if-not-is_normal_form.false), inl c.in_err-check_fields.ensures.wrong)))

pub returns-in_err-check_fields-clause-memory : goal.returns-in_err-check_fields-clause-memory
returns-in_err-check_fields-clause-memory g c =
    let p = err_from_is_err_and c.from_residual.result c.from_residual.ensures.1 in
    rw (p.1, p.2) (λ memory. absurd (field_not_memory _ _ _ _ c.in_err-check_fields.ensures.wrong memory))

pub returns-in_err-authority-clause-exactly : goal.returns-in_err-authority-clause-exactly
returns-in_err-authority-clause-exactly g c =
    let p = err_from_is_err_and c.from_residual-in_err-authority.result c.from_residual-in_err-authority.ensures.1 in
    rw (p.1, p.2) (λ other. refused c.refused_or_wanted.ensures c.one_certificate.ensures _ (certificate_of c.args.certificate) _ c.requires (inr ((c.is_normal_form.ensures.0 c.if-not-is_normal_form.false), inr (c.in_ok-check_fields.ensures.right, c.in_err-authority.ensures.refused other))))

pub returns-in_err-authority-clause-refused : goal.returns-in_err-authority-clause-refused
returns-in_err-authority-clause-refused g c =
    let p = err_from_is_err_and c.from_residual-in_err-authority.result c.from_residual-in_err-authority.ensures.1 in
    rw (p.1, p.2) (λ other. inr ((certificate_of c.args.certificate), c.requires, inr ((c.is_normal_form.ensures.0 c.if-not-is_normal_form.false), inr (c.in_ok-check_fields.ensures.right, c.in_err-authority.ensures.refused other))))

pub returns-in_err-authority-clause-memory : goal.returns-in_err-authority-clause-memory
returns-in_err-authority-clause-memory g c =
    let p = err_from_is_err_and c.from_residual-in_err-authority.result c.from_residual-in_err-authority.ensures.1 in
    rw (p.1, p.2) (λ memory. c.in_err-authority.ensures.memory memory)

pub returns-then-not-is_allowed_from-clause-exactly : goal.returns-then-not-is_allowed_from-clause-exactly
returns-then-not-is_allowed_from-clause-exactly g c = λ other. refused c.refused_or_wanted.ensures c.one_certificate.ensures _ (certificate_of c.args.certificate) _ c.requires (inr (
  (c.is_normal_form.ensures.0 c.if-not-is_normal_form.false),
  inr (
    c.in_ok-check_fields.ensures.right,
    FromElsewhere c.in_ok-authority.ensures.unrevoked c.in_ok-authority.ensures.valid (λ allowed.
        let yes : c.is_allowed_from.result ≡ true = c.is_allowed_from.ensures.1 (rw c.critical_options.ensures allowed) in
        absurd cc),
  ),
))

pub returns-then-not-is_allowed_from-clause-refused : goal.returns-then-not-is_allowed_from-clause-refused
returns-then-not-is_allowed_from-clause-refused g c = λ other. inr (
  (certificate_of c.args.certificate),
  c.requires,
  inr (
    (c.is_normal_form.ensures.0 c.if-not-is_normal_form.false),
    inr (
      c.in_ok-check_fields.ensures.right,
      FromElsewhere c.in_ok-authority.ensures.unrevoked c.in_ok-authority.ensures.valid (λ allowed.
          let yes : c.is_allowed_from.result ≡ true = c.is_allowed_from.ensures.1 (rw c.critical_options.ensures allowed) in
          absurd cc),
    ),
  ),
)

pub returns-then-not-raises_question-clause-exactly : goal.returns-then-not-raises_question-clause-exactly
returns-then-not-raises_question-clause-exactly g c = λ other. refused c.refused_or_wanted.ensures c.one_certificate.ensures _ (certificate_of c.args.certificate) _ c.requires (inr ((c.is_normal_form.ensures.0 c.if-not-is_normal_form.false), inr (c.in_ok-check_fields.ensures.right, NotSigned c.in_ok-authority.ensures.unrevoked c.in_ok-authority.ensures.valid (rw c.critical_options.ensures at (c.is_allowed_from.ensures.0 c.if-not-is_allowed_from.false)) (sym c.raises_question.ensures ∙ c.if-not-raises_question.true))))

pub returns-then-not-raises_question-clause-refused : goal.returns-then-not-raises_question-clause-refused
returns-then-not-raises_question-clause-refused g c = λ other. inr ((certificate_of c.args.certificate), c.requires, inr ((c.is_normal_form.ensures.0 c.if-not-is_normal_form.false), inr (c.in_ok-check_fields.ensures.right, NotSigned c.in_ok-authority.ensures.unrevoked c.in_ok-authority.ensures.valid (rw c.critical_options.ensures at (c.is_allowed_from.ensures.0 c.if-not-is_allowed_from.false)) (sym c.raises_question.ensures ∙ c.if-not-raises_question.true))))

pub returns-in_err-grant-clause-memory : goal.returns-in_err-grant-clause-memory
returns-in_err-grant-clause-memory g c =
    let p = err_from_is_err_and c.from_residual-in_err-grant.result c.from_residual-in_err-grant.ensures.1 in
    rw p.1 (λ memory. inr (trusted_if_none (login_of c.args.login.now (λ _. true) (g.R.Revocations.revokes c.args.revocations.now)) (certificate_of c.args.certificate) c.in_ok-authority.ensures.valid))

pub returns-clause-exactly : goal.returns-clause-exactly
returns-clause-exactly g c =
    let l = login_of c.args.login.now (λ _. true) (g.R.Revocations.revokes c.args.revocations.now) in
    let signed = sym c.raises_question.ensures ∙ c.if-not-raises_question.false in
    granted l (certificate_of c.args.certificate) _ c.requires (c.is_normal_form.ensures.0 c.if-not-is_normal_form.false) c.in_ok-check_fields.ensures.right c.in_ok-authority.ensures.unrevoked (valid_if_signed c.refused_or_wanted.ensures l (certificate_of c.args.certificate) c.in_ok-authority.ensures.valid signed) (rw c.critical_options.ensures at (c.is_allowed_from.ensures.0 c.if-not-is_allowed_from.false)) c.in_ok-grant.ensures.value
