use Rattle.std.proofs.Common.{◌≡◌, ◌≢◌, ◌⊎◌, ℕ, Bool, IfErr, List, [], Result, Ok, Err, true, ap, inl, inr, refl, subst, sym, ◌∙◌}
use Rattle.sshkey_cert.specs.Certificates.{certificate_of}
use Rattle.sshkey_krl.specs.Revocation.{CertificateIdentity}
use Rattle.sshkey_model.specs.Certificates.{Certificate, SpellsCertificate, normal_certificate, certificate_format}
use Rattle.sshkey_model.specs.Parts.{flat}
use Rattle.sshkey_model.specs.Verification.{Question}
use Rattle.sshkey_base.proofs.Acceptance.{other_cause}
use Rattle.sshkey_matching.specs.FromLists.{is_like_address}
use Rattle.openssh_limits.specs.Padding.{padding}
use Rattle.host_keys.specs.Answers.{IsWhyUnknown, RefusesAsked, RefusesHostCertificate}
use Rattle.host_keys.specs.Hosts.{HostCheck, IsHostCertificate, IsKnownBy, OfAsked, lines_of, login_of}
use Rattle.host_keys.specs.declared.known_by.KnownBy.{KnownBy}
use Rattle.host_keys.specs.declared.refusal.HostRefusal.{HostRefusal}
use Rattle.host_keys.specs.declared.refusal.HostRefusal.TheVariants as refusal
use Rattle.host_keys.proofs.HostKeys.{asks_more, known_as, other_of}
use Rattle.host_keys.proofs.certificate.check_certificate.Goals as goal

pub returns-in-Err-clause-exactly : goal.returns-in-Err-clause-exactly
returns-in-Err-clause-exactly g c = λ other by is. c.in-Err.ensures.accepts (other_cause _ (other_of _ _ c.of_certificate.ensures other)) refl is.certificate is.spelled

pub returns-in-Err-clause-refused : goal.returns-in-Err-clause-refused
returns-in-Err-clause-refused g c = λ other.
    let cause = other_cause _ (other_of _ _ c.of_certificate.ensures other) in
    inl (c.in-Err.ensures.accepts cause refl, (_, c.in-Err.ensures.gives.fault cause refl, c.of_certificate.ensures))

pub returns-then-not-is_normal_form-clause-exactly : goal.returns-then-not-is_normal_form-clause-exactly
returns-then-not-is_normal_form-clause-exactly g c = λ other by is.
    let same = (c.one_certificate.ensures (certificate_of c.in-Ok.read) is.certificate c.args.certificate.now c.args.certificate.now [] [] c.in-Ok.ensures.accepts.spelled is.spelled refl).0 in
    let yes : c.is_normal_form.result ≡ true = c.is_normal_form.ensures.1 (is.normal ∙ ap (λ (d : Certificate). flat (normal_certificate d)) (sym same)) in
    absurd cc

pub returns-then-not-is_normal_form-clause-refused : goal.returns-then-not-is_normal_form-clause-refused
returns-then-not-is_normal_form-clause-refused g c = λ other. inr (certificate_of c.in-Ok.read, c.in-Ok.ensures.accepts.spelled, inl ((λ same. let yes : c.is_normal_form.result ≡ true = c.is_normal_form.ensures.1 same in absurd cc), refl))

pub returns-clause-exactly : goal.returns-clause-exactly
returns-clause-exactly g c =
    let login = login_of c.args.login.now (g.H.HostHasher.hmac c.args.hmac.now) in
    let accepts = padding (g.V.RawVerifier.accepts c.args.verifier.now) in
    let revokes = g.R.Revocations.revokes c.args.revocations.now in
    let revokes_key = g.R.Revocations.revokes_key c.args.revocations.now in
    let certificate = certificate_of c.in-Ok.read in
    known_as (λ (by : KnownBy). OfAsked login (λ asked. IsKnownBy asked accepts revokes revokes_key certificate by)) (IsHostCertificate login accepts revokes revokes_key c.args.certificate.now) c.judge.result
    (λ by trusted. record { certificate = certificate; spelled = c.in-Ok.ensures.accepts.spelled; normal = c.is_normal_form.ensures.0 c.if-not-is_normal_form.false; trusted = trusted })
    (λ by is.
    let same = (c.one_certificate.ensures certificate is.certificate c.args.certificate.now c.args.certificate.now [] [] c.in-Ok.ensures.accepts.spelled is.spelled refl).0 in
    subst (λ (d : Certificate). OfAsked login (λ asked. IsKnownBy asked accepts revokes revokes_key d by)) (sym same) is.trusted)
    c.judge.ensures.exactly

module _ (login : HostCheck) (accepts : Question → Bool) (revokes : List ℕ → CertificateIdentity → Bool) (revokes_key : List ℕ → Bool) (blob : List ℕ) (d : Certificate) (spelled : SpellsCertificate d blob) (normal : blob ≡ flat (normal_certificate d)) where
  refused : (r : Result KnownBy HostRefusal) → IfErr r (RefusesAsked login (λ asked. IsWhyUnknown asked accepts revokes revokes_key d)) → IfErr r (λ e. e ≢ refusal.Memory → RefusesHostCertificate login accepts revokes revokes_key blob e)
  refused (Ok u) why = tt
  refused (Err e) why = λ other. inr (d, spelled, inr (normal, why))

pub returns-clause-refused : goal.returns-clause-refused
returns-clause-refused g c = refused (login_of c.args.login.now (g.H.HostHasher.hmac c.args.hmac.now)) (padding (g.V.RawVerifier.accepts c.args.verifier.now)) (g.R.Revocations.revokes c.args.revocations.now) (g.R.Revocations.revokes_key c.args.revocations.now) c.args.certificate.now (certificate_of c.in-Ok.read) c.in-Ok.ensures.accepts.spelled (c.is_normal_form.ensures.0 c.if-not-is_normal_form.false) c.judge.result c.judge.ensures.refused

pub returns-clause-asks : goal.returns-clause-asks
returns-clause-asks g c = asks_more (is_like_address c.args.login.now.host.now ≡ true) (certificate_format.needs c.args.certificate.now 0 ⊎ (is_like_address c.args.login.now.host.now ≡ true)) inr (g.R.Revocations.revokes_none c.args.revocations.now) (lines_of c.args.login.now.texts.now) c.judge.result c.judge.ensures.asks
