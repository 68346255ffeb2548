use Rattle.std.proofs.Common.{[], ◌∷◌, IsTrue, None, inl, inr, refl, rules}
use Rattle.sshkey_model.specs.CertificateExamples.{authority}
use Rattle.sshkey_model.specs.Fingerprints.{fingerprint}
use Rattle.sshkey_model.specs.Names.{Sha256}
use Rattle.sshkey_model.specs.Refusals.{has_trusted_authority}
use Rattle.user_keys.specs.declared.refusal.Reason.TheVariants.{Elsewhere, Expired}
use Rattle.publickey_login.specs.LoginExamples.{trusting_all, certificate, login, nobodys, trusting}
use Rattle.publickey_login.specs.Sources.{Files, Read, ArePassed, AuthorityLine, IsOfFirst, user_of}
use Rattle.publickey_login.specs.RefusalExamples.{at}
use Rattle.publickey_login.specs.declared.grant.Source.TheVariants as source
use Rattle.publickey_login.proofs.RefusalExamples.{never_told}
use Rattle.publickey_login.proofs.examples.refused_certificates.Goals as goal

pub returns : goal.returns
unfolding IsOfFirst ArePassed
returns c = λ over elsewhere both.
    let trusted : IsTrue (has_trusted_authority (fingerprint Sha256 authority ∷ []) certificate) = search rules in
    let also : IsTrue (has_trusted_authority (fingerprint Sha256 authority ∷ []) nobodys) = search rules in
    let untrusting = login (record (trusting [] (Files (Read over ∷ [])) []) { authorities = [] }) in (
      (None, at (source.Principals 0) 3 Expired, at (source.Command 0) 1 Elsewhere, tt, inr (trusted, (0, refl, both.third)), (0, refl, both.first), refl),
      (at (source.AuthorizedKeys 0) 1 Elsewhere, at (source.Principals 0) 3 Expired, None, (0, refl, both.first), inr (trusted, (0, refl, both.third)), tt, refl),
      (None, None, at (source.Command 0) 1 Elsewhere, tt, inl (refl, refl), (0, refl, both.first), refl),
      (None, None, None, tt, inr (also, refl), tt, refl),
      (λ a. never_told (user_of trusting_all) (AuthorityLine certificate) untrusting certificate (record { source = source.Principals 0; line = 3; reason = Expired }) refl a.0 a.1 a.2 a.3 a.4 a.5 a.6),
    )
