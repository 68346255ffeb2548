use Rattle.std.proofs.Common.{◌∙◌, ap, map, sym}
use Rattle.sshkey_cert.specs.Certificates.{certificate_of}
use Rattle.sshkey_model.specs.Refusals.{has_trusted_authority}
use Rattle.publickey_login.specs.Sources.{Trusted}
use Rattle.publickey_login.specs.Values.{principals_of, text_of}
use Rattle.publickey_login.proofs.Origins.{by_principals_of}
use Rattle.publickey_login.specs.declared.trusted.Principals.{Principals}
use Rattle.publickey_login.proofs.sources.authority_origin.Goals as goal

pub returns-in-Files : goal.returns-in-Files
returns-in-Files c = λ l is.
    by_principals_of l c.args.login.now c.args.trusted.now is (certificate_of c.args.certificate.now) (map text_of c.in-Files.texts.now) (ap (λ (p : Principals). principals_of p) c.in-Files.is) (ap (λ (x : Trusted). has_trusted_authority x.authorities (certificate_of c.args.certificate.now)) (sym is.trusted) ∙ sym c.in_ok-is_trusted.ensures.said ∙ c.if-not-branch.false) c.find_in.result c.find_in.ensures
