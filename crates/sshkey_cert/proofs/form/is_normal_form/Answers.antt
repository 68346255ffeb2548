use Rattle.std.proofs.Common.{ap, length, eqb-true, eq-eqb, sym, ◌∙◌}
use Rattle.sshkey_cert.specs.Certificates.{certificate_of}
use Rattle.sshkey_cert.proofs.form.is_normal_form.Goals as goal

pub returns-in-Ok : goal.returns-in-Ok
returns-in-Ok c = (
  λ yes. c.shortest_certificate.ensures.only (certificate_of c.args.certificate.now) c.args.blob.now c.requires (sym (eqb-true _ _ yes) ∙ c.in-Ok.ensures.measures.1),
  λ same. eq-eqb _ _ (c.in-Ok.ensures.measures.1 ∙ sym (ap length same)),
)

pub returns-in-Err : goal.returns-in-Err
returns-in-Err c =
    let spelled = c.requires in
    absurd (c.in-Err.ensures.measures.0 (c.certificate_fits.ensures (certificate_of c.args.certificate.now) spelled.choices spelled.is spelled.place spelled.fits).boxes)
