use Rattle.std.proofs.Common.{◌∙◌, ap, arith, length, subst}
use Rattle.sshkey_cert_ref.specs.CertificateRef.{certificate_bytes, certificate_of, choices_of}
use Rattle.sshkey_cert_ref.specs.Lists.{SpellsEachOption, SpellsEachText}
use Rattle.sshkey_cert_ref.proofs.Certificates.{spelled_by}
use Rattle.sshkey_model.specs.Keys.{SpellsKey}
use Rattle.sshkey_model.specs.Certificates.{Certificate, CertificateChoices}
use Rattle.sshkey_calls.proofs.Places.{parts, same_part, stand}
use Rattle.sshkey_calls.proofs.lists.parts_of.Goals as goal

pub returns : goal.returns
returns c =
    let r = c.args.read.now in
    let d : Certificate = certificate_of r in
    let s : CertificateChoices = choices_of r in
    let texts : SpellsEachText d.signed.valid_principals c.as_bytes-5.result.now = rw c.valid_principals.ensures at c.as_bytes-5.ensures.spelled in
    let critical : SpellsEachOption (d.signed.critical_options, s.critical_options) c.as_bytes-4.result.now = rw (c.critical_options.ensures.options, c.critical_options.ensures.choices) at c.as_bytes-4.ensures.spelled in
    let others : SpellsEachOption (d.signed.extensions, s.extensions) c.as_bytes-3.result.now = rw (c.extensions.ensures.options, c.extensions.ensures.choices) at c.as_bytes-3.ensures.spelled in
    let key = c.signature_key_ref.ensures.bytes in
    let all = stand d s (certificate_bytes r) (spelled_by r.bytes.now r.form).shape (subst (SpellsEachText _) texts.shape texts) (subst (SpellsEachOption _) critical.shape critical) (subst (SpellsEachOption _) others.shape others) (subst (SpellsKey _) key c.signature_key_ref.ensures.spelled) in
    let end_ = all.1 in
    let whole = ap length c.as_bytes-end.ensures.bytes in
    let signature = ap length (c.as_bytes.ensures.bytes ∙ c.signature_ref.ensures.bytes) in
    let authority_long = ap length (c.as_bytes-2.ensures.bytes ∙ key) in
    let reserved_long = ap length c.reserved.ensures in
    let extensions_long = ap length others.shape in
    let critical_long = ap length critical.shape in
    let principals_long = ap length texts.shape in
    let key_id_long = ap length c.key_id.ensures in
    let at_signature = c.saturating_sub-signature.ensures in
    let authority = c.content_before-authority.ensures in
    let reserved = c.content_before-reserved.ensures in
    let extensions = c.content_before-extensions.ensures in
    let critical_options = c.content_before-critical_options.ensures in
    let without_window = c.saturating_sub-without_window.ensures in
    let principals = c.content_before-principals.ensures in
    let key_id = c.content_before-key_id.ensures in
    rw (
      same_part c.content_before-key_id.result (parts d s).key_id (omega arith) (omega arith),
      same_part c.content_before-principals.result (parts d s).principals (omega arith) (omega arith),
      same_part c.content_before-critical_options.result (parts d s).critical_options (omega arith) (omega arith),
      same_part c.content_before-extensions.result (parts d s).extensions (omega arith) (omega arith),
      same_part c.content_before-authority.result (parts d s).authority (omega arith) (omega arith),
    ) all.0
