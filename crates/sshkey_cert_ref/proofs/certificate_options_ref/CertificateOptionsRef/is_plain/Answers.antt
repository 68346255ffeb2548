use Rattle.std.proofs.Common.{sym, ◌∙◌}
use Rattle.sshkey_cert_ref.proofs.OptionLists.{options_spelled, plain_exactly, normal_exactly}
use Rattle.sshkey_cert_ref.proofs.certificate_options_ref.CertificateOptionsRef.is_plain.Goals as goal

pub returns-clause-plain : goal.returns-clause-plain
returns-clause-plain c =
    let o = c.args.self.now in
    let s = options_spelled o.bytes.now o.form in
    let exactly = plain_exactly _ _ s.is.place in
    (λ plain. exactly.0 (sym o.choices ∙ plain), λ choices. o.choices ∙ exactly.1 choices)

pub returns-clause-normal : goal.returns-clause-normal
returns-clause-normal c =
    let o = c.args.self.now in
    let s = options_spelled o.bytes.now o.form in
    let exactly = normal_exactly o.bytes.now _ _ s.is.place s.shape in
    (λ plain. exactly.0 (sym o.choices ∙ plain), λ normal. o.choices ∙ exactly.1 normal)
