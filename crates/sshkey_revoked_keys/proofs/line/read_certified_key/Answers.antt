use Rattle.std.proofs.Common.{inr, ap, true}
use Rattle.std.proofs.lemmas.Result.{err_from_is_err_and}
use Rattle.sshkey_model.specs.Certificates.{certificate_format, SpellsCertificate}
use Rattle.sshkey_cert.proofs.Certificates.{certificates_stand}
use Rattle.sshkey_model.specs.Keys.{Key, normal_key}
use Rattle.sshkey_model.specs.Lines.{name_of_certificate}
use Rattle.sshkey_model.specs.Parts.{flat}
use Rattle.sshkey_revoked_keys.specs.RevokedKeys.{IsReadCertificate}
use Rattle.sshkey_revoked_keys.proofs.NamedWords.{key_asks, key_reads, key_refuses, unnamed, unread, unread_fault}
use Rattle.sshkey_revoked_keys.proofs.line.read_certified_key.Goals as goal

pub returns-in_err-certificate-clause-reads : goal.returns-in_err-certificate-clause-reads
returns-in_err-certificate-clause-reads c = let p = err_from_is_err_and c.from_residual.result c.from_residual.ensures.1 in
    rw (p.1, p.2) (λ other key says. c.in_err-certificate.ensures.reads other says.0 says.1.named)

pub returns-in_err-certificate-clause-fault : goal.returns-in_err-certificate-clause-fault
returns-in_err-certificate-clause-fault c = let p = err_from_is_err_and c.from_residual.result c.from_residual.ensures.1 in
    rw (p.1, p.2) (λ other. unnamed certificate_format name_of_certificate SpellsCertificate certificates_stand.blobs IsReadCertificate c.args.name.now c.args.word.now _ (c.in_err-certificate.ensures.reads other) (c.in_err-certificate.ensures.fault other))

pub returns-in_err-certificate-clause-asks : goal.returns-in_err-certificate-clause-asks
returns-in_err-certificate-clause-asks c = let p = err_from_is_err_and c.from_residual.result c.from_residual.ensures.1 in
    rw (p.1, p.2) (λ memory. inr (c.in_err-certificate.ensures.asks memory))

pub returns-then-not-is_read_certificate-clause-reads : goal.returns-then-not-is_read_certificate-clause-reads
returns-then-not-is_read_certificate-clause-reads c = λ _ key says. unread certificate_format name_of_certificate SpellsCertificate certificates_stand.blobs IsReadCertificate c.args.name.now c.args.word.now _ c.in_ok-certificate.ensures.reads (λ is. let yes = c.is_read_certificate.ensures.1 is in absurd cc) says.0 says.1

pub returns-then-not-is_read_certificate-clause-fault : goal.returns-then-not-is_read_certificate-clause-fault
returns-then-not-is_read_certificate-clause-fault c = λ _. unread_fault certificate_format name_of_certificate SpellsCertificate certificates_stand.blobs IsReadCertificate c.args.name.now c.args.word.now _ c.in_ok-certificate.ensures.reads (λ is. let yes = c.is_read_certificate.ensures.1 is in absurd cc)

pub returns-clause-reads : goal.returns-clause-reads
returns-clause-reads c = let same = ap (λ (k : Key). flat (normal_key k)) c.public_key.ensures.value in
    key_reads true c.args.name.now c.args.word.now _ (_, record { named = c.in_ok-certificate.ensures.reads; read = c.is_read_certificate.ensures.0 c.if-not-is_read_certificate.false }, same) c.normal_form.result c.normal_form.ensures.bytes c.normal_form.ensures.memory

pub returns-clause-fault : goal.returns-clause-fault
returns-clause-fault c = let same = ap (λ (k : Key). flat (normal_key k)) c.public_key.ensures.value in
    key_refuses true c.args.name.now c.args.word.now _ (_, record { named = c.in_ok-certificate.ensures.reads; read = c.is_read_certificate.ensures.0 c.if-not-is_read_certificate.false }, same) c.normal_form.result c.normal_form.ensures.memory

pub returns-clause-asks : goal.returns-clause-asks
returns-clause-asks c = let same = ap (λ (k : Key). flat (normal_key k)) c.public_key.ensures.value in
    key_asks true c.args.name.now c.args.word.now _ (_, record { named = c.in_ok-certificate.ensures.reads; read = c.is_read_certificate.ensures.0 c.if-not-is_read_certificate.false }, same) c.normal_form.result
