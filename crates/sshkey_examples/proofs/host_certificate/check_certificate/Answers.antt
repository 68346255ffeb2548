use Rattle.std.proofs.Common.{◌≡◌, ◌≢◌, ◌∙◌, [], sym, true}
use Rattle.ssh_key.specs.cert_ref.CertificateRef.{certificate_of}
use Rattle.sshkey_examples.specs.HostCertificates.{ForUsers, NoPrincipal, SomeOption}
use Rattle.sshkey_examples.proofs.HostCertificates.{certifies_host, not_valid, of_plain}
use Rattle.sshkey_examples.proofs.host_certificate.check_certificate.Goals as goal

pub returns-then-not-is_host-clause-exactly : goal.returns-then-not-is_host-clause-exactly
returns-then-not-is_host-clause-exactly g c = λ other is.
    let yes : c.is_host.result ≡ true = c.is_host.ensures.1 (c.cert_type.ensures ∙ is.plain.for_hosts) in
    absurd cc

pub returns-then-not-is_host-clause-refused : goal.returns-then-not-is_host-clause-refused
returns-then-not-is_host-clause-refused g c = λ other. ForUsers (λ hosts.
    let yes : c.is_host.result ≡ true = c.is_host.ensures.1 (c.cert_type.ensures ∙ hosts) in
    absurd cc)

pub returns-then-not-is_empty-clause-exactly : goal.returns-then-not-is_empty-clause-exactly
returns-then-not-is_empty-clause-exactly g c = λ other is.
    let yes : c.is_empty.result ≡ true = c.is_empty.ensures.1 (c.critical_options.ensures.options ∙ is.plain.no_options) in
    absurd cc

pub returns-then-not-is_empty-clause-refused : goal.returns-then-not-is_empty-clause-refused
returns-then-not-is_empty-clause-refused g c = λ other. SomeOption (sym c.cert_type.ensures ∙ c.is_host.ensures.0 c.if-not-is_host.false) (λ none.
    let yes : c.is_empty.result ≡ true = c.is_empty.ensures.1 (c.critical_options.ensures.options ∙ none) in
    absurd cc)

pub returns-then-is_empty-clause-refused : goal.returns-then-is_empty-clause-refused
returns-then-is_empty-clause-refused g c = λ other. NoPrincipal (sym c.cert_type.ensures ∙ c.is_host.ensures.0 c.if-not-is_host.false) (sym c.critical_options.ensures.options ∙ c.is_empty.ensures.0 c.if-not-is_empty.false) (sym c.valid_principals.ensures ∙ c.is_empty-2.ensures.0 c.if-is_empty.true)

pub returns-clause-exactly : goal.returns-clause-exactly
returns-clause-exactly g c =
    let hosts = sym c.cert_type.ensures ∙ c.is_host.ensures.0 c.if-not-is_host.false in
    let none = sym c.critical_options.ensures.options ∙ c.is_empty.ensures.0 c.if-not-is_empty.false in
    let some : (certificate_of c.args.certificate.now).signed.valid_principals ≢ [] = λ nobody.
    let yes : c.is_empty-2.result ≡ true = c.is_empty-2.ensures.1 (c.valid_principals.ensures ∙ nobody) in
    absurd cc in
    certifies_host _ _ _ _ (certificate_of c.args.certificate.now) (record { for_hosts = hosts; no_options = none; some_principal = some }) c.validate_principal_at.result c.validate_principal_at.ensures.exactly

pub returns-clause-refused : goal.returns-clause-refused
returns-clause-refused g c =
    let hosts = sym c.cert_type.ensures ∙ c.is_host.ensures.0 c.if-not-is_host.false in
    let none = sym c.critical_options.ensures.options ∙ c.is_empty.ensures.0 c.if-not-is_empty.false in
    let some : (certificate_of c.args.certificate.now).signed.valid_principals ≢ [] = λ nobody.
    let yes : c.is_empty-2.result ≡ true = c.is_empty-2.ensures.1 (c.valid_principals.ensures ∙ nobody) in
    absurd cc in
    not_valid _ _ _ _ (certificate_of c.args.certificate.now) (record { for_hosts = hosts; no_options = none; some_principal = some }) c.validate_principal_at.result c.validate_principal_at.ensures.exactly

pub returns-clause-memory : goal.returns-clause-memory
returns-clause-memory g c =
    let hosts = sym c.cert_type.ensures ∙ c.is_host.ensures.0 c.if-not-is_host.false in
    let none = sym c.critical_options.ensures.options ∙ c.is_empty.ensures.0 c.if-not-is_empty.false in
    let some : (certificate_of c.args.certificate.now).signed.valid_principals ≢ [] = λ nobody.
    let yes : c.is_empty-2.result ≡ true = c.is_empty-2.ensures.1 (c.valid_principals.ensures ∙ nobody) in
    absurd cc in
    of_plain (certificate_of c.args.certificate.now) (record { for_hosts = hosts; no_options = none; some_principal = some }) c.validate_principal_at.result
