use Rattle.std.proofs.Common.{◌≡◌, refl, true, sym, ◌∙◌}
use Rattle.host_keys.specs.Hosts.{ForUsers, OtherKeyId, OtherPrincipals, SomeOption}
use Rattle.host_keys.proofs.certificate.check_fields.Goals as goal

pub returns-then-not-is_host-clause-exactly : goal.returns-then-not-is_host-clause-exactly
returns-then-not-is_host-clause-exactly c = (
  λ never. cc never,
  λ is.
      let yes : c.is_host.result ≡ true = c.is_host.ensures.1 (c.cert_type.ensures ∙ is.for_hosts) in
      absurd cc,
)

pub returns-then-not-is_host-clause-refused : goal.returns-then-not-is_host-clause-refused
returns-then-not-is_host-clause-refused c = ForUsers (λ hosts.
    let yes : c.is_host.result ≡ true = c.is_host.ensures.1 (c.cert_type.ensures ∙ hosts) in
    absurd cc)

pub returns-then-not-is_empty-clause-exactly : goal.returns-then-not-is_empty-clause-exactly
returns-then-not-is_empty-clause-exactly c = (
  λ never. cc never,
  λ is.
      let yes : c.is_empty.result ≡ true = c.is_empty.ensures.1 (c.critical_options.ensures ∙ is.no_options) in
      absurd cc,
)

pub returns-then-not-is_empty-clause-refused : goal.returns-then-not-is_empty-clause-refused
returns-then-not-is_empty-clause-refused c = SomeOption (sym c.cert_type.ensures ∙ c.is_host.ensures.0 c.if-not-is_host.false) (λ none.
    let yes : c.is_empty.result ≡ true = c.is_empty.ensures.1 (c.critical_options.ensures ∙ none) in
    absurd cc)

pub returns-then-not-openssh_reads_text-clause-exactly : goal.returns-then-not-openssh_reads_text-clause-exactly
returns-then-not-openssh_reads_text-clause-exactly c = (
  λ never. cc never,
  λ is.
      let yes : c.openssh_reads_text.result ≡ true = c.openssh_reads_text.ensures.1 (rw c.key_id.ensures is.key_id) in
      absurd cc,
)

pub returns-then-not-openssh_reads_text-clause-refused : goal.returns-then-not-openssh_reads_text-clause-refused
returns-then-not-openssh_reads_text-clause-refused c = OtherKeyId (sym c.cert_type.ensures ∙ c.is_host.ensures.0 c.if-not-is_host.false) (sym c.critical_options.ensures ∙ c.is_empty.ensures.0 c.if-not-is_empty.false) (λ none.
    let yes : c.openssh_reads_text.result ≡ true = c.openssh_reads_text.ensures.1 (rw c.key_id.ensures none) in
    absurd cc)

pub returns-then-not-are_for_hosts-clause-exactly : goal.returns-then-not-are_for_hosts-clause-exactly
returns-then-not-are_for_hosts-clause-exactly c = (
  λ never. cc never,
  λ is.
      let yes : c.are_for_hosts.result ≡ true = c.are_for_hosts.ensures.1 (rw c.valid_principals.ensures is.principals) in
      absurd cc,
)

pub returns-then-not-are_for_hosts-clause-refused : goal.returns-then-not-are_for_hosts-clause-refused
returns-then-not-are_for_hosts-clause-refused c = OtherPrincipals (sym c.cert_type.ensures ∙ c.is_host.ensures.0 c.if-not-is_host.false) (sym c.critical_options.ensures ∙ c.is_empty.ensures.0 c.if-not-is_empty.false) (rw c.key_id.ensures at (c.openssh_reads_text.ensures.0 c.if-not-openssh_reads_text.false)) (λ names.
    let yes : c.are_for_hosts.result ≡ true = c.are_for_hosts.ensures.1 (rw c.valid_principals.ensures names) in
    absurd cc)

pub returns-clause-exactly : goal.returns-clause-exactly
returns-clause-exactly c = (
  λ _. record {
    for_hosts = sym c.cert_type.ensures ∙ c.is_host.ensures.0 c.if-not-is_host.false;
    no_options = sym c.critical_options.ensures ∙ c.is_empty.ensures.0 c.if-not-is_empty.false;
    key_id = rw c.key_id.ensures at (c.openssh_reads_text.ensures.0 c.if-not-openssh_reads_text.false);
    principals = rw c.valid_principals.ensures at (c.are_for_hosts.ensures.0 c.if-not-are_for_hosts.false);
  },
  λ _. refl,
)
