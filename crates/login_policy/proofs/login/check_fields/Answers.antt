use Rattle.std.proofs.Common.{◌≡◌, true, sym, ◌∙◌}
use Rattle.login_policy.specs.Refusals.{ForHosts, OtherExtension, OtherKeyId, OtherPrincipals, Unaccepted, UnknownOption}
use Rattle.login_policy.proofs.login.check_fields.Goals as goal

pub returns-then-not-is_user-clause-wrong : goal.returns-then-not-is_user-clause-wrong
returns-then-not-is_user-clause-wrong c = rw c.invalid.ensures (ForHosts (λ users.
    let yes : c.is_user.result ≡ true = c.is_user.ensures.1 (c.cert_type.ensures ∙ users) in
    absurd cc))

pub returns-then-not-are_accepted-clause-wrong : goal.returns-then-not-are_accepted-clause-wrong
returns-then-not-are_accepted-clause-wrong c = Unaccepted (sym c.cert_type.ensures ∙ c.is_user.ensures.0 c.if-not-is_user.false) (sym c.are_accepted.ensures ∙ c.if-not-are_accepted.true)

pub returns-then-not-are_known-clause-wrong : goal.returns-then-not-are_known-clause-wrong
returns-then-not-are_known-clause-wrong c = rw c.invalid-then-not-are_known.ensures (UnknownOption (sym c.cert_type.ensures ∙ c.is_user.ensures.0 c.if-not-is_user.false) (sym c.are_accepted.ensures ∙ c.if-not-are_accepted.false) (λ all.
    let yes : c.are_known.result ≡ true = c.are_known.ensures.1 (rw c.critical_options.ensures all) in
    absurd cc))

pub returns-then-not-are_plain-clause-wrong : goal.returns-then-not-are_plain-clause-wrong
returns-then-not-are_plain-clause-wrong c =
    let known = rw c.critical_options.ensures at (c.are_known.ensures.0 c.if-not-are_known.false) in
    rw c.invalid-then-not-are_plain.ensures (OtherExtension (sym c.cert_type.ensures ∙ c.is_user.ensures.0 c.if-not-is_user.false) (sym c.are_accepted.ensures ∙ c.if-not-are_accepted.false) known (λ all.
    let yes : c.are_plain.result ≡ true = c.are_plain.ensures.1 (rw c.extensions.ensures all) in
    absurd cc))

pub returns-then-not-openssh_reads_text-clause-wrong : goal.returns-then-not-openssh_reads_text-clause-wrong
returns-then-not-openssh_reads_text-clause-wrong c =
    let known = rw c.critical_options.ensures at (c.are_known.ensures.0 c.if-not-are_known.false) in
    let plain = rw c.extensions.ensures at (c.are_plain.ensures.0 c.if-not-are_plain.false) in
    rw c.invalid-then-not-openssh_reads_text.ensures (OtherKeyId (sym c.cert_type.ensures ∙ c.is_user.ensures.0 c.if-not-is_user.false) (sym c.are_accepted.ensures ∙ c.if-not-are_accepted.false) known plain (λ none.
    let yes : c.openssh_reads_text.result ≡ true = c.openssh_reads_text.ensures.1 (rw c.key_id.ensures none) in
    absurd cc))

pub returns-then-not-are_for-clause-wrong : goal.returns-then-not-are_for-clause-wrong
returns-then-not-are_for-clause-wrong c =
    let known = rw c.critical_options.ensures at (c.are_known.ensures.0 c.if-not-are_known.false) in
    let plain = rw c.extensions.ensures at (c.are_plain.ensures.0 c.if-not-are_plain.false) in
    let id = rw c.key_id.ensures at (c.openssh_reads_text.ensures.0 c.if-not-openssh_reads_text.false) in
    rw c.invalid-then-not-are_for.ensures (OtherPrincipals (sym c.cert_type.ensures ∙ c.is_user.ensures.0 c.if-not-is_user.false) (sym c.are_accepted.ensures ∙ c.if-not-are_accepted.false) known plain id (λ names.
    let yes : c.are_for.result ≡ true = c.are_for.ensures.1 (rw c.valid_principals.ensures names) in
    absurd cc))

pub returns-clause-right : goal.returns-clause-right
returns-clause-right c = record {
  for_users = sym c.cert_type.ensures ∙ c.is_user.ensures.0 c.if-not-is_user.false;
  accepted = sym c.are_accepted.ensures ∙ c.if-not-are_accepted.false;
  known = rw c.critical_options.ensures at (c.are_known.ensures.0 c.if-not-are_known.false);
  plain = rw c.extensions.ensures at (c.are_plain.ensures.0 c.if-not-are_plain.false);
  key_id = rw c.key_id.ensures at (c.openssh_reads_text.ensures.0 c.if-not-openssh_reads_text.false);
  principals = rw c.valid_principals.ensures at (c.are_for.ensures.0 c.if-not-are_for.false);
}
