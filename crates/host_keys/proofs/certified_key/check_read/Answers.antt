use Rattle.std.proofs.Common.{◌≡◌, true, refl, ap, sym, true≢false, ◌∙◌}
use Rattle.openssh_limits.specs.Limits.{openssh_accepts_key}
use Rattle.sshkey_model.specs.Keys.{Key}
use Rattle.host_keys.specs.Hosts.{OddKeyId, OddPrincipals, OtherSigner}
use Rattle.host_keys.proofs.certified_key.check_read.Goals as goal

pub returns-then-not-openssh_accepts_key-clause-exactly : goal.returns-then-not-openssh_accepts_key-clause-exactly
returns-then-not-openssh_accepts_key-clause-exactly c = (
  λ never. cc never,
  λ is. absurd (true≢false (sym is.signer ∙ sym (ap (λ (k : Key). openssh_accepts_key 0 k) c.signature_key.ensures.value) ∙ sym c.openssh_accepts_key.ensures ∙ c.if-not-openssh_accepts_key.true)),
)

pub returns-then-not-openssh_accepts_key-clause-refused : goal.returns-then-not-openssh_accepts_key-clause-refused
returns-then-not-openssh_accepts_key-clause-refused c = OtherSigner (sym (ap (λ (k : Key). openssh_accepts_key 0 k) c.signature_key.ensures.value) ∙ sym c.openssh_accepts_key.ensures ∙ c.if-not-openssh_accepts_key.true)

pub returns-then-not-openssh_reads_text-clause-exactly : goal.returns-then-not-openssh_reads_text-clause-exactly
returns-then-not-openssh_reads_text-clause-exactly c = (
  λ never. cc never,
  λ is.
      let yes : c.openssh_reads_text.result ≡ true = c.openssh_reads_text.ensures.1 (rw c.key_id.ensures is.key_id) in
      absurd cc,
)

pub returns-then-not-openssh_reads_text-clause-refused : goal.returns-then-not-openssh_reads_text-clause-refused
returns-then-not-openssh_reads_text-clause-refused c = OddKeyId (sym (ap (λ (k : Key). openssh_accepts_key 0 k) c.signature_key.ensures.value) ∙ sym c.openssh_accepts_key.ensures ∙ c.if-not-openssh_accepts_key.false) (λ none.
    let yes : c.openssh_reads_text.result ≡ true = c.openssh_reads_text.ensures.1 (rw c.key_id.ensures none) in
    absurd cc)

pub returns-then-not-openssh_reads_principals-clause-exactly : goal.returns-then-not-openssh_reads_principals-clause-exactly
returns-then-not-openssh_reads_principals-clause-exactly c = (
  λ never. cc never,
  λ is.
      let yes : c.openssh_reads_principals.result ≡ true = c.openssh_reads_principals.ensures.1 (rw c.valid_principals.ensures is.principals) in
      absurd cc,
)

pub returns-then-not-openssh_reads_principals-clause-refused : goal.returns-then-not-openssh_reads_principals-clause-refused
returns-then-not-openssh_reads_principals-clause-refused c = OddPrincipals (sym (ap (λ (k : Key). openssh_accepts_key 0 k) c.signature_key.ensures.value) ∙ sym c.openssh_accepts_key.ensures ∙ c.if-not-openssh_accepts_key.false) (rw c.key_id.ensures at (c.openssh_reads_text.ensures.0 c.if-not-openssh_reads_text.false)) (λ names.
    let yes : c.openssh_reads_principals.result ≡ true = c.openssh_reads_principals.ensures.1 (rw c.valid_principals.ensures names) in
    absurd cc)

pub returns-clause-exactly : goal.returns-clause-exactly
returns-clause-exactly c = (
  λ _. record {
    signer = sym (ap (λ (k : Key). openssh_accepts_key 0 k) c.signature_key.ensures.value) ∙ sym c.openssh_accepts_key.ensures ∙ c.if-not-openssh_accepts_key.false;
    key_id = rw c.key_id.ensures at (c.openssh_reads_text.ensures.0 c.if-not-openssh_reads_text.false);
    principals = rw c.valid_principals.ensures at (c.openssh_reads_principals.ensures.0 c.if-not-openssh_reads_principals.false);
  },
  λ _. refl,
)
