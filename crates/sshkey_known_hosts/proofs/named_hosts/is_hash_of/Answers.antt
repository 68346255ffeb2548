use Rattle.std.proofs.Common.{◌≡◌, ◌++◌, ◌∙◌, eqb-true, inr, refl, sym}
use Rattle.sshkey_base.specs.declared.encoding.Error.TheVariants.{Base64, Length}
use Rattle.sshkey_base.specs.declared.error.Error.TheVariants.{Encoding, FormatEncoding}
use Rattle.sshkey_entries.specs.KnownHosts.{hashed_mark}
use Rattle.sshkey_known_hosts.proofs.Hosts.{no_bar_fault, salt_fault, hash_fault, size_fault, hashed, refused_is_none, tells_hash, tells_same}
use Rattle.sshkey_known_hosts.proofs.named_hosts.is_hash_of.Goals as goal

pub returns-in_err-salt : goal.returns-in_err-salt
returns-in_err-salt g c = rw c.from_residual.ensures (refused_is_none (hashed_mark ++ c.args.hashed.now) FormatEncoding (no_bar_fault c.args.hashed.now c.in_err-salt.ensures.cases) (λ e. cc e))

pub returns-in_err-salt-2 : goal.returns-in_err-salt-2
returns-in_err-salt-2 g c = rw c.from_residual-in_err-salt-2.ensures (refused_is_none (hashed_mark ++ c.args.hashed.now) (Encoding Base64)
    (salt_fault c.args.hashed.now c.in_ok-salt.salt c.in_ok-salt.hash c.in_ok-salt.ensures.cases (Encoding Base64) (inr (refl, c.in_err-salt-2.ensures))) (λ e. cc e))

pub returns-in_err-hash : goal.returns-in_err-hash
returns-in_err-hash g c = rw c.from_residual-in_err-hash.ensures (refused_is_none (hashed_mark ++ c.args.hashed.now) (Encoding Base64)
    (hash_fault c.args.hashed.now c.in_ok-salt.salt c.in_ok-salt.hash c.in_ok-salt.ensures.cases (Encoding Base64) (inr (refl, c.in_err-hash.ensures))) (λ e. cc e))

pub returns-then-hash-ne-LEN : goal.returns-then-hash-ne-LEN
returns-then-hash-ne-LEN g c =
    let s = c.in_ok-salt-2.ensures in
    let h = c.in_ok-hash.ensures in
    refused_is_none (hashed_mark ++ c.args.hashed.now) (Encoding Length)
    (size_fault c.args.hashed.now c.in_ok-salt.salt c.in_ok-salt.hash c.in_ok-salt.ensures.cases s.0 h.0 s.2 s.1 h.2 h.1 (λ e. c.if-hash-ne-LEN.true (sym h.3.0 ∙ e))) (λ e. cc e)

pub returns-then-salt-eq-LEN : goal.returns-then-salt-eq-LEN
returns-then-salt-eq-LEN g c =
    let hmac = g.H.HostHasher.hmac c.args.hmac.now in
    let s = c.in_ok-salt-2.ensures in
    let h = c.in_ok-hash.ensures in
    let is = hashed c.args.hashed.now c.in_ok-salt.salt c.in_ok-salt.hash c.in_ok-salt.ensures.cases s.0 h.0 s.2 s.1 h.2 h.1 (h.3.0 ∙ c.if-hash-ne-LEN.false) in
    let made : c.hash.result ≡ hmac s.0 c.args.name.now = c.hash.ensures ∙ (λ j. hmac (sym (s.3.1 c.if-salt-eq-LEN.true) j) (c.as_bytes.ensures.value j)) in
    let same = tells_same c.hash.result c.in_ok-hash.hash.0 c.eq.result c.eq.ensures in
    tells_hash hmac c.args.name.now (hashed_mark ++ c.args.hashed.now) s.0 h.0 is c.eq.result (
      λ equal. (s.3.0 ∙ c.if-salt-eq-LEN.true, h.3.1 c.if-hash-ne-LEN.false ∙ sym (same.0 equal) ∙ made),
      λ fits. same.1 (made ∙ sym fits.1 ∙ h.3.1 c.if-hash-ne-LEN.false),
    )

pub returns-else-salt-eq-LEN : goal.returns-else-salt-eq-LEN
returns-else-salt-eq-LEN g c =
    let hmac = g.H.HostHasher.hmac c.args.hmac.now in
    let s = c.in_ok-salt-2.ensures in
    let h = c.in_ok-hash.ensures in
    let is = hashed c.args.hashed.now c.in_ok-salt.salt c.in_ok-salt.hash c.in_ok-salt.ensures.cases s.0 h.0 s.2 s.1 h.2 h.1 (h.3.0 ∙ c.if-hash-ne-LEN.false) in
    tells_hash hmac c.args.name.now (hashed_mark ++ c.args.hashed.now) s.0 h.0 is _ (
      λ equal. absurd (c.if-salt-eq-LEN.false (eqb-true _ 20 equal)),
      λ fits. absurd (c.if-salt-eq-LEN.false (sym s.3.0 ∙ fits.0)),
    )
