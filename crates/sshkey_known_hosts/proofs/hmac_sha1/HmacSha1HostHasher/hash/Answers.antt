use Rattle.std.proofs.Common.{◌≡◌, ℕ, List, Bool, true, cond, length, nat_lt, arith, tests, ap, sym, ◌∙◌}
use Rattle.sha1.specs.Sha1.{sha1}
use Rattle.sshkey_known_hosts.specs.Hmac.{hmac_of_block}
use Rattle.sshkey_known_hosts.proofs.hmac_sha1.HmacSha1HostHasher.hash.Goals as goal

pub returns-then-key-gt64 : goal.returns-then-key-gt64
returns-then-key-gt64 c =
    let key = c.args.key.now in
    let message = c.args.message.now in
    let long : nat_lt 64 (length key) ≡ true = grind (arith, tests) in
    c.hash_block.ensures ∙ ap (λ (k : List ℕ). hmac_of_block k message) c.digest-digest.ensures
    ∙ sym (ap (λ (b : Bool). cond b (hmac_of_block (sha1 key) message) (hmac_of_block key message)) long)
