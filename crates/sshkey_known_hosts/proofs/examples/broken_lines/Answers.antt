use Rattle.std.proofs.Common.{◌≢◌, ℕ, List, [], ◌∷◌, ◌++◌, codes, inl, inr, refl, arith}
use Rattle.sshkey_entries.specs.Fields.{without_front}
use Rattle.sshkey_entries.specs.KnownHosts.{CertAuthority, Revoked, marker_text}
use Rattle.sshkey_known_hosts.specs.Examples.{host, key_text}
use Rattle.sshkey_known_hosts.specs.Hmac.{hmac_sha1}
use Rattle.sshkey_known_hosts.proofs.HostCuts.{zero_hides}
use Rattle.sshkey_known_hosts.proofs.ExampleLemmas.{differ, hidden, of_others, other_marker, second_marker, tab_after, without_key}
use Rattle.sshkey_known_hosts.proofs.examples.broken_lines.Goals as goal

abbrev zeroed : List ℕ
zeroed = codes "g.example " ++ key_text ++ (0 ∷ [])

pub returns : goal.returns
unfolding without_front
returns c = (
  hidden host _ (other_marker (codes "@gibberish") (codes " h.example " ++ key_text) refl (inr refl) refl refl (λ m. elim m as (λ k. codes "@gibberish" ≢ marker_text k) [
    | CertAuthority ↦ differ (codes "@gibberish") (codes "@cert-authority") refl
    | Revoked ↦ differ (codes "@gibberish") (codes "@revoked") refl
  ])),
  hidden host _ (second_marker (codes "@revoked") (codes " @cert-authority h.example " ++ key_text) refl (inr refl) refl refl refl),
  hidden host _ (tab_after (codes "@cert-authority") ((9 ∷ []) ++ codes "h.example " ++ key_text) refl (inr refl) refl refl refl (λ ends. elim ends [
    | inl e ↦ omega (arith, e)
    | inr none ↦ none 10 (omega arith) refl
  ])),
  hidden host zeroed (zero_hides hmac_sha1 host zeroed (λ none. none 90 (omega arith) refl)),
  hidden host _ without_key,
  of_others,
)
