use Rattle.std.proofs.Common.{[], ◌∷◌, None, Some, codes, inl, inr, refl, sym}
use Rattle.sshkey_entries.specs.KnownHosts.{CertAuthority, Revoked}
use Rattle.sshkey_public.specs.PublicKeys.{public_of}
use Rattle.sshkey_public.specs.declared.public_key.PublicKey.{PublicKey}
use Rattle.sshkey_known_hosts.specs.Examples.{by_line, host, line, revoking}
use Rattle.sshkey_known_hosts.specs.Hmac.{hmac_sha1}
use Rattle.sshkey_known_hosts.specs.Verdicts.{AreInOrder, IsAuthorityLine}
use Rattle.sshkey_known_hosts.proofs.AuthorityKeys.{an_authority, no_authority}
use Rattle.sshkey_known_hosts.proofs.ExampleLemmas.{host_fits, host_line, unnamed_elsewhere}
use Rattle.sshkey_known_hosts.proofs.examples.authority_lines.Goals as goal

-- an authority's line gives a key
unordered : (k : PublicKey) → IsAuthorityLine hmac_sha1 host by_line (Some k) → ¬ AreInOrder hmac_sha1 host (by_line ∷ line None host ∷ []) []
unordered k one (Some found, rest, is, more, all) = cc all
unordered k one (None, rest, is, more, all) = is (public_of k) one.0

pub returns : goal.returns
returns c = λ k same comment.
    let by = host_line (Some CertAuthority) in
    let plain = host_line None in
    let gone = host_line (Some Revoked) in
    let one = an_authority hmac_sha1 host by_line _ by k (sym same) (λ _. comment, λ _. comment) refl host_fits in
    let none = no_authority hmac_sha1 host (line None host) _ plain (inl (λ mark. cc mark)) in (
      one,
      λ nobody. nobody (public_of k) one.0,
      none,
      λ other. none (public_of k) other.0,
      λ other. no_authority hmac_sha1 host revoking _ gone (inl (λ mark. cc mark)) (public_of k) other.0,
      no_authority hmac_sha1 (codes "g.example") by_line _ by (inr unnamed_elsewhere),
      (Some k, [], one, (None, [], none, refl, refl), refl),
      unordered k one,
      refl,
      refl,
    )
