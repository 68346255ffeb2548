use Rattle.std.proofs.Common.{◌≡◌, true, sym, ◌∙◌}
use Rattle.sshkey_entries.specs.HostVerdicts.{known_name}
use Rattle.sshkey_keys.specs.Keys.{key_of}
use Rattle.host_keys.specs.Hosts.{lines_of}
use Rattle.host_keys.proofs.HostKeys.{trusted, unknown, unreadable}
use Rattle.host_keys.proofs.verdict.check_signed.Goals as goal

pub returns-then-is_unreadable-clause-answer : goal.returns-then-is_unreadable-clause-answer
returns-then-is_unreadable-clause-answer g c =
    unreadable (g.H.HostHasher.hmac c.args.hmac.now) (known_name c.args.host.now c.args.port) (lines_of c.args.texts.now) (key_of c.args.key.now) (key_of c.args.signer.now) c.in_ok-of_key.of_key c.in_ok-of_signer.of_signer
    (λ e. let yes : c.is_revoked.result ≡ true = c.is_revoked.ensures.1 e in absurd cc)
    (λ e. let yes : c.is_revoked-else-is_revoked.result ≡ true = c.is_revoked-else-is_revoked.ensures.1 e in absurd cc)
    c.in_ok-of_key.ensures.answer c.in_ok-of_signer.ensures.answer
    (c.is_unreadable.ensures.0 c.if-is_unreadable.true)

pub returns-then-branch-clause-answer : goal.returns-then-branch-clause-answer
returns-then-branch-clause-answer g c =
    trusted (g.H.HostHasher.hmac c.args.hmac.now) (known_name c.args.host.now c.args.port) (lines_of c.args.texts.now) (key_of c.args.key.now) (key_of c.args.signer.now) c.in_ok-of_key.of_key c.in_ok-of_signer.of_signer
    (λ e. let yes : c.is_revoked.result ≡ true = c.is_revoked.ensures.1 e in absurd cc)
    (λ e. let yes : c.is_revoked-else-is_revoked.result ≡ true = c.is_revoked-else-is_revoked.ensures.1 e in absurd cc)
    c.in_ok-of_key.ensures.answer c.in_ok-of_signer.ensures.answer
    (λ e. let yes : c.is_unreadable.result ≡ true = c.is_unreadable.ensures.1 e in absurd cc)
    (c.in_ok-has_authority.ensures.answer.0 c.if-branch.true)

pub returns-clause-answer : goal.returns-clause-answer
returns-clause-answer g c =
    unknown (g.H.HostHasher.hmac c.args.hmac.now) (known_name c.args.host.now c.args.port) (lines_of c.args.texts.now) (key_of c.args.key.now) (key_of c.args.signer.now) c.in_ok-of_key.of_key c.in_ok-of_signer.of_signer
    (λ e. let yes : c.is_revoked.result ≡ true = c.is_revoked.ensures.1 e in absurd cc)
    (λ e. let yes : c.is_revoked-else-is_revoked.result ≡ true = c.is_revoked-else-is_revoked.ensures.1 e in absurd cc)
    c.in_ok-of_key.ensures.answer c.in_ok-of_signer.ensures.answer
    (λ e. let yes : c.is_unreadable.result ≡ true = c.is_unreadable.ensures.1 e in absurd cc)
    (λ authority. cc (sym c.if-branch.false ∙ c.in_ok-has_authority.ensures.answer.1 authority))
