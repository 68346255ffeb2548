use Rattle.std.proofs.Common.{◌≡◌, Some, true, refl, subst, sym}
use Rattle.std.specs.List.{Any}
use Rattle.sshkey_entries.specs.HostVerdicts.{known_name, Lists}
use Rattle.sshkey_entries.specs.KnownHosts.{CertAuthority}
use Rattle.sshkey_keys.specs.Keys.{key_of}
use Rattle.sshkey_public.specs.PublicKeys.{public_of}
use Rattle.sshkey_public.specs.declared.public_key.PublicKey.{PublicKey}
use Rattle.host_keys.proofs.SeveralTexts.{all_lines, none_in_more, of_error, some_line, some_more}
use Rattle.host_keys.proofs.texts.has_authority.Goals as goal

pub returns-in_err-keys-clause-asks : goal.returns-in_err-keys-clause-asks
returns-in_err-keys-clause-asks g c = of_error c.from_residual.result (some_line c.args.texts.now c.loop-text.text-index _ c.loop-text-test.true c.in_err-keys.ensures.asks)

pub returns-then-has_key-clause-answer : goal.returns-then-has_key-clause-answer
returns-then-has_key-clause-answer g c =
    let listed = subst (Any (λ (k : PublicKey). public_of k ≡ key_of c.args.key.now)) c.deref.ensures.value (c.has_key.ensures.0 c.if-has_key.true) in (
      λ _. some_more c.args.texts.now c.loop-text.text-index _ c.loop-text-test.true (Lists (g.H.HostHasher.hmac c.args.hmac.now) (known_name c.args.host.now c.args.port) (Some CertAuthority) (key_of c.args.key.now)) ((c.in_ok-keys.ensures.answer (key_of c.args.key.now)).0 listed),
      λ _. refl,
    )

pub loop-text-preserved : goal.loop-text-preserved
loop-text-preserved g c =
    none_in_more c.args.texts.now c.loop-text.text-index _ c.loop-text-test.true (Lists (g.H.HostHasher.hmac c.args.hmac.now) (known_name c.args.host.now c.args.port) (Some CertAuthority) (key_of c.args.key.now)) c.loop-text.invariant (λ here.
    let listed = subst (Any (λ (k : PublicKey). public_of k ≡ key_of c.args.key.now)) (sym c.deref.ensures.value) ((c.in_ok-keys.ensures.answer (key_of c.args.key.now)).1 here) in
    let yes : c.has_key.result ≡ true = c.has_key.ensures.1 listed in
    absurd cc)

pub returns-clause-answer : goal.returns-clause-answer
returns-clause-answer g c = (
  λ never. cc never,
  λ some. absurd (c.loop-text.invariant (subst (Any (Lists (g.H.HostHasher.hmac c.args.hmac.now) (known_name c.args.host.now c.args.port) (Some CertAuthority) (key_of c.args.key.now))) (sym (all_lines c.args.texts.now c.loop-text.text-index c.loop-text-test.false)) some)),
)
