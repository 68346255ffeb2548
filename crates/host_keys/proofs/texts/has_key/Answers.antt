use Rattle.std.proofs.Common.{◌≡◌, ap, sym, ◌∙◌}
use Rattle.sshkey_keys.specs.Keys.{key_of}
use Rattle.sshkey_public.specs.PublicKeys.{public_of}
use Rattle.sshkey_public.specs.declared.public_key.PublicKey.{PublicKey}
use Rattle.host_keys.proofs.SeveralTexts.{none_more, none_of}
use Rattle.host_keys.proofs.texts.has_key.Goals as goal

pub loop-listed-preserved : goal.loop-listed-preserved
loop-listed-preserved c =
    none_more (λ (k : PublicKey). public_of k ≡ key_of c.args.key.now) c.args.keys.now c.loop-listed.listed-index c.listed-item.result c.loop-listed-test.true (sym c.listed-item.is)
    (λ same. cc (sym c.if-is.false ∙ c.is.ensures.equal c.requires (sym (ap key_of c.key_data.ensures ∙ same)))) c.loop-listed.invariant

pub returns : goal.returns
returns c = (λ never. cc never, λ some. absurd (none_of (λ (k : PublicKey). public_of k ≡ key_of c.args.key.now) c.args.keys.now c.loop-listed.listed-index c.loop-listed-test.false c.loop-listed.invariant some))
