use Rattle.std.proofs.Common.{sym, ap, ◌∙◌}
use Rattle.sshkey_keys.specs.Keys.{key_of}
use Rattle.sshkey_public.proofs.Verified.{verified_exactly}
use Rattle.sshkey_public.proofs.public_key.PublicKey.verify.Goals as goal

pub returns-clause-exactly : goal.returns-clause-exactly
returns-clause-exactly g c = λ form bytes spelled. verified_exactly _ _ _ c.args.message.now c.args.signature.now c.judge.result
    (c.is.ensures.same c.if-not-is.false ∙ ap key_of c.public_key.ensures)
    (sym c.as_bytes.ensures.value ∙ c.is_same.ensures.0 c.if-not-is_same.false ∙ c.as_bytes-2.ensures.value ∙ c.namespace.ensures)
    (c.judge.ensures.exactly (c.signed_parts_fit.ensures c.args.signature.now bytes c.args.message.now spelled))
