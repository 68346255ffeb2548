use Rattle.std.proofs.Common.{◌≡◌, ◌∙◌, sym, true}
use Rattle.std.proofs.lemmas.Result.{err_from_is_err_and}
use Rattle.sshkey_sshsig.specs.SshSignatures.{ssh_signature_of}
use Rattle.allowed_signers.specs.AllowedSigners.{HasSigned}
use Rattle.allowed_signers.proofs.Decisions.{answered_memory, made, never, none_reserved, signed, some_reserved}
use Rattle.allowed_signers.proofs.signers.has_signed.Goals as goal

pub returns-then-not-is_empty-clause-answer : goal.returns-then-not-is_empty-clause-answer
returns-then-not-is_empty-clause-answer g c =
    never (HasSigned (g.V.RawVerifier.accepts c.args.verifier.now) c.args.namespace.now c.args.message.now (ssh_signature_of c.args.signature.now))
    (λ has. some_reserved c.reserved.result.now c.is_empty.result c.is_empty.ensures c.if-not-is_empty.true (c.reserved.ensures ∙ has.nothing_reserved))

pub returns-then-not-is_for-clause-answer : goal.returns-then-not-is_for-clause-answer
returns-then-not-is_for-clause-answer g c =
    never (HasSigned (g.V.RawVerifier.accepts c.args.verifier.now) c.args.namespace.now c.args.message.now (ssh_signature_of c.args.signature.now))
    (λ has. let yes : c.is_for.result ≡ true = c.is_for.ensures.1 has.verified.same_namespace in absurd cc)

pub returns-in_err-signed-clause-memory : goal.returns-in_err-signed-clause-memory
returns-in_err-signed-clause-memory g c =
    let p = err_from_is_err_and c.from_residual.result c.from_residual.ensures.1 in
    rw (p.1, p.2) (made _ _ (c.signed_parts_fit.ensures c.args.signature.now c.requires.0 c.args.message.now c.requires.1) c.in_err-signed.ensures)

pub returns-clause-answer : goal.returns-clause-answer
returns-clause-answer g c =
    signed (g.V.RawVerifier.accepts c.args.verifier.now) c.args.namespace.now c.args.message.now _ (ssh_signature_of c.args.signature.now)
    (sym c.reserved.ensures ∙ none_reserved c.reserved.result.now c.is_empty.result c.is_empty.ensures c.if-not-is_empty.false)
    (c.is_for.ensures.0 c.if-not-is_for.false) c.in_ok-signed.ensures.1 c.verify.result
    (rw (c.public_key-key.ensures, c.signature.ensures, c.deref.ensures.value) at c.verify.ensures.exactly)
    c.answer_of.result c.answer_of.ensures

pub returns-clause-memory : goal.returns-clause-memory
returns-clause-memory g c = answered_memory c.verify.result c.answer_of.result c.answer_of.ensures
