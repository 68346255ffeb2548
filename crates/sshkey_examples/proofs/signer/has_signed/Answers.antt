use Rattle.std.proofs.Common.{ℕ, List, subst}
use Rattle.ssh_key.specs.base.Judgements.{AcceptsExactly}
use Rattle.ssh_key.specs.model.Keys.{IsKey}
use Rattle.ssh_key.specs.model.SignedMessages.{IsVerified}
use Rattle.ssh_key.specs.public.PublicKeys.{public_of}
use Rattle.ssh_key.specs.sshsig.SshSignatureFormats.{SpellsSshSignature}
use Rattle.ssh_key.specs.sshsig.SshSignatures.{ssh_signature_of}
use Rattle.ssh_key.specs.types.PublicKey.{PublicKey}
use Rattle.sshkey_examples.proofs.Signers.{answered, only_memory}
use Rattle.sshkey_examples.proofs.signer.has_signed.Goals as goal

pub returns-clause-answer : goal.returns-clause-answer
returns-clause-answer g c = λ key.
    let exactly = subst (λ (k : PublicKey). IsKey (public_of k) → (bytes : List ℕ) → SpellsSshSignature (ssh_signature_of c.args.signature.now) bytes → AcceptsExactly (IsVerified (g.V.RawVerifier.accepts c.args.verifier.now) (public_of k) c.args.namespace.now c.args.content.now (ssh_signature_of c.args.signature.now)) c.verify.result) c.public_key-key.ensures c.verify.ensures.exactly in
    answered _ _ _ (exactly key c.requires.0 c.requires.1) c.answer_of.ensures

pub returns-clause-memory : goal.returns-clause-memory
returns-clause-memory g c = only_memory _ _ c.answer_of.ensures
