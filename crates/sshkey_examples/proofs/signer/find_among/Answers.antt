use Rattle.std.proofs.Common.{◌∙◌, ℕ, List, sym}
use Rattle.std.proofs.lemmas.Result.{err_from_is_err_and}
use Rattle.ssh_key.specs.sshsig.SshSignatures.{ssh_signature_of}
use Rattle.sshkey_examples.specs.Signers.{IsSigner}
use Rattle.sshkey_examples.proofs.Signers.{nobody, passed, taken}
use Rattle.sshkey_examples.proofs.signer.find_among.Goals as goal

pub loop-answer-preserved : goal.loop-answer-preserved
loop-answer-preserved g c =
    let step = c.in-Some.ensures.steps in
    let Signs : List ℕ → List ℕ → Type 0 = IsSigner (g.V.RawVerifier.accepts c.args.verifier.now) c.args.namespace.now c.args.content.now (ssh_signature_of c.args.signature.now) in
    (tt, tt, passed Signs _ _ _ step.0 c.in_ok-found.found c.loop-answer.invariant.2 step.1 (c.in_ok-found.ensures step.0 step.2.0) (sym c.is_some.ensures ∙ c.if-is_some.false))

pub returns-in_err-found : goal.returns-in_err-found
returns-in_err-found g c =
    let step = c.in-Some.ensures.steps in
    let p = err_from_is_err_and c.from_residual.result c.from_residual.ensures.1 in
    rw (p.1, p.2) (c.in_err-found.ensures step.0 step.2.0)

pub returns-then-is_some : goal.returns-then-is_some
returns-then-is_some g c =
    let step = c.in-Some.ensures.steps in
    let Signs : List ℕ → List ℕ → Type 0 = IsSigner (g.V.RawVerifier.accepts c.args.verifier.now) c.args.namespace.now c.args.content.now (ssh_signature_of c.args.signature.now) in
    taken Signs _ _ _ step.0 c.in_ok-found.found c.loop-answer.invariant.2 step.1 (c.in_ok-found.ensures step.0 step.2.0) (sym c.is_some.ensures ∙ c.if-is_some.true)

pub returns : goal.returns
returns g c = nobody _ _ _ c.loop-answer.invariant.2 c.in-None.ensures.steps.0
