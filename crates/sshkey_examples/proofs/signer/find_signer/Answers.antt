use Rattle.std.proofs.Common.{refl, sym, ◌∙◌}
use Rattle.std.proofs.lemmas.Result.{err_from_is_err_and}
use Rattle.ssh_key.specs.entries.Fields.{filled_lines}
use Rattle.ssh_key.proofs.Acceptance.{other_cause}
use Rattle.sshkey_examples.proofs.Signers.{faultless, named, needed, no_signature, none_left, spelled}
use Rattle.sshkey_examples.proofs.signer.find_signer.Goals as goal

pub returns-in_err-signature-clause-names : goal.returns-in_err-signature-clause-names
returns-in_err-signature-clause-names g c =
    let p = err_from_is_err_and c.from_residual.result c.from_residual.ensures.1 in
    rw (p.1, p.2) (no_signature _ _ c.in_err-signature.ensures.accepts)

pub returns-in_err-signature-clause-fault : goal.returns-in_err-signature-clause-fault
returns-in_err-signature-clause-fault g c =
    let p = err_from_is_err_and c.from_residual.result c.from_residual.ensures.1 in
    rw (p.1, p.2) (λ other. c.in_err-signature.ensures.gives.fault (other_cause _ other) refl)

pub returns-in_err-signature-clause-memory : goal.returns-in_err-signature-clause-memory
returns-in_err-signature-clause-memory g c =
    let p = err_from_is_err_and c.from_residual.result c.from_residual.ensures.1 in
    rw (p.1, p.2) (needed _ _ c.in_err-signature.ensures.asks)

pub returns-then-branch-clause-names : goal.returns-then-branch-clause-names
returns-then-branch-clause-names g c =
    let asked = rw c.public_key.ensures at c.in_ok-is_key_revoked.ensures.said in
    (_, c.in_ok-signature.ensures.accepts.spelled, none_left (g.V.RawVerifier.accepts c.args.verifier.now) (g.R.Revocations.revokes_key c.args.revocations.now) c.args.namespace.now c.args.content.now _ (sym asked ∙ c.if-branch.true) (filled_lines c.args.keys.now))

pub find_among-requires : goal.find_among-requires
find_among-requires g c = (_, c.in_ok-signature.ensures.accepts.spelled)

pub returns-clause-names : goal.returns-clause-names
returns-clause-names g c =
    let asked = rw c.public_key.ensures at c.in_ok-is_key_revoked.ensures.said in
    named (g.V.RawVerifier.accepts c.args.verifier.now) (g.R.Revocations.revokes_key c.args.revocations.now) c.args.namespace.now c.args.content.now _ (sym asked ∙ c.if-branch.false) c.args.keys.now c.args.signature.now c.in_ok-signature.ensures.accepts.spelled c.find_among.result c.find_among.ensures

pub returns-clause-fault : goal.returns-clause-fault
returns-clause-fault g c = faultless _ _ c.args.signature.now c.find_among.result c.find_among.ensures

pub returns-clause-memory : goal.returns-clause-memory
returns-clause-memory g c = spelled c.args.signature.now c.find_among.result (_, c.in_ok-signature.ensures.accepts.spelled)
