use Rattle.std.proofs.Common.{[]}
use Rattle.sshkey_entry_calls.specs.Revocations.{one_revokes_key, reads_of, revoked_status}
use Rattle.sshkey_entry_calls.proofs.RevokedFiles.{high_number}
use Rattle.sshkey_entry_calls.proofs.SignerVerdicts.{judged}
use Rattle.sshkey_entry_calls.proofs.signers.signer_status.Goals as goal

pub returns : goal.returns
returns c _ =
    let reads = reads_of c.in-Ok.files in (
      reads,
      c.in-Ok.ensures.read,
      rw (c.verdict_status.ensures, c.revoked_status.ensures) (judged (λ _. c.args.said.now.is_yes) (one_revokes_key reads) (revoked_status reads) c.args.signers.now c.args.identity.now c.args.namespace.now [] c.args.unix_timestamp c.args.signature.now (high_number reads) c.verify-verdict.result c.verify-verdict.ensures.exactly c.verify-verdict.ensures.refused),
    )
