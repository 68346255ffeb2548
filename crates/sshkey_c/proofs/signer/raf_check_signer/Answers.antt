use Rattle.std.proofs.Common.{◌≡◌, List, ℕ, inl, inr, refl, rules, subst}
use Rattle.sshkey_base.specs.Causes.{cause}
use Rattle.sshkey_calls.proofs.Rooms.{only_memory}
use Rattle.sshkey_sshsig.specs.SshSignatures.{ssh_signature_of}
use Rattle.sshkey_entry_calls.specs.SshSignatures.{TellsSigner}
use Rattle.sshkey_entry_calls.proofs.SignerVerdicts.{told}
use Rattle.sshkey_c.proofs.signer.raf_check_signer.Goals as goal

pub returns-in-Ok-clause-verdict : goal.returns-in-Ok-clause-verdict
returns-in-Ok-clause-verdict c _ _ =
    let name : c.in-Ok-Ok.identity.now ≡ c.args.identity.now = search rules in
    let space : c.in-Ok-Ok.namespace.now ≡ c.args.namespace.now = search rules in
    subst (λ (t : List ℕ). TellsSigner c.args.signers.now t c.args.namespace.now c.args.unix_timestamp c.args.revoked.now c.args.is_verified c.args.signature.now c.signer_status.result) name
    (subst (λ (t : List ℕ). TellsSigner c.args.signers.now c.in-Ok-Ok.identity.now t c.args.unix_timestamp c.args.revoked.now c.args.is_verified c.args.signature.now c.signer_status.result) space
    (told c.args.signers.now c.in-Ok-Ok.identity.now c.in-Ok-Ok.namespace.now c.args.unix_timestamp c.args.revoked.now c.args.is_verified c.args.signature.now c.signer_status.result c.of-said.result.is_yes c.of-said.ensures c.signer_status.ensures))

pub returns-in-Ok-clause-fault : goal.returns-in-Ok-clause-fault
returns-in-Ok-clause-fault c _ _ fault is = absurd (cc (is, c.in-Ok.ensures.gives.value))

pub returns-in-Ok-clause-memory : goal.returns-in-Ok-clause-memory
returns-in-Ok-clause-memory c _ = inr (ssh_signature_of c.in-Ok.field-0, c.in-Ok.ensures.accepts.spelled)

pub returns-clause-verdict : goal.returns-clause-verdict
returns-clause-verdict c _ _ spelled not_memory = absurd (c.in-Err.ensures.accepts (λ memory. not_memory (c.error_status.ensures.memory memory)) refl spelled.0 spelled.1)

pub returns-clause-fault : goal.returns-clause-fault
returns-clause-fault c _ _ fault is not_memory =
    let met = c.in-Err.ensures.gives.fault (λ memory. not_memory (c.error_status.ensures.memory memory)) refl in
    c.error_status.ensures.fault fault (rw is at met)

pub returns-clause-memory : goal.returns-clause-memory
returns-clause-memory c one = inl (c.in-Err.ensures.asks (only_memory (cause c.in-Err.error) _ c.error_status.ensures.range one) refl)
