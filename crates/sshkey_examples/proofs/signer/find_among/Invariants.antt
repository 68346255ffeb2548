use Rattle.std.proofs.Common.{List, ℕ}
use Rattle.std.specs.Prelude.{Option}
use Rattle.ssh_key.specs.entries.Fields.{filled_lines}
use Rattle.ssh_key.specs.sshsig.SshSignatures.{ssh_signature_of}
use Rattle.sshkey_examples.specs.Signers.{IsFirst, IsSigner}
use Rattle.sshkey_examples.proofs.signer.find_among.Given as goal

-- the first of the lines that are left is the first of all
abbrev pub invariant-loop-answer : goal.invariant-loop-answer
invariant-loop-answer g l =
    let Signs : List ℕ → List ℕ → Type 0 = IsSigner (g.V.RawVerifier.accepts l.verifier) l.namespace l.content (ssh_signature_of l.signature) in (
    (goal.iterator-loop-answer g).can_next l.answer-iterator ×
    (goal.iterator-loop-answer g).is_finite l.answer-iterator ×
    ((found : Option (List ℕ)) → IsFirst Signs l.answer-iterator found → IsFirst Signs (filled_lines l.keys) found)
    )
