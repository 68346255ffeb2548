use Rattle.std.proofs.Common.{◌∙◌, ap, arith}
use Rattle.sshkey_model.specs.Fingerprints.{digest}
use Rattle.sshkey_base.specs.Names.{hash_of}
use Rattle.sshkey_base.specs.Sink.{Sink}
use Rattle.sshkey_base.proofs.Writing.{after_nothing}
use Rattle.sshkey_fingerprints.proofs.ShortParts.{room_taken}
use Rattle.sshkey_fingerprints.proofs.fingerprint.Fingerprint.new.Goals as goal

pub returns-in-Ok-clause-gives : goal.returns-in-Ok-clause-gives
returns-in-Ok-clause-gives g c =
    let written = after_nothing _ _ _ (ap (λ (s : Sink). s.written) c.new-writer.ensures.empty) c.in-Ok.ensures.1 in
    record { by = c.of_bytes.ensures.by; digest = c.of_bytes.ensures.digest ∙ ap (digest (hash_of c.args.hash_alg)) (c.written.ensures ∙ written) }

pub returns-in_err-bytes-clause-short : goal.returns-in_err-bytes-clause-short
returns-in_err-bytes-clause-short g c = λ short.
    absurd (room_taken _ _ _ _ _ 256 (ap (λ (s : Sink). s.written) c.new-writer.ensures.empty) (ap (λ (s : Sink). s.limit) c.new-writer.ensures.empty) short (omega arith) c.in_default.ensures)
