use Rattle.std.proofs.Common.{◌∙◌, refl, sym}
use Rattle.sshkey_entry_calls.specs.Revocations.{reads_of}
use Rattle.sshkey_c.proofs.revocation.raf_check_unrevoked_key.Goals as goal

pub returns-clause-answer : goal.returns-clause-answer
returns-clause-answer c = λ _. (reads_of c.in-Ok.files, c.in-Ok.ensures.read, rw (sym c.are_read.ensures ∙ c.if-not-are_read.false) (c.key_status.ensures.exactly, c.key_status.ensures.fault))

pub returns-then-not-are_read-clause-answer : goal.returns-then-not-are_read-clause-answer
returns-then-not-are_read-clause-answer c = λ _. (reads_of c.in-Ok.files, c.in-Ok.ensures.read, rw (sym c.are_read.ensures ∙ c.if-not-are_read.true) refl)
