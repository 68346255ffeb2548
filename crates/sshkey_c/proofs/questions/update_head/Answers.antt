use Rattle.std.proofs.Common.{List, subst, ℕ}
use Rattle.std.specs.Int.{to_be_bytes, w32, w64}
use Rattle.sha2.specs.Hashers.{Holds256}
use Rattle.sshkey_c.proofs.Asked.{joined}
use Rattle.sshkey_c.proofs.questions.update_head.Goals as goal

pub returns : goal.returns
returns c = λ m holds. subst (λ (l : List ℕ). Holds256 c.update-4.new.self l) (joined m (to_be_bytes w32 c.args.question.now.algorithm) (to_be_bytes w64 c.args.question.now.key.length) (to_be_bytes w64 c.args.question.now.message.length) (to_be_bytes w64 c.args.question.now.signature.length))
    (rw (← c.to_be_bytes.ensures, ← c.to_be_bytes-2.ensures, ← c.to_be_bytes-3.ensures, ← c.to_be_bytes-4.ensures, ← c.as_slice.ensures, ← c.as_slice-2.ensures, ← c.as_slice-3.ensures, ← c.as_slice-4.ensures) (c.update-4.ensures _ (c.update-3.ensures _ (c.update-2.ensures _ (c.update.ensures m holds)))))
