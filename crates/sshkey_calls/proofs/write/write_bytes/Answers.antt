use Rattle.std.proofs.Common.{refl}
use Rattle.sshkey_calls.proofs.Rooms.{filled}
use Rattle.sshkey_calls.proofs.write.write_bytes.Goals as goal

pub returns-then-write_to-clause-written : goal.returns-then-write_to-clause-written
returns-then-write_to-clause-written c = filled c.args.content.now c.args.content.now c.args.room.now c.write_to.new.room c.write_to.result 0 _ _ (refl, refl) refl c.write_to.ensures (λ _. refl) (λ no_. absurd (cc (no_, c.if-write_to.true)))

pub returns-else-write_to-clause-written : goal.returns-else-write_to-clause-written
returns-else-write_to-clause-written c = filled c.args.content.now c.args.content.now c.args.room.now c.write_to.new.room c.write_to.result 2 _ _ (refl, refl) refl c.write_to.ensures (λ yes_. absurd (cc (yes_, c.if-write_to.false))) (λ _. refl)
