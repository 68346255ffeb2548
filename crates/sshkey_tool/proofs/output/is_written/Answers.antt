use Rattle.std.proofs.KnownBytes.{Appends-kept}
use Rattle.sshkey_tool.proofs.Lines.{fewer, more}
use Rattle.sshkey_tool.proofs.output.is_written.Goals as goal
use Rattle.sshkey_tool.proofs.output.is_written.Goals.{in-Ok, in-Err+in-Interrupted}

pub writes-preserved : goal.writes-preserved
writes-preserved g c = elim c.match-write.branch [
  | in-Ok w ↦ rw w.written-is (record {
    within = fewer c.args.line.now c.writes.written w.in-Ok.count c.writes.invariant.within w.in-Ok.ensures.bound;
    so_far = more _ _ _ c.args.line.now c.writes.written w.in-Ok.count c.writes.invariant.so_far w.in-Ok.ensures.bytes;
  })
  | in-Err+in-Interrupted w ↦ rw w.written-is (record { within = c.writes.invariant.within; so_far = Appends-kept _ _ _ _ c.writes.invariant.so_far w.in-Err.ensures.bytes })
]
