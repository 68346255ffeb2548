use Rattle.std.proofs.Common.{◌≤◌, length, take}
use Rattle.std.specs.Io.KnownBytes.{Appends}
use Rattle.sshkey_tool.proofs.output.is_written.Given as goal

-- what was written so far
abbrev pub invariant-writes : goal.invariant-writes
invariant-writes g l = record {
  within : l.written ≤ length l.line;
  so_far : Appends (g.W.Write.contents l.fn.output) (g.W.Write.contents l.output) (take l.written l.line);
}
