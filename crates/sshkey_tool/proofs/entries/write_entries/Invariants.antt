use Rattle.std.specs.Prelude.{string_bytes}
use Rattle.sshkey_tool.proofs.ShownEntries.{WrittenSoFar}
use Rattle.sshkey_tool.proofs.entries.write_entries.Given as goal

-- what was made of the first entries, their last lines kept, and the entries that are left
abbrev pub invariant-loop-entry : goal.invariant-loop-entry
invariant-loop-entry g l =
    (goal.iterator-loop-entry g).can_next l.entry-iterator ×
    (goal.iterator-loop-entry g).is_finite l.entry-iterator ×
    WrittenSoFar l.fn.file l.fn.text l.entry-iterator (g.W.Write.contents l.fn.output) (g.W.Write.contents l.output) (string_bytes l.lines) l.status
