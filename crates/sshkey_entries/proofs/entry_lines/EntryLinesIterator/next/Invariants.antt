use Rattle.std.proofs.Common.{◌≡◌, length}
use Rattle.std.specs.Str.Iter.{lines_rest}
use Rattle.std.specs.Str.Lines.{lines}
use Rattle.sshkey_entries.specs.Entries.{entry_lines}
use Rattle.sshkey_entries.proofs.entry_lines.EntryLinesIterator.next.Given as goal

-- no line with an entry was passed over
abbrev pub invariant-lines : goal.invariant-lines
invariant-lines l = entry_lines (lines_rest l.self-inside.lines) ≡ l.fn.self

abbrev pub decreases-lines : goal.decreases-lines
decreases-lines l = length (lines (lines_rest l.self-inside.lines))
