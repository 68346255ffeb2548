use Rattle.std.proofs.Common.{◌≡◌, length}
use Rattle.std.specs.Str.Iter.{lines_rest}
use Rattle.std.specs.Str.Lines.{lines}
use Rattle.sshkey_entries.specs.Fields.{filled_lines}
use Rattle.sshkey_entries.proofs.non_blank_lines.NonBlankLinesIterator.next.Given as goal

-- no line that counts was passed over
abbrev pub invariant-lines : goal.invariant-lines
invariant-lines l = filled_lines (lines_rest l.self-inside.lines) ≡ l.fn.self

abbrev pub decreases-lines : goal.decreases-lines
decreases-lines l = length (lines (lines_rest l.self-inside.lines))
