use Rattle.std.proofs.Common.{◌≡◌, length}
use Rattle.std.specs.Str.Lines.{lines}
use Rattle.sshkey_entries.specs.Fields.{filled_lines}
use Rattle.sshkey_entries.proofs.non_blank_byte_lines.NonBlankByteLinesIterator.next.Given as goal

-- no line that counts was passed over
abbrev pub invariant-lines : goal.invariant-lines
invariant-lines l = filled_lines l.self-inside.rest.now ≡ l.fn.self

abbrev pub decreases-lines : goal.decreases-lines
decreases-lines l = length (lines l.self-inside.rest.now)
