use Rattle.std.proofs.Common.{◌≡◌, length}
use Rattle.std.specs.Str.Lines.{lines}
use Rattle.sshkey_entry_calls.proofs.CutLines.{IsLeft}
use Rattle.sshkey_c.proofs.entry.raf_next_line.Given as goal

-- no line that counts was passed over, and nothing is answered yet
abbrev pub invariant-lines : goal.invariant-lines
invariant-lines l = IsLeft l.text l.place l.left × (l.answer ≡ l.fn.answer)

abbrev pub decreases-lines : goal.decreases-lines
decreases-lines l = length (lines l.left)
