use Rattle.std.proofs.Common.{◌≡◌, ◌++◌, List, ℕ}
use Rattle.sshkey_entries.specs.Answers.{AreEntries}
use Rattle.sshkey_entries.specs.Entries.{entries}
use Rattle.sshkey_entries.proofs.from_line.entries_of_text.Given as goal

-- the entries that were read, and those that are left
abbrev pub invariant-loop-line : goal.invariant-loop-line
invariant-loop-line g l =
    (goal.iterator-loop-line g).can_next l.line-iterator ×
    (goal.iterator-loop-line g).is_finite l.line-iterator ×
    ((before : List (List ℕ)) × (entries l.text ≡ before ++ l.line-iterator) × AreEntries g.E.FromLine.means g.E.FromLine.IsEntry before l.found.items)
