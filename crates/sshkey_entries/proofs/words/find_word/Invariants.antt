use Rattle.std.specs.Prelude.{Option, drop, map}
use Rattle.sshkey_entries.specs.OptionItems.{FindsWord, row_of}
use Rattle.sshkey_entries.proofs.words.find_word.Given as goal

-- what the rows that are left find is found
abbrev pub invariant-loop-row : goal.invariant-loop-row
invariant-loop-row g l = (r : Option g.row.W.Denot) → FindsWord (map row_of (drop l.row-index l.table)) l.name r → FindsWord (map row_of l.table) l.name r
