use Rattle.std.proofs.Common.{drop}
use Rattle.user_keys.specs.Spellings.{Follow}
use Rattle.user_keys.proofs.marks.follow.Given as goal

-- the symbols that are left follow in what is left of the text exactly if all do in all of it
abbrev pub invariant-loop-symbol : goal.invariant-loop-symbol
invariant-loop-symbol l =
    (Follow (drop l.symbol-index l.symbols) l.rest → Follow l.symbols l.text) ×
    (Follow l.symbols l.text → Follow (drop l.symbol-index l.symbols) l.rest)
