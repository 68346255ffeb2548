use Rattle.std.proofs.Common.{ℕ, List}
use Rattle.std.specs.List.{Any}
use Rattle.sshkey_entries.specs.Fields.{filled_lines}
use Rattle.sshkey_keys.specs.Keys.{key_of}
use Rattle.allowed_signers.specs.AllowedSigners.{AllowsSigner}
use Rattle.allowed_signers.proofs.signers.is_allowed.Given as goal

-- one of the lines allows it exactly if one of those that are left does
abbrev pub invariant-loop-line : goal.invariant-loop-line
invariant-loop-line l =
    let Here : List ℕ → Type 0 = λ line. AllowsSigner l.identity l.namespace l.unix_timestamp (key_of l.key) line in (
    goal.iterator-loop-line.can_next l.line-iterator ×
    goal.iterator-loop-line.is_finite l.line-iterator ×
    (Any Here l.line-iterator → Any Here (filled_lines l.signers)) ×
    (Any Here (filled_lines l.signers) → Any Here l.line-iterator)
    )
