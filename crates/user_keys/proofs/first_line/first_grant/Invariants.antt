use Rattle.std.proofs.Common.{◌≡◌, ◌≤◌, ◌+◌, ◌++◌, List, ℕ, length}
use Rattle.std.specs.List.{Any}
use Rattle.std.specs.Str.Lines.{lines}
use Rattle.user_keys.specs.UserLogins.{Ends, credential_of, login_of}
use Rattle.user_keys.proofs.FirstLines.{RefusedBy}
use Rattle.user_keys.proofs.first_line.first_grant.Given as goal

-- the lines that were counted, none of which lets the key in or may do so, and those that are left
abbrev pub invariant-loop-text : goal.invariant-loop-text
invariant-loop-text l =
    (before : List (List ℕ)) × (lines l.login.text.now ≡ before ++ lines l.rest) × ¬ Any (Ends (login_of l.login) (credential_of l.credential)) before × RefusedBy (login_of l.login) (credential_of l.credential) before l.refused × (l.line ≡ length before) × (l.line + length l.rest ≤ length l.login.text.now)

abbrev pub decreases-loop-text : goal.decreases-loop-text
decreases-loop-text l = length l.rest
