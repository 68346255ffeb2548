use Rattle.std.proofs.Common.{◌≡◌, ◌≤◌, ◌+◌, ◌++◌, List, ℕ, length}
use Rattle.std.specs.List.{Any}
use Rattle.sshkey_cert.specs.Certificates.{certificate_of}
use Rattle.user_keys.specs.UserLogins.{EndsBy}
use Rattle.user_keys.specs.Principals.{Decides, MayDecide, lines_at_feeds}
use Rattle.user_keys.proofs.principal.first_principal.Given as goal

-- the lines that were counted, none of which decides or may do so, and those that are left
abbrev pub invariant-lines : goal.invariant-lines
invariant-lines l =
    (before : List (List ℕ)) × (lines_at_feeds l.fn.text ≡ before ++ lines_at_feeds l.rest) × ¬ Any (EndsBy (Decides (certificate_of l.fn.certificate)) (MayDecide (certificate_of l.fn.certificate))) before × (l.line ≡ length before) × (l.line + length l.rest ≤ length l.fn.text)

abbrev pub decreases-lines : goal.decreases-lines
decreases-lines l = length l.rest
