-- Worked examples, on both sides of each edge.
use Rattle.std.specs.Prelude.{◌≡◌, ℕ, List, [], ◌∷◌, ◌++◌, true, false, None, Some, codes}
use Rattle.sshkey_model.specs.HexText.{hex}
use Rattle.sshkey_matching.specs.declared.times.Span.{Span}
use Rattle.login_terms.specs.Options.{all_permitted, none_permitted}
use Rattle.user_keys.specs.Certificates.{agree, both_permit, first_listed, judged_by}
use Rattle.user_keys.specs.Judgements.{CountsAt, joined}
use Rattle.user_keys.specs.Principals.{name_in}
use Rattle.user_keys.specs.Spellings.{Follow, mark}
use Rattle.user_keys.specs.declared.answer.Answer.TheVariants.{Yes, No, Unclear}
use Rattle.user_keys.specs.declared.answer.Judgement.TheVariants as judgement
use Rattle.user_keys.specs.declared.refusal.Reason.TheVariants as reason

abbrev until : Span
until = record { first = 10; last = 20 }

-- A line counts through its last second. Between the first and the last that it may be nothing can
-- be told.
abbrev pub Times : Type 0
Times = CountsAt None 5 Yes × CountsAt (Some until) 10 Yes × CountsAt (Some until) 11 Unclear × CountsAt (Some until) 20 Unclear × CountsAt (Some until) 21 No

-- What is told refuses, whatever cannot be told.
abbrev pub Together : Type 0
Together = (joined Yes false Yes ≡ judgement.Allows)
    × (joined No true No ≡ judgement.Refuses reason.Expired)
    × (joined Unclear true No ≡ judgement.Refuses reason.MisplacedOption)
    × (joined Unclear false No ≡ judgement.Refuses reason.Elsewhere)
    × (joined Unclear false Yes ≡ judgement.Unclear)
    × (joined Yes false Unclear ≡ judgement.Unclear)

-- an Ed25519 key
abbrev part : List ℕ
part = hex "b33eaef37ea2df7caa010defdea34e241f65f1b529a4f43ed14327f5c54aab62"

-- One of its marks stands in its Base64 after the name `ssh-ed25519`, and another after the short
-- name `ED25519`.
abbrev pub Marks : Type 0
Marks = (codes "AAAAC3NzaC1lZDI1NTE5AAAAILM+rvN+ot98qgEN796jTiQfZfG1KaT0PtFDJ/XFSqti" ≡ codes "AAAAC3NzaC1lZDI1NTE5AAAAILM+rvN+ot98qgEN796jTiQf" ++ mark part 0)
    × (codes "AAAAB0VEMjU1MTkAAAAgsz6u836i33yqAQ3v3qNOJB9l8bUppPQ+0UMn9cVKq2I=" ≡ codes "AAAAB0VEMjU1MTkAAAAgsz6u836i33yqAQ3v3qNO" ++ mark part 2 ++ codes "q2I=")

-- A carriage return may stand between symbols, and a space may not.
abbrev pub White : Type 0
White = Follow (codes "ab") (codes "a" ++ (0x0d ∷ codes "bc")) × ¬ Follow (codes "ab") (codes "a bc")

-- Of the names that a line lists the first counts that the certificate has, and none past an empty
-- one.
abbrev pub Listed : Type 0
Listed = (first_listed (codes "alice" ∷ codes "bob" ∷ []) (codes "carol" ∷ codes "bob" ∷ codes "alice" ∷ []) ≡ Some (codes "bob"))
    × (first_listed (codes "alice" ∷ []) (codes "bob" ∷ [] ∷ codes "alice" ∷ []) ≡ None)

-- Two commands have to be one, and a login may do what both permit.
abbrev pub Merged : Type 0
Merged = (judged_by (agree (Some (codes "ls")) (Some (codes "ls -l"))) true judgement.Allows ≡ judgement.Refuses reason.Command)
    × (judged_by (agree None (Some (codes "ls"))) true judgement.Unclear ≡ judgement.Unclear)
    × (judged_by true false judgement.Allows ≡ judgement.Refuses reason.Principals)
    × (judged_by false false (judgement.Refuses reason.Expired) ≡ judgement.Refuses reason.Expired)
    × (both_permit all_permitted (record { name = codes "permit-pty"; value = [] } ∷ []) ≡ record none_permitted { pty = true; tunnels = true })

-- A name stands after the last space, or else after the last tab; a `#` ends its line, also one
-- within quotes; and a carriage return belongs to it.
abbrev pub Names : Type 0
Names = (name_in (codes "restrict,pty alice  # the owner") ≡ codes "alice")
    × (name_in (codes "command=" ++ (0x22 ∷ codes "a#b") ++ (0x22 ∷ codes " alice")) ≡ codes "command=" ++ (0x22 ∷ codes "a"))
    × (name_in (codes "pty" ++ (0x09 ∷ codes "alice" ++ (0x0d ∷ []))) ≡ codes "alice" ++ (0x0d ∷ []))
    × (name_in (codes " # alice") ≡ [])
