use Rattle.std.proofs.Common.{◌∙◌, IfOk, List, ap, length, subst, sym, ℕ}
use Rattle.std.proofs.lemmas.Bool.Decides.{Decides-eqb}
use Rattle.sshkey_c.proofs.Grants.{added_part, none_named, spelled_anywhere}
use Rattle.sshkey_c.specs.Grants.{AddsPart, permit_strings}
use Rattle.sshkey_c.proofs.grant.add_places.Goals as goal

pub returns-then-is_empty : goal.returns-then-is_empty
returns-then-is_empty c =
    let none = (Decides-eqb (length c.args.permits.now) 0).0 (sym c.is_empty.ensures ∙ c.if-is_empty.true) in
    let is = ap permit_strings (none_named c.args.may c.args.permits.now c.if-not-may.false none) ∙ spelled_anywhere in
    subst (λ (bytes : List ℕ). IfOk c.add-then-is_empty.result (λ part. AddsPart bytes part c.args.content.now.items c.add-then-is_empty.new.content.items)) (sym is) (added_part _ _ _ c.add-then-is_empty.result c.add-then-is_empty.ensures.added c.add-then-is_empty.ensures.start c.add-then-is_empty.ensures.length)
