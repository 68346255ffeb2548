use Rattle.std.proofs.Common.{◌≡◌, ◌∙◌, ◌<◌, ◌-◌, ◌++◌, ◌∷◌, [], List, ap, append-nil, append_assoc, arith, eqb-true, length, subst, refl, sym, take}
use Rattle.std.proofs.lemmas.List.{length-set, take_all, take_more_set}
use Rattle.std.specs.Str.Lines.{lines}
use Rattle.sshkey_entries.proofs.ByteLines.{no_lines_left}
use Rattle.sshkey_known_hosts.specs.HeldLines.{ArePlacesOf}
use Rattle.sshkey_known_hosts.specs.declared.places.LinePlace.{LinePlace}
use Rattle.sshkey_known_hosts.proofs.HeldLines.{first_alone, nothing, one_before}
use Rattle.sshkey_known_hosts.proofs.places.write_places.Goals as goal

pub lines-preserved : goal.lines-preserved
lines-preserved c =
    let was = c.lines.invariant in
    let left = c.lines.left.now in
    let line = c.split_line.result.0.now in
    let after = c.split_line.result.1.now in
    let cut = c.split_line.ensures in
    let size = length left - length after in
    let p : LinePlace = record { length = size; names = c.names_of.result } in
    let fewer : c.lines.count < length c.lines.places = omega (arith, was.1, ap length cut.first) in (
      λ more are. subst (λ (places : List LinePlace). ArePlacesOf places c.args.text.now) (sym (ap (λ (places : List LinePlace). places ++ more) (take_more_set c.lines.places c.lines.count p fewer) ∙ append_assoc (take c.lines.count c.lines.places) (p ∷ []) more)) (was.0 (p ∷ more) (one_before left line after cut p more refl (c.names_of.ensures (take size left) (first_alone left line after cut)) are)),
      omega (arith, was.1, ap length cut.first, length-set c.lines.places c.lines.count p),
    )

pub returns : goal.returns
returns c =
    let was = c.lines.invariant in
    let over = eqb-true (length c.lines.left.now) 0 (sym c.is_empty.ensures ∙ (let h = c.lines-test.false in cc)) in
    let none = no_lines_left c.lines.left.now over in
    let all : take c.lines.count c.lines.places ++ [] ≡ c.lines.places = append-nil _ ∙ take_all c.lines.count c.lines.places (omega (arith, was.1, ap length none)) in
    subst (λ (places : List LinePlace). ArePlacesOf places c.args.text.now) all (was.0 [] (nothing c.lines.left.now over))
