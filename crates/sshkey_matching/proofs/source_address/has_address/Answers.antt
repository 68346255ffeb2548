use Rattle.std.proofs.Common.{◌≡◌, ℕ, List, [], ◌∷◌, Option, Bor, ap, ◌∙◌, rules}
use Rattle.sshkey_matching.specs.SourceAddresses.{IsSomeNetwork, Covers, pieces, pieces_of}
use Rattle.sshkey_matching.proofs.FromLists.{all_less, all_last, found_last, not_all, one_less}
use Rattle.sshkey_matching.proofs.source_address.has_address.Goals as goal

pub returns-in_default : goal.returns-in_default
returns-in_default c = λ all. not_all IsSomeNetwork c.split_piece.result.0.now (pieces c.pieces.rest.now) (pieces_of c.split_piece.result.1) c.split_piece.ensures c.in_default.ensures (c.pieces.invariant.form.0 all)

pub returns-in_default-more : goal.returns-in_default-more
returns-in_default-more c =
    let piece = c.split_piece.result.0.now in
    let last : pieces c.pieces.rest.now ≡ piece ∷ [] = c.split_piece.ensures ∙ ap (λ (m : Option (Bor (List ℕ))). piece ∷ pieces_of m) c.in_default-more.is in
    let found = found_last (λ p. Covers p c.args.address) piece (pieces c.pieces.rest.now) last c.pieces.has c.in-Some.is_covered c.in-Some.ensures.1 in (
      c.pieces.invariant.form.1 (all_last IsSomeNetwork piece (pieces c.pieces.rest.now) last c.in-Some.ensures.0),
      (λ y. c.pieces.invariant.any.1 (found.1 y), λ h. found.0 (c.pieces.invariant.any.0 h)),
    )

pub pieces-preserved : goal.pieces-preserved
pieces-preserved c =
    let piece = c.split_piece.result.0.now in
    let more : pieces c.pieces.rest.now ≡ piece ∷ pieces c.in-Some-more.next.now = c.split_piece.ensures ∙ ap (λ (m : Option (Bor (List ℕ))). piece ∷ pieces_of m) c.in-Some-more.is in
    let form = all_less IsSomeNetwork piece (pieces c.pieces.rest.now) (pieces c.in-Some-more.next.now) more c.in-Some.ensures.0 in
    let any = one_less (λ p. Covers p c.args.address) c.pieces.has c.in-Some.is_covered piece (pieces c.pieces.rest.now) (pieces c.in-Some-more.next.now) more c.in-Some.ensures.1 in
    record {
      form = (λ h. form.0 (c.pieces.invariant.form.0 h), λ h. c.pieces.invariant.form.1 (form.1 h));
      any = (λ h. any.0 (c.pieces.invariant.any.0 h), λ h. c.pieces.invariant.any.1 (any.1 h));
      text = search rules;
    }
