use Rattle.std.proofs.Common.{◌≡◌, ℕ, List, [], ◌∷◌, Option, Bor, ap, ◌∙◌, rules}
use Rattle.sshkey_matching.specs.FromLists.{Client, IsFromPiece, Names, Refuses}
use Rattle.sshkey_matching.specs.SourceAddresses.{pieces, pieces_of}
use Rattle.sshkey_matching.proofs.FromLists.{lets_from, all_less, all_last, not_all, one_less}
use Rattle.sshkey_matching.proofs.from.check_pieces.Goals as goal

pub returns-in_default : goal.returns-in_default
returns-in_default c = λ all. not_all IsFromPiece c.split_piece.result.0.now (pieces c.pieces.rest.now) (pieces_of c.split_piece.result.1) c.split_piece.ensures c.in_default.ensures (c.pieces.invariant.form.0 all)

pub returns-in_default-more : goal.returns-in_default-more
returns-in_default-more c =
    let client : Client = record { address = c.args.ip; text = c.args.text.now; host = c.args.host.now } in
    let piece = c.split_piece.result.0.now in
    let last : pieces c.pieces.rest.now ≡ piece ∷ [] = c.split_piece.ensures ∙ ap (λ (m : Option (Bor (List ℕ))). piece ∷ pieces_of m) c.in_default-more.is in (
      c.pieces.invariant.form.1 (all_last IsFromPiece piece (pieces c.pieces.rest.now) last c.in-Some.ensures.0),
      lets_from client c.args.list.now piece (pieces c.pieces.rest.now) c.pieces.is_named c.pieces.is_refused c.in-Some.names c.in-Some.refuses c.is_but_not.result last c.pieces.invariant.named c.pieces.invariant.refused c.in-Some.ensures.1 c.in-Some.ensures.2 c.is_but_not.ensures,
    )

pub pieces-preserved : goal.pieces-preserved
pieces-preserved c =
    let client : Client = record { address = c.args.ip; text = c.args.text.now; host = c.args.host.now } in
    let piece = c.split_piece.result.0.now in
    let more : pieces c.pieces.rest.now ≡ piece ∷ pieces c.in-Some-more.next.now = c.split_piece.ensures ∙ ap (λ (m : Option (Bor (List ℕ))). piece ∷ pieces_of m) c.in-Some-more.is in
    let form = all_less IsFromPiece piece (pieces c.pieces.rest.now) (pieces c.in-Some-more.next.now) more c.in-Some.ensures.0 in
    let named = one_less (Names client) c.pieces.is_named c.in-Some.names piece (pieces c.pieces.rest.now) (pieces c.in-Some-more.next.now) more c.in-Some.ensures.1 in
    let refused = one_less (Refuses client) c.pieces.is_refused c.in-Some.refuses piece (pieces c.pieces.rest.now) (pieces c.in-Some-more.next.now) more c.in-Some.ensures.2 in
    record {
      form = (λ h. form.0 (c.pieces.invariant.form.0 h), λ h. c.pieces.invariant.form.1 (form.1 h));
      named = (λ h. named.0 (c.pieces.invariant.named.0 h), λ h. c.pieces.invariant.named.1 (named.1 h));
      refused = (λ h. refused.0 (c.pieces.invariant.refused.0 h), λ h. c.pieces.invariant.refused.1 (refused.1 h));
      text = search rules;
    }
