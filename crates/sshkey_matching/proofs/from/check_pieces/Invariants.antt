use Rattle.std.proofs.Common.{◌↔◌, length}
use Rattle.std.specs.List.{All, Any}
use denote.Shadow.{shadow}
use denote.Text.{Utf8}
use Rattle.sshkey_matching.specs.FromLists.{Client, IsFromPiece, Names, Refuses}
use Rattle.sshkey_matching.specs.SourceAddresses.{pieces}
use Rattle.sshkey_matching.proofs.FromLists.{IsFoundOrIn}
use Rattle.sshkey_matching.proofs.from.check_pieces.Given as goal

-- what was found, and what is left
abbrev pub invariant-pieces : goal.invariant-pieces
invariant-pieces l =
    let c : Client = record { address = l.ip; text = l.text; host = l.host } in
    record {
      form : All IsFromPiece (pieces l.list) ↔ All IsFromPiece (pieces l.rest);
      named : Any (Names c) (pieces l.list) ↔ IsFoundOrIn (Names c) l.is_named (pieces l.rest);
      refused : Any (Refuses c) (pieces l.list) ↔ IsFoundOrIn (Refuses c) l.is_refused (pieces l.rest);
      text : shadow (Utf8 l.rest);
    }

abbrev pub decreases-pieces : goal.decreases-pieces
decreases-pieces l = length (pieces l.rest)
