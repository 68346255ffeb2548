use Rattle.std.proofs.Common.{◌∙◌, refl, subst, sym}
use Rattle.sshkey_entries.specs.Fields.{filled_lines}
use Rattle.sshkey_known_hosts.specs.HeldNames.{SayNothing}
use Rattle.sshkey_known_hosts.proofs.HeldLines.{line_held, one_more, piece_line}
use Rattle.sshkey_known_hosts.proofs.HeldNames.{others_say_nothing}
use Rattle.sshkey_known_hosts.proofs.held.hold_lines.Goals as goal

pub invariant_of-push : goal.invariant_of-push
invariant_of-push c = record {
  names_told = λ hmac name other.
      let filled = c.skip_blanks-filled.result.now in
      let one = piece_line c.lines.left.now c.split_line.result.0.now c.split_line.result.1.now c.split_line.ensures _ filled refl c.skip_blanks-filled.ensures (sym c.is_filled.ensures ∙ c.if-is_filled.true) in
      subst (SayNothing hmac name) (sym one) (others_say_nothing hmac name filled (c.names_of_line.ensures hmac name other));
}

pub lines-preserved-in_ok-push : goal.lines-preserved-in_ok-push
lines-preserved-in_ok-push c =
    let left = c.lines.left.now in
    let line = c.split_line.result.0.now in
    let after = c.split_line.result.1.now in
    let filled = c.skip_blanks-filled.result.now in
    let fills = sym c.is_filled.ensures ∙ c.if-is_filled.true in
    line_held (filled_lines c.args.text.now) (filled_lines left) (filled_lines after) filled c.lines.held.items c.push.new.self.items _ c.lines.invariant
    (one_more left line after c.split_line.ensures _ filled refl c.skip_blanks-filled.ensures fills)
    (piece_line left line after c.split_line.ensures _ filled refl c.skip_blanks-filled.ensures fills)
    c.in_ok-push.ensures.items
