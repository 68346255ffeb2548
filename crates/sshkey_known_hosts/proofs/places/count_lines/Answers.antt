use Rattle.std.proofs.Common.{rules, ◌<◌, ◌∙◌, arith, ap, eqb-true, length, sym}
use Rattle.std.specs.Str.Lines.{lines}
use Rattle.sshkey_entries.proofs.ByteLines.{left_smaller, no_lines_left}
use Rattle.sshkey_known_hosts.proofs.places.count_lines.Goals as goal

pub lines-preserved : goal.lines-preserved
lines-preserved c =
    let was = c.lines.invariant in
    let less : length c.split_line.result.1.now < length c.lines.left.now = left_smaller c.lines.left.now c.split_line.result.0.now c.split_line.result.1.now (search rules) c.split_line.ensures in (
      omega (arith, was.0, ap length c.split_line.ensures.first),
      omega (arith, was.1, less),
    )

pub lines-smaller : goal.lines-smaller
lines-smaller c = left_smaller c.lines.left.now c.split_line.result.0.now c.split_line.result.1.now (search rules) c.split_line.ensures

pub returns : goal.returns
returns c =
    let none = no_lines_left c.lines.left.now (eqb-true (length c.lines.left.now) 0 (sym c.is_empty.ensures ∙ (let h = c.lines-test.false in cc))) in
    omega (arith, c.lines.invariant.0, ap length none)
