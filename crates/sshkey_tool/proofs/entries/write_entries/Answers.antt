use Rattle.std.proofs.Common.{◌≡◌, true, false, inl, inr, refl, ◌∙◌, subst, List, ℕ}
use Rattle.std.specs.Prelude.{string_bytes}
use Rattle.sshkey_tool.specs.Outcomes.{RefusesAfter}
use Rattle.sshkey_tool.specs.Lines.{WritesWithStatus}
use Rattle.sshkey_tool.proofs.ShownEntries.{IsMoreStatus, nothing_written, keeps_more, writes_kept, whole_line, begun_line, all_written, cut_lines, cut_entries}
use Rattle.sshkey_tool.proofs.entries.write_entries.Goals as goal
use Rattle.sshkey_tool.proofs.entries.write_entries.Goals.{then-refused, else-refused}

pub loop-entry-init : goal.loop-entry-init
loop-entry-init g c = (tt, tt, rw (c.into_iter-entry-iterator.ensures.into_iter_gives, c.new-entry-items.ensures, c.new-lines.ensures.bytes) (nothing_written c.args.file c.args.text.now (g.W.Write.contents c.args.output.now)))

pub returns-in-Err : goal.returns-in-Err
returns-in-Err g c = cut_entries c.args.file c.args.text.now (string_bytes c.loop-entry.lines) c.loop-entry.entry-iterator c.next.new.self c.in-Some.entry.now _ (g.W.Write.contents c.loop-entry.output) _ c.loop-entry.status c.refuse_after.result c.in-Err.error
    c.loop-entry.invariant.2 c.in-Some.ensures.steps c.in-Err.ensures.0
    (subst (λ (l : List ℕ). RefusesAfter c.in-Err.error (g.W.Write.contents c.loop-entry.output) (g.W.Write.contents c.refuse_after.new.output) l c.refuse_after.result) (c.deref.ensures ∙ c.in-Err.ensures.1) c.refuse_after.ensures)

pub returns-then-not-is_written : goal.returns-then-not-is_written
returns-then-not-is_written g c =
    let whole : c.is_written.result ≡ false = (let h = c.if-not-is_written.true in cc) in
    let said : IsMoreStatus c.in-Ok.refused c.loop-entry.status c.if-refused.status = elim c.if-refused.branch [ then-refused w ↦ inl (w.if-refused.true, w.status-is) | else-refused w ↦ inr (w.if-refused.false, w.status-is) ] in
    cut_lines c.args.file c.args.text.now c.next.new.self (string_bytes c.push_entry.new.lines) _ (g.W.Write.contents c.loop-entry.output) (g.W.Write.contents c.is_written.new.output) c.if-refused.status 1
    (keeps_more c.args.file c.args.text.now c.loop-entry.entry-iterator c.next.new.self c.in-Some.entry.now (string_bytes c.loop-entry.lines) (string_bytes c.push_entry.new.lines) c.in-Ok.refused _ (g.W.Write.contents c.loop-entry.output) c.loop-entry.status c.if-refused.status c.loop-entry.invariant.2 c.in-Some.ensures.steps c.in-Ok.ensures said)
    (begun_line _ _ c.as_bytes.result.now (string_bytes c.push_entry.new.lines) c.is_written.result whole c.as_bytes.ensures.value c.is_written.ensures) refl

pub loop-entry-preserved-then-len-ge-PIECE : goal.loop-entry-preserved-then-len-ge-PIECE
loop-entry-preserved-then-len-ge-PIECE g c =
    let whole : c.is_written.result ≡ true = (let h = c.if-not-is_written.false in cc) in
    let said : IsMoreStatus c.in-Ok.refused c.loop-entry.status c.if-refused.status = elim c.if-refused.branch [ then-refused w ↦ inl (w.if-refused.true, w.status-is) | else-refused w ↦ inr (w.if-refused.false, w.status-is) ] in (
      tt,
      tt,
      rw c.clear.ensures.bytes (writes_kept c.args.file c.args.text.now c.next.new.self (string_bytes c.push_entry.new.lines) _ (g.W.Write.contents c.loop-entry.output) (g.W.Write.contents c.is_written.new.output) c.if-refused.status
          (keeps_more c.args.file c.args.text.now c.loop-entry.entry-iterator c.next.new.self c.in-Some.entry.now (string_bytes c.loop-entry.lines) (string_bytes c.push_entry.new.lines) c.in-Ok.refused _ (g.W.Write.contents c.loop-entry.output) c.loop-entry.status c.if-refused.status c.loop-entry.invariant.2 c.in-Some.ensures.steps c.in-Ok.ensures said)
          (whole_line _ _ c.as_bytes.result.now (string_bytes c.push_entry.new.lines) c.is_written.result whole c.as_bytes.ensures.value c.is_written.ensures)),
    )

pub loop-entry-preserved : goal.loop-entry-preserved
loop-entry-preserved g c =
    let said : IsMoreStatus c.in-Ok.refused c.loop-entry.status c.if-refused.status = elim c.if-refused.branch [ then-refused w ↦ inl (w.if-refused.true, w.status-is) | else-refused w ↦ inr (w.if-refused.false, w.status-is) ] in
    (tt, tt, keeps_more c.args.file c.args.text.now c.loop-entry.entry-iterator c.next.new.self c.in-Some.entry.now (string_bytes c.loop-entry.lines) (string_bytes c.push_entry.new.lines) c.in-Ok.refused _ (g.W.Write.contents c.loop-entry.output) c.loop-entry.status c.if-refused.status c.loop-entry.invariant.2 c.in-Some.ensures.steps c.in-Ok.ensures said)

pub returns : goal.returns
returns g c = all_written c.args.file c.args.text.now (string_bytes c.loop-entry.lines) c.loop-entry.entry-iterator _ (g.W.Write.contents c.loop-entry.output) _ c.loop-entry.status c.write_line.result c.loop-entry.invariant.2 c.in-None.ensures.steps.0
    (subst (λ (l : List ℕ). WritesWithStatus (g.W.Write.contents c.loop-entry.output) (g.W.Write.contents c.write_line.new.output) l c.loop-entry.status c.write_line.result) c.as_bytes-2.ensures.value c.write_line.ensures)
