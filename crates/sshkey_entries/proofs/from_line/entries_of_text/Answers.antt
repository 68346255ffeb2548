use Rattle.std.proofs.Common.{ap, inl, inr, ◌∙◌, ◌++◌, List, ℕ}
use Rattle.std.proofs.lemmas.Result.{err_from_is_err_and}
use Rattle.sshkey_entries.proofs.TextLines.{answered_more, needed_first}
use Rattle.sshkey_entries.proofs.from_line.entries_of_text.Goals as goal

pub loop-line-preserved : goal.loop-line-preserved
loop-line-preserved g c =
    let was = c.loop-line.invariant.2 in
    rw c.in_ok-push.ensures.items (tt, tt, answered_more (λ entry x. g.E.FromLine.IsEntry entry (g.E.FromLine.means x)) _ was.0 _ _ c.loop-line.found.items c.in-Some.line.now c.in_ok-from_line.field-0 was.1 was.2 c.in-Some.ensures.steps c.in_ok-from_line.ensures.reads)

pub returns-in_err-from_line-clause-reads : goal.returns-in_err-from_line-clause-reads
returns-in_err-from_line-clause-reads g c =
    let was = c.loop-line.invariant.2 in
    let p = err_from_is_err_and c.from_residual.result c.from_residual.ensures.1 in
    rw (p.1, p.2) (λ other. record {
      before = was.0;
      entry = c.in-Some.line.now;
      after = c.next.new.self;
      is = was.1 ∙ ap (λ (l : List (List ℕ)). was.0 ++ l) c.in-Some.ensures.steps;
      values = c.loop-line.found.items;
      read = was.2;
      none = c.in_err-from_line.ensures.reads other;
      fault = c.in_err-from_line.ensures.fault other;
    })

pub returns-in_err-from_line-clause-asks : goal.returns-in_err-from_line-clause-asks
returns-in_err-from_line-clause-asks g c =
    let was = c.loop-line.invariant.2 in
    let p = err_from_is_err_and c.from_residual.result c.from_residual.ensures.1 in
    rw (p.1, p.2) (λ memory. needed_first g.E.FromLine.means g.E.FromLine.IsEntry g.E.FromLine.Needs _ was.0 c.loop-line.line-iterator c.next.new.self c.loop-line.found.items c.in-Some.line.now was.1 was.2 c.in-Some.ensures.steps (inr (c.in_err-from_line.ensures.asks memory)))

pub returns-in_err-push-clause-asks : goal.returns-in_err-push-clause-asks
returns-in_err-push-clause-asks g c =
    let was = c.loop-line.invariant.2 in
    let p = err_from_is_err_and c.from_residual-in_err-push.result c.from_residual-in_err-push.ensures.1 in
    rw (p.1, p.2) (λ memory. needed_first g.E.FromLine.means g.E.FromLine.IsEntry g.E.FromLine.Needs _ was.0 c.loop-line.line-iterator c.next.new.self c.loop-line.found.items c.in-Some.line.now was.1 was.2 c.in-Some.ensures.steps (inl (g.E.FromLine.means c.in_ok-from_line.field-0, c.in_ok-from_line.ensures.reads)))
