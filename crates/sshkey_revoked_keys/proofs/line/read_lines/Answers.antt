use Rattle.std.proofs.Common.{◌≡◌, ℕ, List, ◌++◌, Vec, Global, inl, sym, ap, subst, ◌∙◌, append-nil}
use Rattle.std.proofs.lemmas.Result.{err_from_is_err_and}
use Rattle.sshkey_entries.proofs.TextLines.{answered_more, needed_first}
use Rattle.sshkey_entries.specs.Answers.{AreEntries}
use Rattle.sshkey_revoked_keys.proofs.RevokedLines.{first_left, nothing_left}
use Rattle.sshkey_revoked_keys.specs.RevokedKeys.{NeedsLine, RevokesKey, revoked_lines}
use Rattle.sshkey_revoked_keys.proofs.line.read_lines.Goals as goal

pub lines-preserved-in_ok-push : goal.lines-preserved-in_ok-push
lines-preserved-in_ok-push c =
    let was = c.lines.invariant in
    let first = first_left c.lines.rest.now c.split_line.result.0.now c.split_line.result.1.now c.is_filled.result c.split_line.ensures.lines c.is_filled.ensures c.if-is_filled.true in
    rw c.in_ok-push.ensures.items (answered_more (λ entry (x : Vec ℕ Global). RevokesKey entry x.items) _ was.0 _ _ c.lines.keys.items _ c.in_ok-read_line.field-0 was.1 was.2 first c.in_ok-read_line.ensures.reads)

pub returns-in_err-read_line-clause-reads : goal.returns-in_err-read_line-clause-reads
returns-in_err-read_line-clause-reads c =
    let was = c.lines.invariant in
    let p = err_from_is_err_and c.from_residual.result c.from_residual.ensures.1 in
    let first = first_left c.lines.rest.now c.split_line.result.0.now c.split_line.result.1.now c.is_filled.result c.split_line.ensures.lines c.is_filled.ensures c.if-is_filled.true in
    rw (p.1, p.2) (λ other. record {
      before = was.0;
      entry = c.split_line.result.0.now;
      after = revoked_lines c.split_line.result.1.now;
      is = was.1 ∙ ap (λ (l : List (List ℕ)). was.0 ++ l) first;
      values = c.lines.keys.items;
      read = was.2;
      none = c.in_err-read_line.ensures.reads other;
      fault = c.in_err-read_line.ensures.fault other;
    })

pub returns-in_err-read_line-clause-asks : goal.returns-in_err-read_line-clause-asks
returns-in_err-read_line-clause-asks c =
    let was = c.lines.invariant in
    let p = err_from_is_err_and c.from_residual.result c.from_residual.ensures.1 in
    let first = first_left c.lines.rest.now c.split_line.result.0.now c.split_line.result.1.now c.is_filled.result c.split_line.ensures.lines c.is_filled.ensures c.if-is_filled.true in
    rw (p.1, p.2) (λ memory. needed_first (λ (x : Vec ℕ Global). x.items) RevokesKey NeedsLine _ was.0 _ _ c.lines.keys.items _ was.1 was.2 first (c.in_err-read_line.ensures.asks memory))

pub returns-in_err-push-clause-asks : goal.returns-in_err-push-clause-asks
returns-in_err-push-clause-asks c =
    let was = c.lines.invariant in
    let p = err_from_is_err_and c.from_residual-in_err-push.result c.from_residual-in_err-push.ensures.1 in
    let first = first_left c.lines.rest.now c.split_line.result.0.now c.split_line.result.1.now c.is_filled.result c.split_line.ensures.lines c.is_filled.ensures c.if-is_filled.true in
    rw (p.1, p.2) (λ memory. needed_first (λ (x : Vec ℕ Global). x.items) RevokesKey NeedsLine _ was.0 _ _ c.lines.keys.items _ was.1 was.2 first (inl (c.in_ok-read_line.field-0.items, c.in_ok-read_line.ensures.reads)))

pub returns-clause-reads : goal.returns-clause-reads
returns-clause-reads c =
    let was = c.lines.invariant in
    let none = nothing_left c.lines.rest.now c.is_empty.result c.is_empty.ensures (let h = c.lines-test.false in cc) in
    let all : was.0 ≡ revoked_lines c.args.text.now = sym (was.1 ∙ ap (λ (l : List (List ℕ)). was.0 ++ l) none ∙ append-nil was.0) in
    subst (λ (l : List (List ℕ)). AreEntries (λ (x : Vec ℕ Global). x.items) RevokesKey l c.lines.keys.items) all was.2
