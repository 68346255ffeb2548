use Rattle.std.proofs.Common.{◌<◌, length, sym, ◌∙◌, arith, Some, [], ◌∷◌, ◌++◌}
use Rattle.std.proofs.lemmas.Bool.{eqb-true, eqb-false}
use Rattle.std.proofs.lemmas.Result.{err_from_is_err_and}
use Rattle.sshkey_cert_ref.proofs.TextSteps.{walk_on, walk_less, walk_refused, walk_ends}
use Rattle.sshkey_cert_ref.proofs.principals_ref.check_texts.Goals as goal

pub returns-in_err-read_from : goal.returns-in_err-read_from
returns-in_err-read_from c =
    let p = err_from_is_err_and c.from_residual.result c.from_residual.ensures.1 in
    let some : 0 < length c.reads.rest.now = omega (arith, eqb-false (length c.reads.rest.now) 0 (sym c.is_empty.ensures ∙ c.reads-test.true)) in
    rw (p.1, p.2) (walk_refused c.args.bytes.now c.reads.rest.now c.reads.invariant.0 c.reads.invariant.1 _ some c.reads.invariant.2 c.in_err-read_from.ensures.gives)

pub reads-smaller : goal.reads-smaller
reads-smaller c = walk_less c.reads.rest.now _ c.in_ok-read_from.field-0 c.in_ok-read_from.ensures.gives

pub reads-preserved : goal.reads-preserved
reads-preserved c =
    let text = c.in_ok-read_from.field-0 in
    (Some text.now, c.reads.invariant.1 ++ text.now ∷ [], walk_on c.args.bytes.now c.reads.rest.now _ c.reads.invariant.0 c.reads.invariant.1 text c.reads.invariant.2 c.in_ok-read_from.ensures.gives)

pub returns : goal.returns
returns c = walk_ends c.args.bytes.now c.reads.rest.now c.reads.invariant.0 c.reads.invariant.1 (eqb-true (length c.reads.rest.now) 0 (sym c.is_empty.ensures ∙ c.reads-test.false)) c.reads.invariant.2
