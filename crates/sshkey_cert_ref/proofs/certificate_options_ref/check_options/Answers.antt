use Rattle.std.proofs.Common.{◌<◌, length, sym, ◌∙◌, arith, option_map, refl}
use Rattle.std.proofs.lemmas.Bool.{eqb-true, eqb-false}
use Rattle.std.proofs.lemmas.Result.{err_from_is_err_and}
use Rattle.sshkey_cert_ref.specs.SpelledOptions.{pair_of}
use Rattle.sshkey_cert_ref.proofs.OptionSteps.{walk_on, walk_less, walk_refused, walk_ends}
use Rattle.sshkey_cert_ref.proofs.certificate_options_ref.check_options.Goals as goal

pub returns-in_err-option : goal.returns-in_err-option
returns-in_err-option c =
    let p = err_from_is_err_and c.from_residual.result c.from_residual.ensures.1 in
    let some : 0 < length c.reads.rest.now = omega (arith, eqb-false (length c.reads.rest.now) 0 (sym c.is_empty.ensures ∙ c.reads-test.true)) in
    rw (p.1, p.2) (walk_refused c.args.bytes.now c.reads.rest.now c.reads.before c.reads.plain _ some c.reads.invariant c.in_err-option.ensures)

pub reads-smaller : goal.reads-smaller
reads-smaller c = walk_less (option_map pair_of c.reads.before) c.reads.rest.now _ c.in_ok-option.option c.in_ok-option.ensures

pub reads-preserved : goal.reads-preserved
reads-preserved c = walk_on c.args.bytes.now c.reads.rest.now _ c.reads.before c.reads.plain _ c.in_ok-option.option c.reads.invariant c.in_ok-option.ensures refl

pub returns : goal.returns
returns c = walk_ends c.args.bytes.now c.reads.rest.now c.reads.before c.reads.plain (eqb-true (length c.reads.rest.now) 0 (sym c.is_empty.ensures ∙ c.reads-test.false)) c.reads.invariant
