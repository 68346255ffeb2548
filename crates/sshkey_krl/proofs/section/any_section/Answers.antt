use Rattle.std.proofs.Common.{◌<◌, length, refl, sym, ◌∙◌, arith}
use Rattle.std.proofs.lemmas.Bool.{eqb-true, eqb-false}
use Rattle.std.proofs.lemmas.Result.{err_from_is_err_and}
use Rattle.sshkey_base.specs.Causes.{cause}
use Rattle.sshkey_krl.specs.Query.{query_of, says}
use Rattle.sshkey_krl.specs.Krls.{section_format}
use Rattle.sshkey_krl.proofs.Asking.{asks_end, asks_on, asks_refused, asks_shorter, begin}
use Rattle.sshkey_krl.proofs.Lawful.{section_lawful, section_shows}
use Rattle.sshkey_krl.proofs.section.any_section.Goals as goal

pub sections-init : goal.sections-init
sections-init c = (refl, begin section_format (says (query_of c.args.query.now)) c.args.bytes.now)

pub returns-in_err-yes : goal.returns-in_err-yes
returns-in_err-yes c =
    let p = err_from_is_err_and c.from_residual.result c.from_residual.ensures.1 in
    let some : 0 < length c.sections.rest.now = omega (arith, eqb-false (length c.sections.rest.now) 0 (sym c.is_empty.ensures ∙ c.sections-test.true)) in
    rw (p.1, p.2) (asks_refused section_format (says (query_of c.args.query.now)) cause c.args.bytes.now c.sections.rest.now c.sections.found _ some c.sections.invariant.1 (rw (c.prepare.ensures, c.sections.invariant.0) at c.in_err-yes.ensures))

pub sections-smaller : goal.sections-smaller
sections-smaller c = asks_shorter section_format (says (query_of c.args.query.now)) section_lawful section_shows cause c.sections.rest.now _ (rw (c.prepare.ensures, c.sections.invariant.0) at c.in_ok-yes.ensures)

pub sections-preserved : goal.sections-preserved
sections-preserved c = (c.prepare.ensures ∙ c.sections.invariant.0, asks_on section_format (says (query_of c.args.query.now)) section_lawful section_shows cause c.args.bytes.now c.sections.rest.now c.sections.found _ c.sections.invariant.1 (rw (c.prepare.ensures, c.sections.invariant.0) at c.in_ok-yes.ensures))

pub returns : goal.returns
returns c = asks_end section_format (says (query_of c.args.query.now)) cause c.args.bytes.now c.sections.rest.now c.sections.found (eqb-true (length c.sections.rest.now) 0 (sym c.is_empty.ensures ∙ c.sections-test.false)) c.sections.invariant.1
