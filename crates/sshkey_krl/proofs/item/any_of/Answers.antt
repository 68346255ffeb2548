use Rattle.std.proofs.Common.{◌<◌, length, sym, ◌∙◌, arith}
use Rattle.std.proofs.lemmas.Bool.{eqb-true, eqb-false}
use Rattle.std.proofs.lemmas.Result.{err_from_is_err_and}
use Rattle.sshkey_base.specs.Causes.{cause}
use Rattle.sshkey_krl.specs.Query.{query_of}
use Rattle.sshkey_krl.proofs.Asking.{asks_end, asks_on, asks_refused, asks_shorter, begin}
use Rattle.sshkey_krl.proofs.item.any_of.Goals as goal

pub items-init : goal.items-init
items-init g c = begin g.I.Item.format (g.I.Item.says (query_of c.args.query.now)) c.args.bytes.now

pub returns-in_err-yes : goal.returns-in_err-yes
returns-in_err-yes g c =
    let p = err_from_is_err_and c.from_residual.result c.from_residual.ensures.1 in
    let some : 0 < length c.items.rest.now = omega (arith, eqb-false (length c.items.rest.now) 0 (sym c.is_empty.ensures ∙ c.items-test.true)) in
    rw (p.1, p.2) (asks_refused g.I.Item.format (g.I.Item.says (query_of c.args.query.now)) cause c.args.bytes.now c.items.rest.now c.items.found _ some c.items.invariant c.in_err-yes.ensures)

pub items-smaller : goal.items-smaller
items-smaller g c = asks_shorter g.I.Item.format (g.I.Item.says (query_of c.args.query.now)) c.lawful.ensures.lawful c.lawful.ensures.has_bytes cause c.items.rest.now _ c.in_ok-yes.ensures

pub items-preserved : goal.items-preserved
items-preserved g c = asks_on g.I.Item.format (g.I.Item.says (query_of c.args.query.now)) c.lawful.ensures.lawful c.lawful.ensures.has_bytes cause c.args.bytes.now c.items.rest.now c.items.found _ c.items.invariant c.in_ok-yes.ensures

pub returns : goal.returns
returns g c = asks_end g.I.Item.format (g.I.Item.says (query_of c.args.query.now)) cause c.args.bytes.now c.items.rest.now c.items.found (eqb-true (length c.items.rest.now) 0 (sym c.is_empty.ensures ∙ c.items-test.false)) c.items.invariant
