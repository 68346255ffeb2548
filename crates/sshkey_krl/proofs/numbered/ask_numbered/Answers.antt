use Rattle.std.proofs.Common.{refl, arith}
use Rattle.std.proofs.lemmas.Result.{err_from_is_err_and}
use Rattle.sshkey_base.specs.Causes.{cause, encoding_cause, same_cause}
use Rattle.sshkey_model.proofs.CombinedReaders.{fit_bytes}
use Rattle.sshkey_krl.specs.Query.{query_of}
use Rattle.sshkey_krl.proofs.Numbering.{body_answers, no_body, no_kind, no_number, no_string}
use Rattle.sshkey_krl.proofs.numbered.ask_numbered.Goals as goal

pub returns-in_err-number : goal.returns-in_err-number
returns-in_err-number g c =
    let p = err_from_is_err_and c.from_residual.result c.from_residual.ensures.1 in
    let are = fit_bytes c.args.bytes.now (λ i. omega (arith, c.type_inv.bytes i)) in
    rw (p.1, p.2) (no_number g.N.Numbered.kind_from g.N.Numbered.body (g.N.Numbered.says (query_of c.args.query.now)) encoding_cause cause c.args.bytes.now are _ _ c.in_err-number.ensures (same_cause _))

pub returns-in_err-kind : goal.returns-in_err-kind
returns-in_err-kind g c =
    let p = err_from_is_err_and c.from_residual-in_err-kind.result c.from_residual-in_err-kind.ensures.1 in
    let are = fit_bytes c.args.bytes.now (λ i. omega (arith, c.type_inv.bytes i)) in
    rw (p.1, p.2) (no_kind g.N.Numbered.kind_from g.N.Numbered.body (g.N.Numbered.says (query_of c.args.query.now)) encoding_cause cause c.args.bytes.now are _ _ _ c.in_ok-number.ensures c.in_err-kind.ensures refl)

pub returns-in_err-body : goal.returns-in_err-body
returns-in_err-body g c =
    let p = err_from_is_err_and c.from_residual-in_err-body.result c.from_residual-in_err-body.ensures.1 in
    let are = fit_bytes c.args.bytes.now (λ i. omega (arith, c.type_inv.bytes i)) in
    rw (p.1, p.2) (no_string g.N.Numbered.kind_from g.N.Numbered.body (g.N.Numbered.says (query_of c.args.query.now)) encoding_cause cause c.args.bytes.now are _ _ _ _ c.in_ok-number.ensures c.in_ok-kind.ensures c.in_err-body.ensures.gives (same_cause _))

pub returns-in_err-ask_body : goal.returns-in_err-ask_body
returns-in_err-ask_body g c =
    let p = err_from_is_err_and c.from_residual-in_err-ask_body.result c.from_residual-in_err-ask_body.ensures.1 in
    let are = fit_bytes c.args.bytes.now (λ i. omega (arith, c.type_inv.bytes i)) in
    rw (p.1, p.2) (no_body g.N.Numbered.kind_from g.N.Numbered.body (g.N.Numbered.says (query_of c.args.query.now)) encoding_cause cause c.args.bytes.now are _ _ _ _ _ c.in_ok-number.ensures c.in_ok-kind.ensures c.in_ok-body.ensures.gives c.in_err-ask_body.ensures refl)

pub returns : goal.returns
returns g c =
    let are = fit_bytes c.args.bytes.now (λ i. omega (arith, c.type_inv.bytes i)) in
    body_answers g.N.Numbered.kind_from g.N.Numbered.body (g.N.Numbered.says (query_of c.args.query.now)) encoding_cause cause c.args.bytes.now are _ _ _ _ c.in_ok-number.ensures c.in_ok-kind.ensures c.in_ok-body.ensures.gives c.in_ok-ask_body.ensures
