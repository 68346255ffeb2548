use Rattle.std.proofs.Common.{refl}
use Rattle.std.proofs.lemmas.Result.{err_from_is_err_and}
use Rattle.sshkey_base.specs.Causes.{cause}
use Rattle.sshkey_krl.specs.Query.{query_of}
use Rattle.sshkey_krl.proofs.Krls.{header_refused, sections_asked}
use Rattle.sshkey_krl.proofs.krl_ref.ask.Goals as goal

pub returns-in_err-read_from : goal.returns-in_err-read_from
returns-in_err-read_from c =
    let p = err_from_is_err_and c.from_residual.result c.from_residual.ensures.1 in
    rw (p.1, p.2) (header_refused (query_of c.args.query.now) cause c.args.bytes.now _ _ c.in_err-read_from.ensures.gives refl)

pub returns : goal.returns
returns c = sections_asked (query_of c.args.query.now) cause c.args.bytes.now _ _ _ c.in_ok-read_from.ensures.gives.value c.any_section.ensures
