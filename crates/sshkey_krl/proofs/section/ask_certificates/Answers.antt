use Rattle.std.proofs.Common.{refl}
use Rattle.std.proofs.lemmas.Result.{err_from_is_err_and}
use Rattle.sshkey_base.specs.Causes.{cause, encoding_cause, same_cause}
use Rattle.sshkey_krl.specs.Query.{query_of}
use Rattle.sshkey_krl.proofs.Sections.{no_authority, no_parts, no_reserved, no_string, parts_say}
use Rattle.sshkey_krl.proofs.section.ask_certificates.Goals as goal

pub returns-in_err-authority : goal.returns-in_err-authority
returns-in_err-authority c =
    let p = err_from_is_err_and c.from_residual.result c.from_residual.ensures.1 in
    rw (p.1, p.2) (no_string (query_of c.args.query.now) encoding_cause cause c.args.bytes.now _ _ c.in_err-authority.ensures.gives (same_cause _))

pub returns-in_err-about : goal.returns-in_err-about
returns-in_err-about c =
    let p = err_from_is_err_and c.from_residual-in_err-about.result c.from_residual-in_err-about.ensures.1 in
    rw (p.1, p.2) (no_authority (query_of c.args.query.now) encoding_cause cause c.args.bytes.now _ _ _ c.in_ok-authority.ensures.gives c.in_err-about.ensures refl)

pub returns-in_err-parts : goal.returns-in_err-parts
returns-in_err-parts c =
    let p = err_from_is_err_and c.from_residual-in_err-parts.result c.from_residual-in_err-parts.ensures.1 in
    rw (p.1, p.2) (no_reserved (query_of c.args.query.now) encoding_cause cause c.args.bytes.now _ _ _ _ c.in_ok-authority.ensures.gives c.in_ok-about.ensures c.in_err-parts.ensures.gives (same_cause _))

pub returns-in_err-listed : goal.returns-in_err-listed
returns-in_err-listed c =
    let p = err_from_is_err_and c.from_residual-in_err-listed.result c.from_residual-in_err-listed.ensures.1 in
    rw (p.1, p.2) (no_parts (query_of c.args.query.now) encoding_cause cause c.args.bytes.now _ _ _ _ _ c.in_ok-authority.ensures.gives c.in_ok-about.ensures c.in_ok-parts.ensures.gives c.in_err-listed.ensures refl)

pub returns : goal.returns
returns c = parts_say (query_of c.args.query.now) encoding_cause cause c.args.bytes.now _ _ _ _ c.in_ok-authority.ensures.gives c.in_ok-about.ensures c.in_ok-parts.ensures.gives c.in_ok-listed.ensures
