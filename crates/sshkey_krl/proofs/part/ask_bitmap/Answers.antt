use Rattle.std.proofs.Common.{refl}
use Rattle.std.proofs.lemmas.Result.{err_from_is_err_and}
use Rattle.sshkey_base.specs.Causes.{cause, encoding_cause, same_cause}
use Rattle.sshkey_krl.specs.Query.{query_of}
use Rattle.sshkey_krl.specs.Revocation.{Bitmap}
use Rattle.sshkey_krl.proofs.Parts.{bitmap_ends, no_begin, no_bitmap, no_bits}
use Rattle.sshkey_krl.proofs.part.ask_bitmap.Goals as goal

pub returns-in_err-first : goal.returns-in_err-first
returns-in_err-first c =
    let p = err_from_is_err_and c.from_residual.result c.from_residual.ensures.1 in
    rw (p.1, p.2) (no_begin (query_of c.args.query.now) encoding_cause cause c.args.bytes.now _ _ c.in_err-first.ensures.gives (same_cause _))

pub returns-in_err-bitmap : goal.returns-in_err-bitmap
returns-in_err-bitmap c =
    let p = err_from_is_err_and c.from_residual-in_err-bitmap.result c.from_residual-in_err-bitmap.ensures.1 in
    rw (p.1, p.2) (no_bits (query_of c.args.query.now) encoding_cause cause c.args.bytes.now _ _ _ c.in_ok-first.ensures.gives c.in_err-bitmap.ensures.gives (same_cause _))

pub returns-in_err-check_bitmap : goal.returns-in_err-check_bitmap
returns-in_err-check_bitmap c =
    let p = err_from_is_err_and c.from_residual-in_err-check_bitmap.result c.from_residual-in_err-check_bitmap.ensures.1 in
    rw (p.1, p.2) (no_bitmap (query_of c.args.query.now) encoding_cause cause c.args.bytes.now (λ _. Bitmap c.in_ok-first.first c.in_ok-bitmap.bitmap.now) _ _ _ _ c.in_ok-first.ensures.gives c.in_ok-bitmap.ensures.gives c.in_err-check_bitmap.ensures refl)

pub returns : goal.returns
returns c = bitmap_ends (query_of c.args.query.now) encoding_cause cause c.args.bytes.now (λ _. Bitmap c.in_ok-first.first c.in_ok-bitmap.bitmap.now) _ _ _ _ c.in_ok-first.ensures.gives c.in_ok-bitmap.ensures.gives c.in_ok-check_bitmap.ensures (rw c.is_in_bitmap.ensures at c.at_end.ensures)
