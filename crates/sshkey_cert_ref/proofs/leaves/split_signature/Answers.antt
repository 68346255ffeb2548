use Rattle.std.proofs.Common.{Ok, Err}
use Rattle.std.proofs.lemmas.Result.{err_from_is_err_and}
use Rattle.sshkey_model.specs.Reading.{whole, box_at}
use Rattle.sshkey_model.specs.Signatures.{signature_at}
use Rattle.sshkey_base.specs.Causes.{cause, same_cause}
use Rattle.sshkey_cert_ref.proofs.LengthPrefixed.{kept_signature, signature_is, spelled_signature_of}
use Rattle.sshkey_cert_ref.proofs.OptionLists.{box_bytes, no_string, in_string}
use Rattle.sshkey_cert_ref.proofs.leaves.split_signature.Goals as goal

pub returns-in_err-string : goal.returns-in_err-string
returns-in_err-string c =
    let p = err_from_is_err_and c.from_residual.result c.from_residual.ensures.1 in
    let b = c.args.bytes.now in
    rw (p.1, p.2) (no_string (box_at (whole signature_at)) (whole signature_at) b (box_bytes (whole signature_at) b) _ _ (same_cause c.in_err-string.field-0.0) c.in_err-string.ensures.gives)

pub returns-in_err-from_bytes : goal.returns-in_err-from_bytes
returns-in_err-from_bytes c =
    let p = err_from_is_err_and c.from_residual-in_err-from_bytes.result c.from_residual-in_err-from_bytes.ensures.1 in
    let b = c.args.bytes.now in
    rw (p.1, p.2) (in_string (box_at (whole signature_at)) (whole signature_at) b (box_bytes (whole signature_at) b) spelled_signature_of cause _ _ (Err _) c.in_ok-string.ensures.gives (kept_signature cause _ (Err _) c.in_err-from_bytes.ensures.keeps))

pub returns : goal.returns
returns c =
    let b = c.args.bytes.now in
    let x = c.in_ok-from_bytes.field-0 in
    let g = in_string (box_at (whole signature_at)) (whole signature_at) b (box_bytes (whole signature_at) b) spelled_signature_of cause _ _ (Ok x) c.in_ok-string.ensures.gives (kept_signature cause _ (Ok x) c.in_ok-from_bytes.ensures.keeps) in
    (spelled_signature_of x, signature_is x, g.value)
