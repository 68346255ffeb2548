use Rattle.std.proofs.Common.{Ok, Err, refl}
use Rattle.std.proofs.lemmas.Result.{err_from_is_err_and}
use Rattle.sshkey_model.specs.Keys.{key_at}
use Rattle.sshkey_model.specs.Reading.{whole, box_at}
use Rattle.sshkey_base.specs.Causes.{cause, same_cause}
use Rattle.sshkey_terms.proofs.SliceFronts.{answers_ok}
use Rattle.sshkey_cert_ref.specs.Certificates.{spelled_key_of}
use Rattle.sshkey_cert_ref.specs.declared.leaves.KeyInString.{KeyInString}
use Rattle.sshkey_cert_ref.proofs.LengthPrefixed.{kept_key}
use Rattle.sshkey_cert_ref.proofs.OptionLists.{box_bytes, no_string, in_string}
use Rattle.sshkey_cert_ref.proofs.leaves.KeyInStringReadFromRefSliceU8.read_from.Goals as goal

pub returns-in_err-string-clause-gives : goal.returns-in_err-string-clause-gives
returns-in_err-string-clause-gives c =
    let p = err_from_is_err_and c.from_residual.result c.from_residual.ensures.1 in
    let b = c.args.reader.now.now in
    rw (p.1, p.2) (no_string (box_at (whole key_at)) (whole key_at) b (box_bytes (whole key_at) b) _ _ (same_cause c.in_err-string.field-0.0) c.in_err-string.ensures.gives)

pub returns-in_err-from_bytes-clause-gives : goal.returns-in_err-from_bytes-clause-gives
returns-in_err-from_bytes-clause-gives c =
    let p = err_from_is_err_and c.from_residual-in_err-from_bytes.result c.from_residual-in_err-from_bytes.ensures.1 in
    let b = c.args.reader.now.now in
    rw (p.1, p.2) (in_string (box_at (whole key_at)) (whole key_at) b (box_bytes (whole key_at) b) spelled_key_of cause _ _ (Err _) c.in_ok-string.ensures.gives (kept_key cause _ (Err _) c.in_err-from_bytes.ensures.keeps))

pub returns-clause-gives : goal.returns-clause-gives
returns-clause-gives c =
    let b = c.args.reader.now.now in
    let x = c.in_ok-from_bytes.field-0 in
    let is = answers_ok spelled_key_of cause (whole key_at c.in_ok-string.string.now) x (kept_key cause _ (Ok x) c.in_ok-from_bytes.ensures.keeps) in
    in_string (box_at (whole key_at)) (whole key_at) b (box_bytes (whole key_at) b) (λ (k : KeyInString). spelled_key_of k.0) cause _ _ (Ok _) c.in_ok-string.ensures.gives (rw is refl)
