use Rattle.std.proofs.Common.{◌≡◌, ◌∙◌, ap, arith, inr, sym}
use Rattle.std.proofs.lemmas.Result.{err_from_is_err_and}
use Rattle.sshkey_keys.specs.Keys.{key_of}
use Rattle.sshkey_model.specs.Keys.{key_data_at}
use Rattle.sshkey_model.specs.Reading.{whole}
use Rattle.sshkey_calls.specs.Drafts.{certifiable_number}
use Rattle.sshkey_calls.proofs.DraftNumbers.{certifiable_as, key_is, other_key, wrong_part}
use Rattle.sshkey_calls.proofs.draft_fields.certifiable_key.Goals as goal

pub returns-in_err-key : goal.returns-in_err-key
returns-in_err-key c =
    let p = err_from_is_err_and c.from_residual.result c.from_residual.ensures.1 in
    rw (p.1, p.2) (wrong_part _ _ _ (λ x. x) (certifiable_as (whole key_data_at c.args.blob.now)) c.in_err-key.ensures)

pub returns-then-is_certifiable : goal.returns-then-is_certifiable
returns-then-is_certifiable c =
    let k = key_of c.in_ok-key.key in
    let spelled = c.in_ok-key.ensures.0 in
    let certifiable = c.is_certifiable.ensures.0 c.if-is_certifiable.true in
    ((spelled, certifiable), ap certifiable_number (key_is k c.args.blob.now spelled) ∙ certifiable)

pub returns-else-is_certifiable : goal.returns-else-is_certifiable
returns-else-is_certifiable c =
    let k = key_of c.in_ok-key.key in
    let other : certifiable_number (whole key_data_at c.args.blob.now) ≡ 12 = ap certifiable_number (key_is k c.args.blob.now c.in_ok-key.ensures.0) ∙ other_key k (λ is. let yes_ = c.is_certifiable.ensures.1 is in cc (yes_, c.if-is_certifiable.false)) in
    inr (omega arith, sym other)
