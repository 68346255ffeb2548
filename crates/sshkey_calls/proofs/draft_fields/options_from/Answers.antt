use Rattle.std.proofs.Common.{◌∙◌, List, ℕ, subst}
use Rattle.std.proofs.lemmas.Result.{err_from_is_err_and}
use Rattle.sshkey_base.proofs.Accepted.{spelled_whole}
use Rattle.sshkey_base.specs.Causes.{cause}
use Rattle.sshkey_base.specs.Reading.{IsRefused}
use Rattle.sshkey_model.specs.Parts.{flat}
use Rattle.sshkey_model.specs.Reading.{whole}
use Rattle.sshkey_model.specs.Texts.{string}
use Rattle.sshkey_cert_values.specs.CertificateFields.{options_of}
use Rattle.sshkey_model.specs.Options.{SpellsOptions, options_value_at}
use Rattle.sshkey_cert_values.proofs.Lawful.{options_grammar}
use Rattle.sshkey_calls.proofs.DraftNumbers.{listed_long, listed_right, listed_wrong, refused_number, wrong_part}
use Rattle.sshkey_calls.proofs.draft_fields.options_from.Goals as goal

pub returns-in_err-string : goal.returns-in_err-string
returns-in_err-string c =
    let p = err_from_is_err_and c.from_residual.result c.from_residual.ensures.1 in
    rw (p.1, p.2) (wrong_part _ _ _ (λ _. tt) (listed_long options_value_at c.args.options.now) c.in_err-string.ensures)

pub returns-in-Ok : goal.returns-in-Ok
returns-in-Ok c =
    let b = c.args.options.now in
    let spelled = subst (SpellsOptions (options_of c.in-Ok.options)) (c.as_slice.ensures.value ∙ c.in_ok-string.ensures.0.0) c.in-Ok.ensures.accepts.spelled in
    (spelled, listed_right options_value_at b (options_of c.in-Ok.options) c.in_ok-string.ensures.1 (spelled_whole options_grammar (flat (string b)) (options_of c.in-Ok.options) spelled))

pub returns : goal.returns
returns c =
    let b = c.args.options.now in
    let e = c.in-Err.error in
    let refused = subst (λ (s : List ℕ). IsRefused 0 (cause e) (whole options_value_at s)) (c.as_slice.ensures.value ∙ c.in_ok-string.ensures.0.0) c.in-Err.ensures.gives in
    refused_number (whole options_value_at (flat (string b))) (cause e) c.error_status.result _ refused c.error_status.ensures.memory c.error_status.ensures.fault c.error_status.ensures.range
    (listed_wrong options_value_at b c.in_ok-string.ensures.1)
