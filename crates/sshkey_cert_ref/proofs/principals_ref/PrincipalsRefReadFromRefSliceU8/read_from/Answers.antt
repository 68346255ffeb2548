use Rattle.std.proofs.Common.{refl}
use Rattle.std.proofs.lemmas.Result.{err_from_is_err_and}
use Rattle.sshkey_model.specs.Texts.{texts_at, text_list_at}
use Rattle.sshkey_base.specs.Causes.{encoding_cause}
use Rattle.sshkey_cert_ref.specs.Views.{texts_of}
use Rattle.sshkey_cert_ref.proofs.OptionLists.{box_bytes, no_string, in_string}
use Rattle.sshkey_cert_ref.proofs.TextSteps.{kept_texts}
use Rattle.sshkey_cert_ref.proofs.principals_ref.PrincipalsRefReadFromRefSliceU8.read_from.Goals as goal

pub returns-in_err-string-clause-gives : goal.returns-in_err-string-clause-gives
unfolding texts_at
returns-in_err-string-clause-gives c =
    let p = err_from_is_err_and c.from_residual.result c.from_residual.ensures.1 in
    let b = c.args.reader.now.now in
    rw (p.1, p.2) (no_string texts_at text_list_at b (box_bytes text_list_at b) _ _ refl c.in_err-string.ensures.gives)

pub returns-clause-gives : goal.returns-clause-gives
unfolding texts_at
returns-clause-gives c =
    let b = c.args.reader.now.now in
    in_string texts_at text_list_at b (box_bytes text_list_at b) texts_of encoding_cause _ _ c.from_bytes.result c.in_ok-string.ensures.gives (kept_texts encoding_cause _ c.from_bytes.result c.from_bytes.ensures.keeps)
