use Rattle.std.proofs.Common.{ap, sym, ◌∙◌}
use Rattle.std.specs.Prelude.{is_some}
use Rattle.sshkey_keys.specs.Questions.{question_of}
use Rattle.sshkey_sshsig.specs.SshSignatures.{ssh_signature_of}
use Rattle.sshkey_entry_calls.proofs.ByKeys.{empty, has_signed, is_some_map, not_no}
use Rattle.sshkey_entry_calls.proofs.sshsig.has_signed.Goals as goal

pub returns : goal.returns
returns c =
    has_signed (ssh_signature_of c.args.read.now) c.args.said.is_yes c.args.namespace.now (not_no c.args.said.is_yes c.if-not-said.false)
    (c.is_in.ensures.0 c.if-not-is_in.false)
    (sym c.reserved.ensures ∙ empty c.reserved.result.now c.is_empty.result c.is_empty.ensures c.if-not-is_empty.false)
    c.is_some.result
    (c.is_some.ensures ∙ is_some_map question_of c.question.result ∙ ap is_some (rw (c.public_key.ensures, c.signature.ensures) at c.question.ensures))
