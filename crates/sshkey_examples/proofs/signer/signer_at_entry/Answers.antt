use Rattle.std.proofs.Common.{◌≡◌, ◌∙◌, true, ap, sym}
use Rattle.std.proofs.lemmas.Result.{err_from_is_err_and}
use Rattle.ssh_key.specs.public.PublicKeys.{comment_of}
use Rattle.sshkey_examples.proofs.Signers.{none_reserved}
use Rattle.sshkey_examples.proofs.signer.signer_at_entry.Goals as goal

pub returns-then-not-is_empty : goal.returns-then-not-is_empty
returns-then-not-is_empty g c = λ key signed.
    let yes : c.is_empty.result ≡ true = c.is_empty.ensures.1 (c.options.ensures ∙ signed.alone) in
    absurd cc

pub returns-then-has_reserved : goal.returns-then-has_reserved
returns-then-has_reserved g c = λ key signed. c.has_reserved.ensures.0 c.if-has_reserved.true signed.nothing_reserved

pub returns-in_err-signed : goal.returns-in_err-signed
returns-in_err-signed g c =
    let p = err_from_is_err_and c.from_residual.result c.from_residual.ensures.1 in
    rw (p.1, p.2) (λ key. c.in_err-signed.ensures.memory)

pub returns-then-not-signed : goal.returns-then-not-signed
returns-then-not-signed g c = λ key signed.
    let yes : c.in_ok-signed.signed ≡ true = (c.in_ok-signed.ensures.answer key).1 signed.verified in
    absurd cc

pub returns-in_err-text : goal.returns-in_err-text
returns-in_err-text g c =
    let p = err_from_is_err_and c.from_residual-in_err-text.result c.from_residual-in_err-text.ensures.1 in
    rw (p.1, p.2) (λ key. c.in_err-text.ensures.memory)

pub returns : goal.returns
returns g c = λ key. (
  record {
    alone = sym c.options.ensures ∙ c.is_empty.ensures.0 c.if-not-is_empty.false;
    nothing_reserved = none_reserved _ _ c.has_reserved.ensures c.if-has_reserved.false;
    verified = (c.in_ok-signed.ensures.answer key).0 c.if-not-signed.false;
  },
  c.in_ok-text.ensures.value ∙ c.comment.ensures ∙ ap comment_of c.public_key.ensures,
)
