use Rattle.std.proofs.Common.{inl, refl, arith}
use Rattle.std.proofs.lemmas.Result.{err_from_is_err_and}
use Rattle.sshkey_base.proofs.Steps.{refused_first}
use Rattle.sshkey_ciphers.specs.Ciphers.{cipher_of}
use Rattle.sshkey_ciphers.specs.Formats.{sealed_format}
use Rattle.sshkey_ciphers.proofs.Lawful.{sealed_lawful}
use Rattle.sshkey_private.specs.PrivateKeyFormats.{last_encrypted_at}
use Rattle.sshkey_private.proofs.KeyReaders.{after_refused, none_after}
use Rattle.sshkey_model.specs.Overruns.{OverrunsString}
use Rattle.sshkey_base.proofs.Stopping.{read_past}
use Rattle.sshkey_private.proofs.private_key.read.last_sealed_from.Goals as goal

pub returns-in_err-sealed-clause-gives : goal.returns-in_err-sealed-clause-gives
unfolding last_encrypted_at
returns-in_err-sealed-clause-gives g c =
    let p = err_from_is_err_and c.from_residual.result c.from_residual.ensures.1 in
    rw (p.1, p.2) (λ k public. refused_first _ _ _ _ c.in_err-sealed.ensures.gives)

pub returns-then-remaining-gt0-clause-gives : goal.returns-then-remaining-gt0-clause-gives
returns-then-remaining-gt0-clause-gives g c = λ k public. after_refused _ (cipher_of c.args.cipher) k public _ _ _ c.in_ok-sealed.ensures.gives _ c.remaining_len-remaining.ensures c.if-remaining-gt0.true

pub returns-clause-gives : goal.returns-clause-gives
returns-clause-gives g c = λ k public. none_after _ (cipher_of c.args.cipher) k public _ _ _ c.in_ok-sealed.ensures.gives _ _ refl (let n = c.remaining_len-remaining.ensures in let few = c.if-remaining-gt0.false in omega arith)

pub returns-in_err-sealed-clause-past : goal.returns-in_err-sealed-clause-past
returns-in_err-sealed-clause-past g c =
    let p = err_from_is_err_and c.from_residual.result c.from_residual.ensures.1 in
    rw (p.1, p.2) c.in_err-sealed.ensures.past

pub returns-then-remaining-gt0-clause-past : goal.returns-then-remaining-gt0-clause-past
returns-then-remaining-gt0-clause-past g c = λ o. read_past _ (sealed_format (cipher_of c.args.cipher)).read OverrunsString _ _ _ (λ b m passes. (sealed_lawful (cipher_of c.args.cipher)).lengths b m (inl passes)) c.in_ok-sealed.ensures.gives o
