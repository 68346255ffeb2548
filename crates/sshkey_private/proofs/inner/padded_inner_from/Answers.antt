use Rattle.std.proofs.Common.{◌%◌, ◌∙◌, ap, sym, inl, refl, ℕ, suc}
use Rattle.std.proofs.lemmas.Result.{err_from_is_err_and}
use Rattle.sshkey_keys.specs.Keys.{key_of}
use Rattle.sshkey_base.proofs.Places.{later_then}
use Rattle.sshkey_base.proofs.Stopping.{read_past}
use Rattle.sshkey_private.specs.PrivateParts.{inner_of, inner_at, inner_format}
use Rattle.sshkey_private.proofs.PaddedReaders.{not_whole, value_refused, padding_refused, padded_read, asks_padded, past_padded}
use Rattle.sshkey_private.proofs.Lawful.{inner_lawful}
use Rattle.sshkey_private.proofs.inner.padded_inner_from.Goals as goal

pub returns-then-remaining_len-ne0-clause-gives : goal.returns-then-remaining_len-ne0-clause-gives
returns-then-remaining_len-ne0-clause-gives g c = not_whole (suc c.args.most) (inner_at (key_of c.args.public.now)) (g.R.Reader.source c.args.reader.now) (λ e. c.if-remaining_len-ne0.true (ap (λ (n : ℕ). n % 8) c.remaining_len.ensures ∙ e))

pub returns-in_err-inner-clause-gives : goal.returns-in_err-inner-clause-gives
returns-in_err-inner-clause-gives g c =
    let p = err_from_is_err_and c.from_residual.result c.from_residual.ensures.1 in
    rw (p.1, p.2) (value_refused (suc c.args.most) (inner_at (key_of c.args.public.now)) (g.R.Reader.source c.args.reader.now) _ (sym (ap (λ (n : ℕ). n % 8) c.remaining_len.ensures) ∙ c.if-remaining_len-ne0.false) c.in_err-inner.ensures.gives)

pub returns-in_err-inner-clause-asks : goal.returns-in_err-inner-clause-asks
returns-in_err-inner-clause-asks g c =
    let p = err_from_is_err_and c.from_residual.result c.from_residual.ensures.1 in
    rw (p.1, p.2) (asks_padded (inner_format (key_of c.args.public.now)).needs (g.R.Reader.source c.args.reader.now) _ (sym (ap (λ (n : ℕ). n % 8) c.remaining_len.ensures) ∙ c.if-remaining_len-ne0.false) c.in_err-inner.ensures.asks)

pub returns-in_err-padding_from-clause-gives : goal.returns-in_err-padding_from-clause-gives
returns-in_err-padding_from-clause-gives g c =
    let p = err_from_is_err_and c.from_residual-in_err-padding_from.result c.from_residual-in_err-padding_from.ensures.1 in
    rw (p.1, p.2) (padding_refused (suc c.args.most) (inner_at (key_of c.args.public.now)) inner_of _ _ _ c.in_ok-inner.ensures.gives (sym (ap (λ (n : ℕ). n % 8) c.remaining_len.ensures) ∙ c.if-remaining_len-ne0.false) _ c.in_err-padding_from.ensures.gives)

pub returns-clause-gives : goal.returns-clause-gives
returns-clause-gives g c = padded_read (suc c.args.most) (inner_at (key_of c.args.public.now)) inner_of _ _ _ c.in_ok-inner.ensures.gives (sym (ap (λ (n : ℕ). n % 8) c.remaining_len.ensures) ∙ c.if-remaining_len-ne0.false) _ c.in_ok-padding_from.ensures.sound c.in_ok-padding_from.ensures.gives

pub returns-in_err-padding_from-clause-later : goal.returns-in_err-padding_from-clause-later
returns-in_err-padding_from-clause-later g c = later_then _ _ _ c.in_ok-inner.ensures.later c.in_err-padding_from.ensures.later

pub returns-in_err-padding_from-clause-asks : goal.returns-in_err-padding_from-clause-asks
returns-in_err-padding_from-clause-asks g c =
    let p = err_from_is_err_and c.from_residual-in_err-padding_from.result c.from_residual-in_err-padding_from.ensures.1 in
    rw (p.1, p.2) (λ memory sound. absurd (c.in_err-padding_from.ensures.asks memory (c.in_ok-inner.ensures.gives.missing ∙ sound)))

pub returns-clause-later : goal.returns-clause-later
returns-clause-later g c = later_then _ _ _ c.in_ok-inner.ensures.later c.in_ok-padding_from.ensures.later

pub returns-then-remaining_len-ne0-clause-past : goal.returns-then-remaining_len-ne0-clause-past
returns-then-remaining_len-ne0-clause-past g c = λ o. inl refl

pub returns-in_err-inner-clause-past : goal.returns-in_err-inner-clause-past
returns-in_err-inner-clause-past g c =
    let p = err_from_is_err_and c.from_residual.result c.from_residual.ensures.1 in
    rw (p.1, p.2) (λ o. past_padded (inner_format (key_of c.args.public.now)).needs (g.R.Reader.source c.args.reader.now) _ (sym (ap (λ (n : ℕ). n % 8) c.remaining_len.ensures) ∙ c.if-remaining_len-ne0.false) (c.in_err-inner.ensures.past.past o))

pub returns-in_err-padding_from-clause-past : goal.returns-in_err-padding_from-clause-past
returns-in_err-padding_from-clause-past g c =
    let p = err_from_is_err_and c.from_residual-in_err-padding_from.result c.from_residual-in_err-padding_from.ensures.1 in
    let inner = inner_format (key_of c.args.public.now) in
    rw (p.1, p.2) (λ o. read_past inner_of inner.read inner.overruns _ _ _ (inner_lawful (key_of c.args.public.now)).lengths c.in_ok-inner.ensures.gives o)
