use Rattle.std.proofs.Common.{refl, ◌∙◌}
use Rattle.std.proofs.lemmas.Result.{err_from_is_err_and}
use Rattle.sshkey_model.specs.Reading.{after_at}
use Rattle.sshkey_base.proofs.Places.{later_then}
use Rattle.sshkey_cert_values.proofs.Refusals.{name_refusal, nonce_refusal, key_refusal, rest_refusal}
use Rattle.sshkey_cert_values.proofs.certificate_fields.CertificateFieldsDecode.decode.Goals as goal

pub returns-in_err-algorithm-clause-gives : goal.returns-in_err-algorithm-clause-gives
returns-in_err-algorithm-clause-gives g c =
    let p = err_from_is_err_and c.from_residual.result c.from_residual.ensures.1 in
    let e = c.in_err-algorithm.ensures in
    rw (p.1, p.2) ((name_refusal _ _ (record { gives = e.gives; asks = e.asks; past = e.past })).gives)

pub returns-in_err-algorithm-clause-asks : goal.returns-in_err-algorithm-clause-asks
returns-in_err-algorithm-clause-asks g c =
    let p = err_from_is_err_and c.from_residual.result c.from_residual.ensures.1 in
    let e = c.in_err-algorithm.ensures in
    rw (p.1, p.2) ((name_refusal _ _ (record { gives = e.gives; asks = e.asks; past = e.past })).asks)

pub returns-in_err-algorithm-clause-past : goal.returns-in_err-algorithm-clause-past
returns-in_err-algorithm-clause-past g c =
    let p = err_from_is_err_and c.from_residual.result c.from_residual.ensures.1 in
    let e = c.in_err-algorithm.ensures in
    rw (p.1, p.2) ((name_refusal _ _ (record { gives = e.gives; asks = e.asks; past = e.past })).past)

pub returns-in_err-nonce-clause-gives : goal.returns-in_err-nonce-clause-gives
returns-in_err-nonce-clause-gives g c =
    let p = err_from_is_err_and c.from_residual-in_err-nonce.result c.from_residual-in_err-nonce.ensures.1 in
    let e = c.in_err-nonce.ensures in
    rw (p.1, p.2) ((nonce_refusal _ _ _ _ _ c.in_ok-algorithm.ensures.gives (record { gives = e.gives; asks = e.asks; past = e.past })).gives)

pub returns-in_err-nonce-clause-asks : goal.returns-in_err-nonce-clause-asks
returns-in_err-nonce-clause-asks g c =
    let p = err_from_is_err_and c.from_residual-in_err-nonce.result c.from_residual-in_err-nonce.ensures.1 in
    let e = c.in_err-nonce.ensures in
    rw (p.1, p.2) ((nonce_refusal _ _ _ _ _ c.in_ok-algorithm.ensures.gives (record { gives = e.gives; asks = e.asks; past = e.past })).asks)

pub returns-in_err-nonce-clause-past : goal.returns-in_err-nonce-clause-past
returns-in_err-nonce-clause-past g c =
    let p = err_from_is_err_and c.from_residual-in_err-nonce.result c.from_residual-in_err-nonce.ensures.1 in
    let e = c.in_err-nonce.ensures in
    rw (p.1, p.2) ((nonce_refusal _ _ _ _ _ c.in_ok-algorithm.ensures.gives (record { gives = e.gives; asks = e.asks; past = e.past })).past)

pub returns-in_err-public_key-clause-gives : goal.returns-in_err-public_key-clause-gives
returns-in_err-public_key-clause-gives g c =
    let p = err_from_is_err_and c.from_residual-in_err-public_key.result c.from_residual-in_err-public_key.ensures.1 in
    let e = c.in_err-public_key.ensures in
    rw (p.1, p.2) ((key_refusal _ _ _ _ _ c.in_ok-algorithm.ensures.gives _ _ _ c.in_ok-nonce.ensures.gives (record { gives = e.gives; asks = e.asks; past = e.past })).gives)

pub returns-in_err-public_key-clause-asks : goal.returns-in_err-public_key-clause-asks
returns-in_err-public_key-clause-asks g c =
    let p = err_from_is_err_and c.from_residual-in_err-public_key.result c.from_residual-in_err-public_key.ensures.1 in
    let e = c.in_err-public_key.ensures in
    rw (p.1, p.2) ((key_refusal _ _ _ _ _ c.in_ok-algorithm.ensures.gives _ _ _ c.in_ok-nonce.ensures.gives (record { gives = e.gives; asks = e.asks; past = e.past })).asks)

pub returns-in_err-public_key-clause-past : goal.returns-in_err-public_key-clause-past
returns-in_err-public_key-clause-past g c =
    let p = err_from_is_err_and c.from_residual-in_err-public_key.result c.from_residual-in_err-public_key.ensures.1 in
    let e = c.in_err-public_key.ensures in
    rw (p.1, p.2) ((key_refusal _ _ _ _ _ c.in_ok-algorithm.ensures.gives _ _ _ c.in_ok-nonce.ensures.gives (record { gives = e.gives; asks = e.asks; past = e.past })).past)

pub returns-in_err-serial-clause-gives : goal.returns-in_err-serial-clause-gives
returns-in_err-serial-clause-gives g c =
    let p = err_from_is_err_and c.from_residual-in_err-serial.result c.from_residual-in_err-serial.ensures.1 in
    let e = c.in_err-serial.ensures in
    rw (p.1, p.2) ((rest_refusal _ _ _ _ _ c.in_ok-algorithm.ensures.gives _ _ _ c.in_ok-nonce.ensures.gives _ _ _ c.in_ok-public_key.ensures.gives (record { gives = e.gives; asks = e.asks; past = e.past })).gives)

pub returns-in_err-serial-clause-asks : goal.returns-in_err-serial-clause-asks
returns-in_err-serial-clause-asks g c =
    let p = err_from_is_err_and c.from_residual-in_err-serial.result c.from_residual-in_err-serial.ensures.1 in
    let e = c.in_err-serial.ensures in
    rw (p.1, p.2) ((rest_refusal _ _ _ _ _ c.in_ok-algorithm.ensures.gives _ _ _ c.in_ok-nonce.ensures.gives _ _ _ c.in_ok-public_key.ensures.gives (record { gives = e.gives; asks = e.asks; past = e.past })).asks)

pub returns-in_err-serial-clause-past : goal.returns-in_err-serial-clause-past
returns-in_err-serial-clause-past g c =
    let p = err_from_is_err_and c.from_residual-in_err-serial.result c.from_residual-in_err-serial.ensures.1 in
    let e = c.in_err-serial.ensures in
    rw (p.1, p.2) ((rest_refusal _ _ _ _ _ c.in_ok-algorithm.ensures.gives _ _ _ c.in_ok-nonce.ensures.gives _ _ _ c.in_ok-public_key.ensures.gives (record { gives = e.gives; asks = e.asks; past = e.past })).past)

pub returns-clause-gives : goal.returns-clause-gives
unfolding after_at
returns-clause-gives g c =
    let name = c.in_ok-algorithm.ensures.gives in
    let nonce = c.in_ok-nonce.ensures.gives in
    let key = c.in_ok-public_key.ensures.gives in
    let rest = c.in_ok-serial.ensures.gives in
    record { value = rw (name.value, nonce.value, key.value, rest.value) refl; missing = rest.missing ∙ key.missing ∙ nonce.missing ∙ name.missing; outer = rest.outer ∙ key.outer ∙ nonce.outer ∙ name.outer }

pub returns-in_err-public_key-clause-later : goal.returns-in_err-public_key-clause-later
returns-in_err-public_key-clause-later g c = later_then _ _ _ c.in_ok-algorithm.ensures.later (later_then _ _ _ c.in_ok-nonce.ensures.later c.in_err-public_key.ensures.later)

pub returns-in_err-serial-clause-later : goal.returns-in_err-serial-clause-later
returns-in_err-serial-clause-later g c = later_then _ _ _ c.in_ok-algorithm.ensures.later (later_then _ _ _ c.in_ok-nonce.ensures.later (later_then _ _ _ c.in_ok-public_key.ensures.later c.in_err-serial.ensures.later))

pub returns-clause-later : goal.returns-clause-later
returns-clause-later g c = later_then _ _ _ c.in_ok-algorithm.ensures.later (later_then _ _ _ c.in_ok-nonce.ensures.later (later_then _ _ _ c.in_ok-public_key.ensures.later c.in_ok-serial.ensures.later))
