use Rattle.std.proofs.lemmas.Result.{err_from_is_err_and}
use Rattle.ssh_key.specs.keys.Keys.{key_of}
use Rattle.authority.specs.Issuance.{extensions_of}
use Rattle.authority.proofs.Certified.{certified, key_id_is_taken, no_bad_window, permitted, serial_is_taken}
use Rattle.authority.proofs.Drafts.{numbered, told}
use Rattle.authority.proofs.certify.certify.Goals as goal

pub returns-in_err-builder : goal.returns-in_err-builder
returns-in_err-builder g c =
    let p = err_from_is_err_and c.from_residual.result c.from_residual.ensures.1 in
    rw (p.1, p.2) (λ none some. absurd (no_bad_window _ _ none c.in_err-builder.ensures.begins))

pub returns-in_err-set_serial : goal.returns-in_err-set_serial
returns-in_err-set_serial g c =
    let p = err_from_is_err_and c.from_residual-in_err-set_serial.result c.from_residual-in_err-set_serial.ensures.1 in
    rw (p.1, p.2) (λ none some. absurd (serial_is_taken _ _ _ _ _ _ _ c.in_ok-builder.ensures.begins.1 c.in_err-set_serial.ensures.step.1))

pub returns-in_err-set_key_id : goal.returns-in_err-set_key_id
returns-in_err-set_key_id g c =
    let p = err_from_is_err_and c.from_residual-in_err-set_key_id.result c.from_residual-in_err-set_key_id.ensures.1 in
    let first = numbered _ _ _ _ _ _ _ c.in_ok-builder.ensures.begins.1 c.in_ok-set_serial.ensures.step in
    rw (p.1, p.2) (λ none some. absurd (key_id_is_taken _ _ _ _ _ _ _ _ first c.in_err-set_key_id.ensures.step.1))

pub returns-in_err-add_principals : goal.returns-in_err-add_principals
returns-in_err-add_principals g c =
    let p = err_from_is_err_and c.from_residual-in_err-add_principals.result c.from_residual-in_err-add_principals.ensures.1 in
    rw (p.1, p.2) (λ none some other. absurd (other c.in_err-add_principals.ensures))

pub returns-in_err-add_extensions : goal.returns-in_err-add_extensions
returns-in_err-add_extensions g c =
    let p = err_from_is_err_and c.from_residual-in_err-add_extensions.result c.from_residual-in_err-add_extensions.ensures.1 in
    rw (p.1, p.2) (λ none some other. absurd (other c.in_err-add_extensions.ensures))

pub sign-requires : goal.sign-requires
sign-requires g c =
    let is = told _ _ _ _ _ (extensions_of c.args.request) _ _ _ _ _ _ _ c.in_ok-builder.ensures.begins.1 c.in_ok-set_serial.ensures.step c.in_ok-set_key_id.ensures.step c.in_ok-add_principals.ensures c.in_ok-add_extensions.ensures in
    record { permits = permitted (g.S.SigningKey.permits c.args.signer.now) (key_of (g.S.SigningKey.public_of c.args.signer.now)) c.args.request _ _ _ is (c.requires c.in_ok-builder.ensures.begins.0) }

pub returns : goal.returns
returns g c =
    let is = told _ _ _ _ _ (extensions_of c.args.request) _ _ _ _ _ _ _ c.in_ok-builder.ensures.begins.1 c.in_ok-set_serial.ensures.step c.in_ok-set_key_id.ensures.step c.in_ok-add_principals.ensures c.in_ok-add_extensions.ensures in
    certified _ _ (g.S.SigningKey.refuses c.args.signer.now) c.args.request _ _ _ is c.sign.result c.sign.ensures.unnamed c.sign.ensures.signed c.sign.ensures.comment c.sign.ensures.valid c.sign.ensures.refused
