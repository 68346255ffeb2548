use Rattle.std.proofs.Common.{◌≡◌, ◌∙◌, [], arith, refl, rules}
use Rattle.std.proofs.lemmas.Result.{err_from_is_err_and}
use Rattle.sshkey_keys.specs.Keys.{key_of}
use Rattle.sshkey_calls.proofs.DraftNumbers.{last_part, wrong_authority, wrong_critical, wrong_key, wrong_key_id, wrong_part, wrong_principals}
use Rattle.sshkey_calls.proofs.draft_fields.fields_with.Goals as goal

pub returns-in_err-public_key : goal.returns-in_err-public_key
returns-in_err-public_key c =
    let d = c.args.draft.now in
    let p = err_from_is_err_and c.from_residual.result c.from_residual.ensures.1 in
    rw (p.1, p.2) (wrong_part _ _ _ (λ x. x) (wrong_key d) c.in_err-public_key.ensures)

pub returns-in_err-signature_key : goal.returns-in_err-signature_key
returns-in_err-signature_key c =
    let d = c.args.draft.now in
    let p = err_from_is_err_and c.from_residual-in_err-signature_key.result c.from_residual-in_err-signature_key.ensures.1 in
    rw (p.1, p.2) (wrong_part _ _ _ (λ _. (key_of c.in_ok-public_key.public_key, c.in_ok-public_key.ensures.0.0)) (wrong_authority d c.in_ok-public_key.ensures.1) c.in_err-signature_key.ensures)

pub returns-in_err-key_id : goal.returns-in_err-key_id
returns-in_err-key_id c =
    let d = c.args.draft.now in
    let p = err_from_is_err_and c.from_residual-in_err-key_id.result c.from_residual-in_err-key_id.ensures.1 in
    rw (p.1, p.2) (wrong_part _ _ _ (λ _. (key_of c.in_ok-public_key.public_key, c.in_ok-public_key.ensures.0.0)) (wrong_key_id d c.in_ok-public_key.ensures.1 c.in_ok-signature_key.ensures.1) c.in_err-key_id.ensures)

pub returns-in_err-valid_principals : goal.returns-in_err-valid_principals
returns-in_err-valid_principals c =
    let d = c.args.draft.now in
    let p = err_from_is_err_and c.from_residual-in_err-valid_principals.result c.from_residual-in_err-valid_principals.ensures.1 in
    rw (p.1, p.2) (wrong_part _ _ _ (λ _. (key_of c.in_ok-public_key.public_key, c.in_ok-public_key.ensures.0.0)) (wrong_principals d c.in_ok-public_key.ensures.1 c.in_ok-signature_key.ensures.1 c.in_ok-key_id.ensures.1) c.in_err-valid_principals.ensures)

pub returns-in_err-critical_options : goal.returns-in_err-critical_options
returns-in_err-critical_options c =
    let d = c.args.draft.now in
    let p = err_from_is_err_and c.from_residual-in_err-critical_options.result c.from_residual-in_err-critical_options.ensures.1 in
    rw (p.1, p.2) (wrong_part _ _ _ (λ _. (key_of c.in_ok-public_key.public_key, c.in_ok-public_key.ensures.0.0)) (wrong_critical d c.in_ok-public_key.ensures.1 c.in_ok-signature_key.ensures.1 c.in_ok-key_id.ensures.1 c.in_ok-valid_principals.ensures.1) c.in_err-critical_options.ensures)

pub returns-in_err-extensions : goal.returns-in_err-extensions
returns-in_err-extensions c =
    let d = c.args.draft.now in
    let p = err_from_is_err_and c.from_residual-in_err-extensions.result c.from_residual-in_err-extensions.ensures.1 in
    rw (p.1, p.2) (wrong_part _ _ _ (λ _. (key_of c.in_ok-public_key.public_key, c.in_ok-public_key.ensures.0.0)) (λ _. last_part d c.in_ok-public_key.ensures.1 c.in_ok-signature_key.ensures.1 c.in_ok-key_id.ensures.1 c.in_ok-valid_principals.ensures.1 c.in_ok-critical_options.ensures.1) c.in_err-extensions.ensures)

pub returns-in_err-nonce : goal.returns-in_err-nonce
returns-in_err-nonce c =
    let p = err_from_is_err_and c.from_residual-in_err-nonce.result c.from_residual-in_err-nonce.ensures.1 in
    rw (p.1, p.2) (wrong_part _ _ _ (λ _. (key_of c.in_ok-public_key.public_key, c.in_ok-public_key.ensures.0.0)) (λ some. absurd (omega (arith, some))) c.in_err-nonce.ensures)

pub returns : goal.returns
returns c =
    let empty : c.new-2.result ≡ [] = search rules in
    let d = c.args.draft.now in (
      record {
        nonce = c.in_ok-nonce.ensures.0;
        key = c.in_ok-public_key.ensures.0;
        serial = refl;
        certificate_type = c.requires.certificate_type;
        key_id = c.in_ok-key_id.ensures.0;
        valid_principals = c.in_ok-valid_principals.ensures.0;
        listed = c.requires.listed;
        valid_after = c.requires.valid_after;
        valid_before = c.requires.valid_before;
        window = c.requires.window;
        critical_options = c.in_ok-critical_options.ensures.0;
        extensions = c.in_ok-extensions.ensures.0;
        reserved = empty;
        signature_key = c.in_ok-signature_key.ensures.0;
      },
      last_part d c.in_ok-public_key.ensures.1 c.in_ok-signature_key.ensures.1 c.in_ok-key_id.ensures.1 c.in_ok-valid_principals.ensures.1 c.in_ok-critical_options.ensures.1 ∙ c.in_ok-extensions.ensures.1,
    )
