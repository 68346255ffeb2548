use Rattle.std.proofs.Common.{refl, sym, ◌∙◌}
use Rattle.std.proofs.lemmas.Result.{err_from_is_err_and}
use Rattle.sshkey_base.proofs.Steps.{refuses_first}
use Rattle.sshkey_model.specs.CertificateNames.{certified_from}
use Rattle.sshkey_model.specs.Keys.{body_at}
use Rattle.sshkey_model.specs.Names.{Dsa}
use Rattle.sshkey_cert_values.specs.CertificateFields.{type_of, time_of, end_of}
use Rattle.sshkey_cert_ref.specs.Certificates.{certified_in, spelled_key_of}
use Rattle.sshkey_cert_ref.specs.Views.{texts_of, spelled_options_of}
use Rattle.sshkey_cert_ref.proofs.LengthPrefixed.{key_is}
use Rattle.sshkey_cert_ref.proofs.Certificates.{after_key_format, fields_at, fields_are, opening_format, known, certified_body, refused_body, named_key, key_bytes}
use Rattle.sshkey_cert_ref.proofs.walk.split_parts.Goals as goal

pub returns-in_err-opening : goal.returns-in_err-opening
unfolding fields_at
returns-in_err-opening c =
    let p = err_from_is_err_and c.from_residual.result c.from_residual.ensures.1 in
    rw (p.1, p.2, ← fields_are c.args.bytes.now) (refuses_first 0 _ (opening_format.read c.args.bytes.now) _ c.in_err-opening.ensures.gives)

pub returns-in_err-key : goal.returns-in_err-key
unfolding fields_at
returns-in_err-key c =
    let p = err_from_is_err_and c.from_residual-in_err-key.result c.from_residual-in_err-key.ensures.1 in
    let name = c.in_ok-opening.field-0.0 in
    rw (p.1, p.2, ← fields_are c.args.bytes.now, c.in_ok-opening.ensures.gives.value) (refuses_first 0 _ (body_at (certified_in name.name.now) _) _ (refused_body _ _ _ _ (known Dsa (certified_from name.name.now) name.form) c.in_err-key.ensures.front))

pub returns-in_err-grant : goal.returns-in_err-grant
unfolding fields_at
returns-in_err-grant c =
    let p = err_from_is_err_and c.from_residual-in_err-grant.result c.from_residual-in_err-grant.ensures.1 in
    let opening = c.in_ok-opening.field-0 in
    let named = known Dsa (certified_from opening.0.name.now) opening.0.form in
    let key = certified_body _ _ _ _ _ named c.in_ok-key.ensures.front.taken in
    rw (p.1, p.2, ← fields_are c.args.bytes.now, c.in_ok-opening.ensures.gives.value, key) (refuses_first 0 _ (after_key_format.read _) _ c.in_err-grant.ensures.gives)

pub returns : goal.returns
unfolding fields_at
returns c =
    let opening = c.in_ok-opening.field-0 in
    let named = known Dsa (certified_from opening.0.name.now) opening.0.form in
    let front = c.in_ok-key.ensures.front in
    let key = certified_body _ _ _ _ _ named front.taken in
    let g = c.in_ok-grant.field-0 in
    let critical = spelled_options_of g.1.1.0.0 in
    let extensions = spelled_options_of g.1.1.0.1 in
    let signer = spelled_key_of g.1.1.1.1.0 in (
      (
        record { nonce = opening.1.0.now; key = front.key; serial = g.0.0.0.0; certificate_type = type_of g.0.0.1.0; key_id = g.0.1.0.0.now; valid_principals = texts_of g.0.1.1.0; valid_after = time_of g.1.0.0.0; valid_before = end_of g.1.0.1.0; critical_options = critical.0; extensions = extensions.0; reserved = g.1.1.1.0.0.now; signature_key = signer.0 },
        record { critical_options = critical.1; extensions = extensions.1; signature_key = signer.1 },
      ),
      record { name = named_key _ _ _ _ _ named key; nonce = refl; key = key_bytes _ _ _ _ _ key front.all; serial = refl; cert_type = refl; key_id = refl; valid_principals = refl; valid_after = refl; valid_before = refl; critical_options = refl; extensions = refl; reserved = refl; signature_key = key_is g.1.1.1.1.0 },
      sym (fields_are c.args.bytes.now) ∙ rw (c.in_ok-opening.ensures.gives.value, key, c.in_ok-grant.ensures.gives.value) refl,
    )
