use Rattle.std.proofs.Common.{◌≡◌, true, refl}
use Rattle.std.proofs.lemmas.Result.{err_from_is_err_and}
use Rattle.sshkey_base.specs.Causes.{cause}
use Rattle.sshkey_model.specs.Certificates.{certificate_at}
use Rattle.sshkey_model.specs.Reading.{whole}
use Rattle.sshkey_terms.specs.Slices.{is_taken}
use Rattle.sshkey_cert_ref.specs.CertificateRef.{certificate_bytes}
use Rattle.sshkey_cert_ref.proofs.Certificates.{found_whole, no_fields, no_signature, keeps_none, spells_none, spells, spelled_is, front_is, leaves}
use Rattle.sshkey_cert_ref.proofs.certificate_ref.CertificateRef.from_bytes.Goals as goal

pub returns-in_err-parts-clause-keeps : goal.returns-in_err-parts-clause-keeps
returns-in_err-parts-clause-keeps c =
    let p = err_from_is_err_and c.from_residual.result c.from_residual.ensures.1 in
    rw (p.1, p.2) (keeps_none certificate_bytes cause c.args.bytes.now _ (no_fields c.args.bytes.now c.in_err-parts.ensures))

pub returns-in_err-parts-clause-accepts : goal.returns-in_err-parts-clause-accepts
returns-in_err-parts-clause-accepts c =
    let p = err_from_is_err_and c.from_residual.result c.from_residual.ensures.1 in
    rw p.1 (spells_none c.args.bytes.now (no_fields c.args.bytes.now c.in_err-parts.ensures))

pub returns-in_err-signature-clause-keeps : goal.returns-in_err-signature-clause-keeps
returns-in_err-signature-clause-keeps c =
    let p = err_from_is_err_and c.from_residual-in_err-signature.result c.from_residual-in_err-signature.ensures.1 in
    let parts = c.in_ok-parts.ensures in
    rw (p.1, p.2) (keeps_none certificate_bytes cause c.args.bytes.now _ (no_signature c.args.bytes.now c.in_ok-parts.rest.now parts.0 parts.2 c.in_err-signature.ensures))

pub returns-in_err-signature-clause-accepts : goal.returns-in_err-signature-clause-accepts
returns-in_err-signature-clause-accepts c =
    let p = err_from_is_err_and c.from_residual-in_err-signature.result c.from_residual-in_err-signature.ensures.1 in
    let parts = c.in_ok-parts.ensures in
    rw p.1 (spells_none c.args.bytes.now (no_signature c.args.bytes.now c.in_ok-parts.rest.now parts.0 parts.2 c.in_err-signature.ensures))

pub slice_bounds-result-count : goal.slice_bounds-result-count
slice_bounds-result-count c = let parts = c.in_ok-parts.ensures in leaves c.args.bytes.now c.in_ok-parts.rest.now parts.0 parts.2

pub invariant_of-result : goal.invariant_of-result
invariant_of-result c =
    let parts = c.in_ok-parts.ensures in
    let signature = c.in_ok-signature.ensures in
    let found = found_whole c.args.bytes.now c.in_ok-parts.rest.now parts.0 signature.0 parts.2 signature.2 in
    let is = spelled_is c.args.bytes.now _ found in
    record {
      form = rw found refl;
      before = rw is (front_is c.args.bytes.now c.in_ok-parts.rest.now parts.0 parts.2);
      fields = rw is parts.1;
      last = rw is signature.1;
    }

pub returns-clause-accepts : goal.returns-clause-accepts
returns-clause-accepts c =
    let parts = c.in_ok-parts.ensures in
    let signature = c.in_ok-signature.ensures in
    let found = found_whole c.args.bytes.now c.in_ok-parts.rest.now parts.0 signature.0 parts.2 signature.2 in
    let form : is_taken (whole certificate_at c.args.bytes.now) ≡ true = rw found refl in
    spells c.args.bytes.now form
