use Rattle.sshkey_base.specs.Causes.{cause}
use Rattle.sshkey_model.specs.Terms.{◌then◌}
use Rattle.sshkey_terms.proofs.Lawful.{checked_read}
use Rattle.sshkey_terms.proofs.Stopping.{mapped_stops}
use Rattle.sshkey_sshsig.specs.SshSignatureFormats.{opening_format, statement_format, ssh_signature_of_parts, ssh_signature_format}
use Rattle.sshkey_sshsig.proofs.sshsig.wire.SshSigDecode.decode.Goals as goal

pub returns-in_err-opening-clause-past : goal.returns-in_err-opening-clause-past
returns-in_err-opening-clause-past g c =
    let parts = opening_format then statement_format in
    mapped_stops parts.delimited_at parts.needs parts.overruns (g.R.Reader.source c.args.reader.now) ssh_signature_of_parts ssh_signature_format.delimited_at cause c.from_residual.result c.in_err-opening.field-0.0 c.from_residual.ensures.1 (checked_read ssh_signature_of_parts parts.delimited_at) c.in_err-opening.ensures.past
