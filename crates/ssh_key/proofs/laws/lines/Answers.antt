use Rattle.sshkey_model.specs.Lines.{LinesAreApart, LinesDetermineValues, LinesReadBack}
use Rattle.ssh_key.proofs.laws.lines.Goals as goal

pub returns-clause-keys : goal.returns-clause-keys
unfolding LinesDetermineValues
returns-clause-keys c = c.one_key_line.ensures

pub returns-clause-certificates : goal.returns-clause-certificates
unfolding LinesDetermineValues
returns-clause-certificates c = c.one_certificate_line.ensures

pub returns-clause-apart : goal.returns-clause-apart
unfolding LinesAreApart
returns-clause-apart c = c.lines_apart.ensures

pub returns-clause-written_keys : goal.returns-clause-written_keys
unfolding LinesReadBack
returns-clause-written_keys c = c.read_back_key_line.ensures

pub returns-clause-written_certificates : goal.returns-clause-written_certificates
unfolding LinesReadBack
returns-clause-written_certificates c = c.read_back_certificate_line.ensures
