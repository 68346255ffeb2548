use Rattle.std.proofs.Common.{subst}
use Rattle.std.specs.Str.{IsUtf8}
use Rattle.sshkey_model.specs.Keys.{key_algorithm}
use Rattle.sshkey_keys.specs.Keys.{key_of}
use Rattle.sshkey_cert.proofs.Lines.{utf8_name}
use Rattle.sshkey_cert.proofs.certificate.lines.is_text_in_certificates.Goals as goal

pub returns : goal.returns
returns c = utf8_name (key_algorithm (key_of c.args.key.now)) (subst IsUtf8 c.algorithm_name.ensures c.algorithm_name.utf8)
