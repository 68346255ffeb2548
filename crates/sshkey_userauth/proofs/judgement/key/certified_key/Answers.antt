use Rattle.sshkey_keys.specs.Keys.{key_of}
use Rattle.sshkey_model.specs.Certificates.{certificate_at}
use Rattle.sshkey_model.specs.Reading.{whole}
use Rattle.sshkey_userauth.proofs.Judging.{certified_is, no_certified_key}
use Rattle.sshkey_userauth.proofs.judgement.key.certified_key.Goals as goal

pub returns-in-Ok-public_key : goal.returns-in-Ok-public_key
returns-in-Ok-public_key c = certified_is c.args.bytes.now c.in-Ok.certificate (key_of c.in-Ok-public_key.key) c.in-Ok.ensures.keeps c.in-Ok-public_key.ensures.value

pub returns : goal.returns
returns c = no_certified_key c.args.bytes.now (whole certificate_at c.args.bytes.now) c.in-Err.error c.in-Err.ensures.keeps
