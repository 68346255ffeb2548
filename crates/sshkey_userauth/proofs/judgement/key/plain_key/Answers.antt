use Rattle.sshkey_model.specs.Keys.{key_data_at}
use Rattle.sshkey_keys_ref.specs.Keys.{key_bytes}
use Rattle.sshkey_model.specs.Reading.{whole}
use Rattle.sshkey_userauth.proofs.Judging.{no_key}
use Rattle.sshkey_userauth.proofs.judgement.key.plain_key.Goals as goal

pub returns : goal.returns
returns c = no_key key_bytes c.args.bytes.now (whole key_data_at c.args.bytes.now) c.in-Err.error c.in-Err.ensures.keeps
