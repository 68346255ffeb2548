use Rattle.sshkey_krl.specs.Query.{query_of}
use Rattle.sshkey_krl.proofs.Sections.{keys_said, sha1s_said, sha256s_said}
use Rattle.sshkey_krl.proofs.section.SectionNumbered.ask_body.Goals as goal

pub returns-in-Keys : goal.returns-in-Keys
returns-in-Keys c = rw (c.in-Keys.is, keys_said (query_of c.args.query.now) c.args.bytes.now) c.any_of.ensures

pub returns-in-Sha1 : goal.returns-in-Sha1
returns-in-Sha1 c = rw (c.in-Sha1.is, sha1s_said (query_of c.args.query.now) c.args.bytes.now) c.any_of-in-Sha1.ensures

pub returns-in-Sha256 : goal.returns-in-Sha256
returns-in-Sha256 c = rw (c.in-Sha256.is, sha256s_said (query_of c.args.query.now) c.args.bytes.now) c.any_of-in-Sha256.ensures
