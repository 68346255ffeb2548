use Rattle.sshkey_krl.specs.Query.{query_of}
use Rattle.sshkey_krl.proofs.Parts.{key_ids_said}
use Rattle.sshkey_krl.proofs.part.PartNumbered.ask_body.Goals as goal

pub returns-in-KeyIds : goal.returns-in-KeyIds
returns-in-KeyIds c = rw (c.in-KeyIds.is, key_ids_said (query_of c.args.query.now) c.args.bytes.now) c.any_of.ensures
