use Rattle.sshkey_base.specs.Causes.{cause}
use Rattle.sshkey_krl.specs.Query.{query_of}
use Rattle.sshkey_krl.proofs.Krls.{answered, never}
use Rattle.sshkey_krl.proofs.krl_ref.KrlRef.answers.Goals as goal

pub returns : goal.returns
returns c = answered (query_of c.args.query.now) cause c.args.self.now.bytes.now _ c.args.self.now.form c.in-Ok.ensures

pub unreachable-requires : goal.unreachable-requires
unreachable-requires c = never (query_of c.args.query.now) cause c.args.self.now.bytes.now _ c.args.self.now.form c.in-Err.ensures
