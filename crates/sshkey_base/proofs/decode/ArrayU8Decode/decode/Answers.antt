use Rattle.std.proofs.Common.{rules}
use Rattle.sshkey_model.specs.Reading.{bytes_at}
use Rattle.sshkey_model.specs.Needs.{NoNeed}
use Rattle.sshkey_base.proofs.Boxes.{prefixed_stops_always}
use Rattle.sshkey_base.proofs.decode.ArrayU8Decode.decode.Goals as goal

pub returns-clause-past : goal.returns-clause-past
returns-clause-past g c = prefixed_stops_always _ _ _ _ _ (λ b. b) (bytes_at g.row.N) (search rules) (search rules) NoNeed (g.R.Reader.source c.args.reader.now) _ _ c.read_prefixed.ensures.calls
