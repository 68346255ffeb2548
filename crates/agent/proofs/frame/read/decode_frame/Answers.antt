use Rattle.std.proofs.Common.{rules}
use Rattle.ssh_key.specs.base.Causes.{cause}
use Rattle.ssh_key.proofs.Boxes.{boxed_stops, prefixed_asks, prefixed_gives}
use Rattle.agent.specs.Records.{message}
use Rattle.agent.proofs.Lawful.{message_lawful}
use Rattle.agent.proofs.frame.read.decode_frame.Goals as goal

pub returns-clause-gives : goal.returns-clause-gives
returns-clause-gives g c = prefixed_gives _ _ _ cause _ g.M.Framed.means (message g.M.Kind.Kind.kind_from g.M.Framed.body).read (search rules) (search rules) _ _ _ c.read_prefixed.ensures.calls

pub returns-clause-asks : goal.returns-clause-asks
returns-clause-asks g c =
    let contents = message g.M.Kind.Kind.kind_from g.M.Framed.body in
    prefixed_asks _ _ _ cause _ g.M.Framed.means contents.read (search rules) contents.needs (search rules) _ _ _ c.read_prefixed.ensures.calls

pub returns-clause-past : goal.returns-clause-past
returns-clause-past g c = boxed_stops _ _ _ cause _ g.M.Framed.means (message g.M.Kind.Kind.kind_from g.M.Framed.body) (message_lawful g.M.Kind.Kind.kind_from c.lawful_bodies.ensures) (search rules) (search rules) (search rules) (search rules) (g.R.Reader.source c.args.reader.now) _ _ c.read_prefixed.ensures.calls
