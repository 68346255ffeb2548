use Rattle.std.proofs.Common.{rules}
use Rattle.sshkey_base.proofs.Accepted.{accepts_front}
use Rattle.sshkey_model.proofs.Grammars.{box_grammar, whole_spells}
use Rattle.sshkey_base.proofs.Boxes.{prefixed_asks, prefixed_gives}
use Rattle.sshkey_base.proofs.FilledBoxes.{boxed_stops}
use Rattle.sshkey_base.proofs.decode.decode_prefixed.Goals as goal

pub returns-clause-gives : goal.returns-clause-gives
returns-clause-gives g c = prefixed_gives _ _ _ _ _ g.T.Decode.means g.T.Decode.format.read g.met.T.Error.DecodeError.keeps_causes (search rules) _ _ _ c.read_prefixed.ensures.calls

pub returns-clause-past : goal.returns-clause-past
returns-clause-past g c = boxed_stops _ _ _ _ _ g.T.Decode.means g.T.Decode.format c.lawful.ensures g.met.T.Error.DecodeError.keeps_causes (search rules) (search rules) (search rules) (g.R.Reader.source c.args.reader.now) _ _ c.read_prefixed.ensures.calls

pub returns-clause-asks : goal.returns-clause-asks
returns-clause-asks g c = prefixed_asks _ _ _ _ _ g.T.Decode.means g.T.Decode.format.read g.met.T.Error.DecodeError.keeps_causes g.T.Decode.format.needs (search rules) _ _ _ c.read_prefixed.ensures.calls

pub returns-clause-accepts : goal.returns-clause-accepts
returns-clause-accepts g c = accepts_front (box_grammar (whole_spells c.lawful.ensures.grammar)) g.T.Decode.means _ _ _ _ (returns-clause-gives g c)
