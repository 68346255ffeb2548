use Rattle.std.proofs.Common.{arith}
use Rattle.sshkey_public.proofs.Filling.{room_is_left, same_slice, fills}
use Rattle.sshkey_public.proofs.line_writer.LineWriter.fill.Goals as goal

pub unreachable-requires : goal.unreachable-requires
unreachable-requires g c = room_is_left _ _ _ c.args.self.now.slice.now _ _ _ c.requires.boxes (omega (arith, c.requires.empty, c.requires.counted)) c.in_default.ensures

pub returns-clause-same_reference : goal.returns-clause-same_reference
returns-clause-same_reference g c = same_slice _ _ _ c.args.self.now.slice.now c.encode.new.writer.slice.now _ _ c.in-Ok.ensures

pub returns-clause-filled : goal.returns-clause-filled
returns-clause-filled g c = fills _ _ _ c.args.self.now.slice.now c.encode.new.writer.slice.now _ _ c.requires.empty c.requires.counted c.encode.new.writer.within c.in-Ok.ensures
