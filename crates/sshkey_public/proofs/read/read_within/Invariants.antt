use Rattle.std.specs.Io.KnownBytes.{Consumes}
use Rattle.sshkey_public.proofs.read.read_within.Given as goal

-- what was read so far
abbrev pub invariant-reads : goal.invariant-reads
invariant-reads g l = Consumes (g.R.Read.remaining l.fn.input) (g.R.Read.remaining l.input) l.bytes.items
