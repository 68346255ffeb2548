-- What a `SliceWriter` holds.
use Rattle.std.specs.Prelude.{◌≡◌, length, take, drop, Some}
use Rattle.sshkey_base.specs.Sink.{Sink}
use Rattle.sshkey_base.specs.declared.writer.SliceWriter.{SliceWriter}

-- the front of the slice, all of it room
abbrev pub slice_sink : SliceWriter → Sink
slice_sink w = record { written = take w.len w.slice.now; limit = Some (length w.slice.now) }

-- What follows all that is written now is what stood there before.
abbrev pub KeepsAfter : SliceWriter → SliceWriter → Type 0
KeepsAfter before w = drop w.len w.slice.now ≡ drop w.len before.slice.now
