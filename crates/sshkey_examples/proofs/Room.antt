-- Writing into room that is bounded.
use Rattle.std.proofs.Common.{◌≡◌, ℕ, ◌≤◌, [], length, Some, inl, inr, refl, ap, subst, ◌∙◌, arith}
use Rattle.std.proofs.lemmas.List.{length-take}
use Rattle.std.specs.Prelude.{◌<◌, ◌+◌, IfSome}
use Rattle.ssh_key.specs.model.Parts.{Parts, BoxesFit, flat}
use Rattle.ssh_key.specs.types.encoding.Error.{Error}
use Rattle.ssh_key.specs.types.encoding.Error.TheVariants.{Length}
use Rattle.ssh_key.specs.types.encoding.SliceWriter.{SliceWriter}
use Rattle.ssh_key.specs.base.Sink.{Sink, NotWritten, Written, after}
use Rattle.ssh_key.specs.base.SliceWriter.{slice_sink}

-- nothing is written, and there is room for n bytes
abbrev empty_of : ℕ → Sink
empty_of n = record { written = []; limit = Some n }

-- a value that fits, and for which there is room, is not refused
pub has_room : (fault : Error → Type 0) (p : Parts) (n : ℕ) (s t : Sink) (e : Error) → s ≡ empty_of n → NotWritten fault p s e t → BoxesFit p → length (flat p) ≤ n → ⊥
unfolding NotWritten
has_room fault p n s t e is (inl long) fits enough = long.misfit fits
has_room fault p n s t e is (inr stopped) fits enough =
    let full = subst (λ (s : Sink). IfSome s.limit (λ m. m < length s.written + length (flat p))) is stopped.full in omega arith

-- what was written first is all that is written
pub wrote_all : (p : Parts) (n : ℕ) (s t : Sink) → s ≡ empty_of n → Written p s t → t.written ≡ flat p
unfolding after
wrote_all p n s t is written = rw (written.1, is) refl

same_limit : (m n : ℕ) → Some m ≡ Some n → m ≡ n
same_limit m n same = cc

-- what a slice took has room in it
pub had_room : (p : Parts) (n : ℕ) (s : Sink) (w : SliceWriter) → s ≡ empty_of n → Written p s (slice_sink w) → length (flat p) ≤ n
unfolding after
had_room p n s w is written =
    let all = ap length (wrote_all p n s (slice_sink w) is written) in
    let room = same_limit (length w.slice.now) n (ap (λ (t : Sink). t.limit) written.1 ∙ ap (λ (t : Sink). t.limit) is) in
    omega (arith, all, room, length-take w.len w.slice.now)

-- a slice refuses by `Length` only
pub says_length : (p : Parts) (s t : Sink) (e : Error) → NotWritten (λ d. d ≡ Length) p s e t → e ≡ Length
unfolding NotWritten
says_length p s t e (inl long) = long.is
says_length p s t e (inr stopped) = stopped.own
