-- A string whose length and bytes are written at once.
use Rattle.std.proofs.Common.{◌≡◌, ℕ, ◌<◌, ◌^◌, List, true, ◌++◌, length, Result, Ok, Err, refl, ap, ◌∙◌, inr}
use Rattle.std.specs.Int.{w32, to_be_bytes}
use Rattle.sshkey_model.specs.Parts.{bytes, flat, are_bytes}
use Rattle.sshkey_model.specs.Texts.{string}
use Rattle.sshkey_model.proofs.CombinedReaders.{fits_box, fits_bytes}
use Rattle.sshkey_base.specs.declared.encoding.Error.{Error}
use Rattle.sshkey_base.specs.Sink.{Sink, Writes, after, NotWritten, Encodes}

pub whole_string : (fault : Error → Type 0) (n b : List ℕ) (s t : Sink) (r : Result (Unit {0}) Error) → b ≡ to_be_bytes w32 (length n) ++ n → length n < 2 ^ 32 → are_bytes n ≡ true → Writes fault s b r t → Encodes fault (string n) s r t
unfolding flat NotWritten after
whole_string fault n b s t (Ok x) is short are h =
    let written : t.written ≡ s.written ++ flat (string n) = h.added ∙ ap (λ (l : List ℕ). s.written ++ l) is in
    (fits_box (bytes n) short (fits_bytes n are), rw (← written, ← h.limit) refl)
whole_string fault n b s t (Err e) is short are h = inr (rw is at h)
