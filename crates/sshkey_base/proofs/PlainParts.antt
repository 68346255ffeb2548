-- Bytes one after the other are written as bytes.
use Rattle.std.proofs.Common.{◌≡◌, ℕ, List, true, Result, Ok, Err, IsErrAnd, subst, sym, ap, ◌∙◌, inl, inr}
use Rattle.sshkey_model.specs.Parts.{Parts, nothing, bytes, number, box, ◌&◌, flat, BoxesFit, are_bytes}
use Rattle.sshkey_model.proofs.CombinedReaders.{fits_both, fits_bytes}
use Rattle.sshkey_model.proofs.Blobs.{flat_bytes}
use Rattle.sshkey_base.specs.declared.encoding.Error.{Error}
use Rattle.sshkey_base.specs.Sink.{Sink, Written, Encodes, NotWritten, after}
use Rattle.sshkey_base.proofs.Writing.{not_first, not_later, after_both}

-- There is no number and no box.
abbrev pub ArePlain : Parts → Type 0
ArePlain nothing = Unit {0}
ArePlain (bytes b) = Unit {0}
ArePlain (number w n) = ⊥
ArePlain (box p) = ⊥
ArePlain (p & q) = ArePlain p × ArePlain q

plain_fit : (p : Parts) → ArePlain p → BoxesFit p
unfolding BoxesFit
plain_fit nothing plain = tt
plain_fit (bytes b) plain = tt
plain_fit (number w n) plain = absurd plain
plain_fit (box p) plain = absurd plain
plain_fit (p & q) plain = (plain_fit p plain.0, plain_fit q plain.1)

pub plain_parts : (fault : Error → Type 0) (p : Parts) (b : List ℕ) (s t : Sink) (r : Result (Unit {0}) Error) → ArePlain p → flat p ≡ b → Encodes fault p s r t → Encodes fault (bytes b) s r t
unfolding flat NotWritten after
plain_parts fault p b s t (Ok x) plain is h = (fits_bytes b (subst (λ (z : List ℕ). are_bytes z ≡ true) is (flat_bytes p h.0.range)), rw (← is) h.1)
plain_parts fault p b s t (Err e) plain is h =
    elim h [
      | inl long ↦ absurd (long.misfit (plain_fit p plain))
      | inr stopped ↦ inr (rw (← is) stopped)
    ]

-- ---- one part after the other

-- the first is added, and the others decide
pub encodes_later : (fault : Error → Type 0) (p q : Parts) (s t u : Sink) (r : Result (Unit {0}) Error) → Written p s t → Encodes fault q t r u → Encodes fault (p & q) s r u
encodes_later fault p q s t u (Ok x) w h = (fits_both p q w.0 h.0, h.1 ∙ ap (after q) w.1 ∙ sym (after_both p q s))
encodes_later fault p q s t u (Err e) w h = not_later fault p q s u e (rw w.1 at h)

-- the first is refused, and the error is handed on
pub encodes_first : (fault : Error → Type 0) (p q : Parts) (s t : Sink) (e : Error) (r : Result (Unit {0}) Error) → IsErrAnd r (λ x. x ≡ e) → NotWritten fault p s e t → Encodes fault (p & q) s r t
encodes_first fault p q s t e (Ok x) is h = absurd is
encodes_first fault p q s t e (Err x) is h = not_first fault p q s t x (rw is h)
