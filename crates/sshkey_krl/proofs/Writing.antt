-- How what is added to a list is written, and how many bytes it has.
use Rattle.std.proofs.Common.{◌≡◌, ◌+◌, ◌*◌, ℕ, List, [], ◌∷◌, length, Result, Ok, Err, refl, sym, ap, subst, ◌∙◌, arith}
use Rattle.std.specs.Int.{w32, w64}
use Rattle.sshkey_base.proofs.Writing.{after_both, length_both, length_box, length_bytes, length_number32, length_number64, not_later}
use Rattle.sshkey_base.specs.Sink.{Encodes, NotWritten, Sink, Written, after}
use Rattle.sshkey_base.specs.declared.encoding.Error.{Error}
use Rattle.sshkey_base.specs.declared.encoding.Error.TheVariants.{Length}
use Rattle.sshkey_model.proofs.CombinedReaders.{fits_both}
use Rattle.sshkey_model.specs.Parts.{BoxesFit, Parts, ◌&◌, bytes, each, flat, number}
use Rattle.sshkey_model.specs.Texts.{string}
use Rattle.sshkey_krl.specs.Writing.{header}

pub step : (fault : Error → Type 0) (p q : Parts) (s t u : Sink) (r : Result (Unit {0}) Error) → Written p s t → Encodes fault q t r u → Encodes fault (p & q) s r u
step fault p q s t u (Ok x) w h = (fits_both p q w.0 h.0, h.1 ∙ ap (after q) w.1 ∙ sym (after_both p q s))
step fault p q s t u (Err e) w h = not_later fault p q s u e (subst (λ (z : Sink). NotWritten fault q z e u) w.1 h)

-- ---- serial numbers

pub serials_fit : (ns : List ℕ) → BoxesFit (each (number w64) ns)
unfolding BoxesFit
serials_fit [] = tt
serials_fit (n ∷ ns) = (tt, serials_fit ns)

pub serials_length : (ns : List ℕ) → 8 * length ns ≡ length (flat (each (number w64) ns))
unfolding flat
serials_length [] = refl
serials_length (n ∷ ns) = omega (arith, serials_length ns, length_both (number w64 n) (each (number w64) ns), length_number64 n)

pub ruleset measured = (serials_fit, serials_length)

-- ---- what stands before the sections

module _ (version date : ℕ) (comment : List ℕ) where
  pub header_fit : BoxesFit (string comment) → BoxesFit (header version date comment)
  unfolding BoxesFit flat
  header_fit fit = ((tt, tt), ((tt, tt), (tt, ((omega arith, tt), fit))))

  pub header_misfit : {e : Error} → (BoxesFit (string comment) → ⊥) × (e ≡ Length) → (BoxesFit (header version date comment) → ⊥) × (e ≡ Length)
  unfolding BoxesFit
  header_misfit h = (λ fit. h.0 fit.1.1.1.1, h.1)

  pub header_length : 40 + length (flat (string comment)) ≡ length (flat (header version date comment))
  header_length =
      let magic = number w64 0x5353484b524c0a00 in
      let texts = string [] & string comment in
      omega (
        arith,
        length_both (magic & number w32 1) ((number w64 version & number w64 date) & number w64 0 & texts),
        length_both magic (number w32 1),
        length_both (number w64 version & number w64 date) (number w64 0 & texts),
        length_both (number w64 version) (number w64 date),
        length_both (number w64 0) texts,
        length_both (string []) (string comment),
        length_box (bytes []),
        length_bytes [],
        length_number64 0x5353484b524c0a00,
        length_number64 version,
        length_number64 date,
        length_number64 0,
        length_number32 1,
      )
