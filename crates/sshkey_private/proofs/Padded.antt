-- A value and its padding are read as they are spelled.
use Rattle.std.proofs.Common.{◌≡◌, ℕ, ◌+◌, ◌%◌, ◌<◌, eqb, ltb, Bool, true, false, cond, List, [], ◌++◌, length, Ok, Err, bytes_eq, refl, sym, ap, subst, ◌∙◌, arith}
use Rattle.std.proofs.lemmas.Bool.{eqb-true, eq-eqb, ltb-true, lt-ltb}
use Rattle.std.proofs.lemmas.Slice.Eq.{bytes_eq-Decides}
use Rattle.sshkey_model.specs.Reading.{Length, FormatEncoding, ◌>>=◌, to_end}
use Rattle.sshkey_model.specs.PrivateKeys.{rising}
use Rattle.sshkey_model.proofs.CombinedReaders.{bind_ok, met, ok_is}
use Rattle.sshkey_model.proofs.Grammars.{all_end, to_the_end, AllEnd}
use Rattle.sshkey_model.specs.Formats.{Format, IsFormat}
use Rattle.sshkey_model.specs.Overruns.{AreLengths}
use Rattle.sshkey_ciphers.specs.Formats.{end_padding_below}
use Rattle.sshkey_ciphers.proofs.Ciphertexts.{rising_length}
use Rattle.sshkey_private.specs.PrivateParts.{SpellsPadded, padded_below, padded_format}

module _ {A : Type 0} (limit : ℕ) (inner : Format A) (laws : IsFormat inner) (all : AllEnd inner.read inner.delimited_at) where
  ended : (x : A) (rest : List ℕ) (y : A) → end_padding_below limit x rest ≡ Ok y → (length rest < limit) × (rest ≡ rising 1 (length rest)) × (x ≡ y)
  ended x rest y e =
      let few = met (ltb (length rest) limit) Length (cond (bytes_eq rest (rising 1 (length rest))) (Ok x) (Err FormatEncoding)) y e in
      let same = met (bytes_eq rest (rising 1 (length rest))) FormatEncoding (Ok x) y few.1 in
      (ltb-true _ _ few.0, (bytes_eq-Decides rest (rising 1 (length rest))).0 same.0, ok_is x y same.1)

  pub padded_takes : (b : List ℕ) (value : A) (rest : List ℕ) → to_end (padded_below limit inner.read) b ≡ Ok (value, rest) → SpellsPadded limit inner.Spells value b × (rest ≡ [])
  unfolding padded_below
  padded_takes b value rest e =
      let x = bind_ok (padded_below limit inner.read b) (λ x. Ok (x, [])) (value, rest) e in
      let both : (x.0, []) ≡ (value, rest) = ok_is (x.0, []) (value, rest) x.2 in
      let blocks = met (eqb (length b % 8) 0) Length (inner.read b >>= λ y. end_padding_below limit y.0 y.1) x.0 x.1 in
      let y = bind_ok (inner.read b) (λ y. end_padding_below limit y.0 y.1) x.0 blocks.1 in
      let end = ended y.0.0 y.0.1 x.0 y.2 in
      let t = (all_end laws.grammar all).takes b y.0.0 y.0.1 y.1 in
      let is : y.0.0 ≡ value = end.2 ∙ ap (λ (p : A × List ℕ). p.0) both in (
        subst (λ (v : A). SpellsPadded limit inner.Spells v b) is (record { front = t.0; padding = length y.0.1; spelled = t.1; all = t.2 ∙ ap (λ (l : List ℕ). t.0 ++ l) end.1; few = end.0; blocks = eqb-true _ _ blocks.0 }),
        sym (ap (λ (p : A × List ℕ). p.1) both),
      )

  pub padded_alone : (value : A) (b : List ℕ) → SpellsPadded limit inner.Spells value b → to_end (padded_below limit inner.read) b ≡ Ok (value, [])
  unfolding padded_below
  padded_alone value b s =
      let pad = rising 1 s.padding in
      let size : length pad ≡ s.padding = rising_length 1 s.padding in
      let blocks : eqb (length b % 8) 0 ≡ true = eq-eqb _ _ s.blocks in
      let few : ltb (length pad) limit ≡ true = lt-ltb _ _ (omega (arith, size, s.few)) in
      let same : bytes_eq pad (rising 1 (length pad)) ≡ true = (bytes_eq-Decides pad (rising 1 (length pad))).1 (ap (rising 1) (sym size)) in
      let read : inner.read b ≡ Ok (value, pad) = ap inner.read s.all ∙ (all_end laws.grammar all).again value s.front pad s.spelled in
      rw (blocks, read, few, same) refl

  -- the lengths are those of the value
  pub padded_lengths : AreLengths (to_end (padded_below limit inner.read)) inner.overruns
  unfolding padded_below
  padded_lengths b m o = go (eqb (length b % 8) 0)
    where
      go : (blocks : Bool) → ◌>>=◌ {B = A × List ℕ} (cond blocks (inner.read b >>= λ x. end_padding_below limit x.0 x.1) (Err Length)) (λ x. Ok (x, [])) ≡ Err Length
      go true = rw (laws.lengths b m o) refl
      go false = refl

  pub padded_lawful : IsFormat (padded_format limit inner)
  padded_lawful = record { grammar = to_the_end padded_takes padded_alone; lengths = padded_lengths }
