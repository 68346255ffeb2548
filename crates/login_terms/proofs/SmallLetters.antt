-- A pattern without capital letters matches a text in small letters exactly if it matches the text
-- with its letters in either case; and a pattern with one matches no text in small letters.
use Rattle.std.proofs.Common.{◌≡◌, ℕ, List, [], ◌∷◌, length, take, drop, slice_index, inl, inr, refl, sym, ap, subst, ◌∙◌, arith, map}
use Rattle.std.specs.Char.{to_ascii_lowercase}
use Rattle.std.specs.List.{All}
use Rattle.std.proofs.lemmas.List.{take-append-drop, take-map, drop-map, map-append, length-map}
use Rattle.std.proofs.lemmas.List.Elements.{All-nil, All-cons, All-head, All-tail}
use Rattle.std.proofs.lemmas.Str.Ascii.{lowercase-lowercase}
use Rattle.std.proofs.Math.Seq.{drop-append_seam, take-append_seam}
use Rattle.sshkey_matching.specs.Patterns.{Matches, StandsFor}
use Rattle.login_terms.specs.Questions.{IsSmall}

abbrev as_it_is : ℕ → ℕ
as_it_is c = c

abbrev lowered : List ℕ → List ℕ
lowered text = map to_ascii_lowercase text

-- ---- one character

-- the one of a part in small letters
the_one : (part : List ℕ) (x : ℕ) → lowered part ≡ x ∷ [] → (y : ℕ) × (part ≡ y ∷ []) × (to_ascii_lowercase y ≡ x)
the_one [] x is = absurd (omega (arith, ap length is))
the_one (y ∷ []) x is = (y, refl, ap (λ (l : List ℕ). slice_index l 0) is)
the_one (y ∷ z ∷ part) x is = absurd (omega (arith, ap length is))

either : (c : ℕ) (part : List ℕ) → StandsFor as_it_is c (lowered part) → StandsFor to_ascii_lowercase c part
either c part (inl is) = inl is
either c part (inr (inl q)) = inr (inl (q.0, sym (length-map part to_ascii_lowercase) ∙ q.1))
either c part (inr (inr s)) =
    let one = the_one part s.0 s.1 in
    inr (inr (one.0, one.1, ap to_ascii_lowercase (s.2 ∙ sym one.2) ∙ lowercase-lowercase one.0))

is_small : (c : ℕ) (part : List ℕ) → StandsFor as_it_is c (lowered part) → IsSmall c
is_small c part (inl is) = subst IsSmall (sym is) refl
is_small c part (inr (inl q)) = subst IsSmall (sym q.0) refl
is_small c part (inr (inr s)) =
    let one = the_one part s.0 s.1 in
    let same : c ≡ to_ascii_lowercase one.0 = s.2 ∙ sym one.2 in
    ap to_ascii_lowercase same ∙ lowercase-lowercase one.0 ∙ sym same

own : (c : ℕ) (part : List ℕ) → IsSmall c → StandsFor to_ascii_lowercase c part → StandsFor as_it_is c (lowered part)
own c part small (inl is) = inl is
own c part small (inr (inl q)) = inr (inl (q.0, length-map part to_ascii_lowercase ∙ q.1))
own c part small (inr (inr s)) = inr (inr (to_ascii_lowercase s.0, ap lowered s.1, sym small ∙ s.2))

-- ---- a pattern

nothing : (text : List ℕ) → lowered text ≡ [] → text ≡ []
nothing [] e = refl
nothing (c ∷ text) e = absurd (omega (arith, ap length e))

pub in_either : (pattern text : List ℕ) → Matches as_it_is pattern (lowered text) → All IsSmall pattern × Matches to_ascii_lowercase pattern text
in_either [] text e = (All-nil IsSmall, nothing text e)
in_either (c ∷ pattern) text m =
    let n : ℕ = length m.0 in
    let first : m.0 ≡ lowered (take n text) = sym (take-append_seam m.0 m.1) ∙ ap (take n) (sym m.2) ∙ take-map to_ascii_lowercase n text in
    let rest : m.1 ≡ lowered (drop n text) = sym (drop-append_seam m.0 m.1) ∙ ap (drop n) (sym m.2) ∙ drop-map to_ascii_lowercase n text in
    let stands = subst (StandsFor as_it_is c) first m.3 in
    let more = in_either pattern (drop n text) (subst (Matches as_it_is pattern) rest m.4) in (
      All-cons IsSmall c pattern (is_small c (take n text) stands) more.0,
      (take n text, drop n text, sym (take-append-drop n text), either c (take n text) stands, more.1),
    )

pub in_small : (pattern text : List ℕ) → All IsSmall pattern → Matches to_ascii_lowercase pattern text → Matches as_it_is pattern (lowered text)
in_small [] text small e = ap lowered e
in_small (c ∷ pattern) text small m = (
  lowered m.0,
  lowered m.1,
  ap lowered m.2 ∙ map-append to_ascii_lowercase m.0 m.1,
  own c m.0 (All-head IsSmall c pattern small) m.3,
  in_small pattern m.1 (All-tail IsSmall c pattern small) m.4,
)
