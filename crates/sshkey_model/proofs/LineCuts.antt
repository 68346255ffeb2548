-- A line is cut into its words in one way.
use Rattle.std.proofs.Common.{◌≡◌, ℕ, suc, List, [], ◌∷◌, ◌++◌, length, get_or, sym, ap, ◌∙◌, refl, arith}
use Rattle.std.proofs.lemmas.List.{length-append, append-nil}
use Rattle.std.proofs.Math.Seq.{get_or-append_seam}
use Rattle.sshkey_model.specs.Lines.{space, after_space, is_word_character, HasWordCharacters, IsWithout, IsCut}

-- a first word holds no space
pub without_space : (first : List ℕ) → HasWordCharacters first → IsWithout space first
without_space first h = λ i lt e. cc (sym (h i lt) ∙ ap is_word_character e)

-- a seam is a space
pub seam_space : (text xs ys : List ℕ) → IsWithout space text → text ≡ xs ++ (space ∷ ys) → ⊥
seam_space text xs ys h e =
    let here : get_or text (length xs) 0 ≡ space = ap (λ (l : List ℕ). get_or l (length xs) 0) e ∙ get_or-append_seam xs space ys 0 in
    h (length xs) (omega (arith, ap length e, length-append xs (space ∷ ys))) here

later : (c b : ℕ) (bs : List ℕ) → IsWithout c (b ∷ bs) → IsWithout c bs
later c b bs h = λ i lt. h (suc i) (omega arith)

-- what stands before the first such character, and after it
pub one_front : (c : ℕ) (a b x y : List ℕ) → IsWithout c a → IsWithout c b → a ++ (c ∷ x) ≡ b ++ (c ∷ y) → (a ≡ b) × (x ≡ y)
one_front c [] [] x y _ _ e = (refl, cc e)
one_front c [] (b ∷ bs) x y _ without e = let here : b ≡ c = cc e in absurd (without 0 (omega arith) here)
one_front c (a ∷ as') [] x y without _ e = let here : a ≡ c = cc e in absurd (without 0 (omega arith) here)
one_front c (a ∷ as') (b ∷ bs) x y h k e =
    let here : a ≡ b = cc e in
    let rest : as' ++ (c ∷ x) ≡ bs ++ (c ∷ y) = cc e in
    let more = one_front c as' bs x y (later c a as' h) (later c b bs k) rest in
    (ap (λ (d : ℕ). d ∷ as') here ∙ ap (λ (l : List ℕ). b ∷ l) more.0, more.1)

one_word : (a b x y : List ℕ) → IsWithout space a → IsWithout space b → a ++ after_space x ≡ b ++ after_space y → (a ≡ b) × (x ≡ y)
one_word a b [] [] h k e = (sym (append-nil a) ∙ e ∙ append-nil b, refl)
one_word a b [] (c ∷ y) h k e = absurd (seam_space a b (c ∷ y) h (sym (append-nil a) ∙ e))
one_word a b (c ∷ x) [] h k e = absurd (seam_space b a (c ∷ x) k (sym (append-nil b) ∙ sym e))
one_word a b (c ∷ x) (d ∷ y) h k e = one_front space a b (c ∷ x) (d ∷ y) h k e

pub one_cut : (text f w m first word comment : List ℕ) → IsCut text f w m → IsCut text first word comment → (f ≡ first) × (w ≡ word) × (m ≡ comment)
one_cut text f w m first word comment a b =
    let front = one_front space f first (w ++ after_space m) (word ++ after_space comment) (without_space f a.characters) (without_space first b.characters) (sym a.is ∙ b.is) in
    let back = one_word w word m comment a.one_word b.one_word front.1 in
    (front.0, back.0, back.1)
