-- Examples of armours.
use Rattle.std.proofs.Common.{◌≡◌, ℕ, List, [], ◌∷◌, ◌++◌, ap, arith, inl, inr, refl, subst, ◌∙◌}
use Rattle.std.specs.Prelude.{codes, get_or}
use Rattle.sshkey_model.specs.Lines.{IsWithout}
use Rattle.sshkey_model.proofs.LineCuts.{one_front}
use Rattle.sshkey_model.proofs.LineTests.{lacks}
use Rattle.sshkey_base64.specs.Armour.{Encloses, dash, first_line, last_line}
use Rattle.sshkey_base64.proofs.ArmourBodies.{after_dash, enclosed, has, with_end}

-- ---- what is none

-- What follows the first line is no line end.
pub no_end : (text body : List ℕ) → get_or text 29 0 ≡ 32 → Encloses text body → ⊥
no_end text body other e =
    let rest = body ++ (codes "\n" ++ (last_line ++ e.after)) in
    elim e.is_end [
      | inl a ↦ let here : get_or text 29 0 ≡ 10 = ap (λ (l : List ℕ). get_or l 29 0) (e.is ∙ ap (λ (l : List ℕ). first_line ++ (l ++ rest)) a) in omega (arith, other, here)
      | inr a ↦ let here : get_or text 29 0 ≡ 13 = ap (λ (l : List ℕ). get_or l 29 0) (e.is ∙ ap (λ (l : List ℕ). first_line ++ (l ++ rest)) a) in omega (arith, other, here)
    ]

-- No line begins with the first dash.
pub no_line : (text before rest body : List ℕ) → text ≡ first_line ++ (codes "\n" ++ (before ++ (dash ∷ rest))) → IsWithout dash before → IsWithout 10 before → Encloses text body → ⊥
no_line text before rest body is none one e =
    let same = one_front dash before (body ++ codes "\n") rest (after_dash ++ e.after) none (with_end body e.no_dash) (enclosed text (codes "\n" ++ (before ++ (dash ∷ rest))) (before ++ (dash ∷ rest)) body is (codes "\n", inl refl, refl) e) in
    has 10 body [] (subst (λ (l : List ℕ). IsWithout 10 l) same.0 one)

pub no_padding : Encloses (codes "-----BEGIN SSH SIGNATURE-----\nQQ\n-----END SSH SIGNATURE-----") (codes "QQ")
no_padding = record { end = codes "\n"; after = []; is_end = inl refl; is = refl; no_dash = lacks dash (codes "QQ") refl }

pub more_bits : Encloses (codes "-----BEGIN SSH SIGNATURE-----\nQR==\n-----END SSH SIGNATURE-----") (codes "QR==")
more_bits = record { end = codes "\n"; after = []; is_end = inl refl; is = refl; no_dash = lacks dash (codes "QR==") refl }
