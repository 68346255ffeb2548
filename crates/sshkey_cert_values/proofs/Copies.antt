-- Copies of options, and options that are made of pairs.
use Rattle.std.proofs.Common.{◌≡◌, List, [], ◌∷◌, map, refl}
use Rattle.std.specs.Prelude.{String, string_bytes}
use Rattle.std.specs.List.{AllZip}
use Rattle.sshkey_cert_values.specs.CertificateFields.{option_of}

pub copied : {Z : Type 0} (es fs : List (String Z × String Z)) → AllZip (λ p q. (string_bytes q.0 ≡ string_bytes p.0) × (string_bytes q.1 ≡ string_bytes p.1)) es fs → map option_of fs ≡ map option_of es
copied [] [] h = refl
copied [] (f ∷ fs) h = absurd h
copied (e ∷ es) [] h = absurd h
copied (e ∷ es) (f ∷ fs) h = rw (h.0.0, h.0.1, copied es fs h.1) refl

-- Copies of texts.

pub copied_texts : {Z : Type 0} (xs ys : List (String Z)) → AllZip (λ x y. string_bytes y ≡ string_bytes x) xs ys → map string_bytes ys ≡ map string_bytes xs
copied_texts [] [] h = refl
copied_texts [] (y ∷ ys) h = absurd h
copied_texts (x ∷ xs) [] h = absurd h
copied_texts (x ∷ xs) (y ∷ ys) h = rw (h.0, copied_texts xs ys h.1) refl
