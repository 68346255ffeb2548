-- A text between dashes, as the format writes it.
use Rattle.std.proofs.Common.{◌≡◌, ◌<◌, ◌≤◌, ◌-◌, ◌/◌, ◌^◌, ◌++◌, ◌∷◌, [], ◌==◌, Bool, true, false, cond, ℕ, zero, suc, List, length, replicate, refl, ap, arith, append_assoc}
use Rattle.std.specs.Prelude.{codes}
use Rattle.std.specs.Fmt.{char_count, format_spec, padded, take_chars, is_char_start}
use Rattle.std.specs.List.{repeat}
use Rattle.std.specs.Char.{encode_utf8}
use Rattle.std.proofs.lemmas.Bool.{ne_eqb}
use Rattle.sshkey_fingerprints.specs.RandomArt.{title}

char_all : (start empty : Bool) (b : ℕ) (text front all : List ℕ) → empty ≡ false → front ≡ text → all ≡ text → cond start (cond empty [] (b ∷ front)) (b ∷ all) ≡ b ∷ text
char_all true empty b text front all some one two = rw (some, one) refl
char_all false empty b text front all some one two = rw two refl

-- a text of no more bytes than characters are asked for stays whole
chars_all : (n : ℕ) (text : List ℕ) → length text ≤ n → take_chars n text ≡ text
unfolding take_chars
chars_all n [] le = refl
chars_all n (b ∷ text) le = char_all (is_char_start b) (n == 0) b text _ _ (ne_eqb n 0 (λ zero. omega (arith, zero))) (chars_all (n - 1) text (omega arith)) (chars_all n text (omega arith))

dashes : (n : ℕ) → repeat {A = ℕ} n (encode_utf8 45) ≡ replicate n 45
unfolding encode_utf8
dashes zero = refl
dashes (suc n) = ap (λ (l : List ℕ). 45 ∷ l) (dashes n)

padded_is : (text : List ℕ) (n : ℕ) → n ≡ 17 - char_count text → length text < 2 ^ 64 → padded (format_spec 45 2 0 17 18446744073709551615) text ≡ replicate (n / 2) 45 ++ (text ++ replicate (n - n / 2) 45)
unfolding padded
padded_is text n is lt = rw (chars_all 18446744073709551615 text (omega arith), dashes ((17 - char_count text) / 2), dashes (17 - char_count text - (17 - char_count text) / 2), ← is) refl

title_is : (text : List ℕ) (n : ℕ) → n ≡ 17 - char_count text → title text ≡ codes "+" ++ (replicate (n / 2) 45 ++ (text ++ (replicate (n - n / 2) 45 ++ codes "+")))
unfolding title
title_is text n is = rw is refl

pub titled : (text : List ℕ) → length text < 2 ^ 64 → codes "+" ++ (padded (format_spec 45 2 0 17 18446744073709551615) text ++ codes "+") ≡ title text
titled text lt =
    let n : ℕ = 17 - char_count text in
    rw (padded_is text n refl lt, title_is text n refl) (simp append_assoc)
