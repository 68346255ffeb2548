-- Signatures are read as they are spelled.
use Rattle.std.proofs.Common.{◌≡◌, ℕ, suc, ◌-◌, ◌<◌, ◌≤◌, eqb, ltb, Option, Some, None, ok_or, true, cond, List, [], ◌++◌, length, Result, Ok, Err, refl, sym, ap, subst, ◌∙◌, append-nil, arith}
use Rattle.std.proofs.lemmas.Bool.{eqb-true, eq-eqb, ltb-true, lt-ltb}
use Rattle.std.proofs.lemmas.List.{take_at, drop_at, take-append-drop, length-append, length-take, length-drop, nil_from_length}
use Rattle.sshkey_model.specs.Parts.{Parts, bytes, box, ◌&◌, flat, Fits, HasLength}
use Rattle.sshkey_model.specs.Reading.{Fault, Length, FormatEncoding, Crypto, ◌>>=◌, Whole, string_at, after_at}
use Rattle.sshkey_model.specs.Texts.{string}
use Rattle.sshkey_model.specs.Names.{Algorithm, IsAlgorithm, algorithm}
use Rattle.sshkey_model.specs.Mpints.{is_mpint, mpint_from, positive_part}
use Rattle.sshkey_model.specs.Points.{field_size}
use Rattle.sshkey_model.specs.Signatures.{Signature, has_part, IsComponent, positive_from, after_component, IsEcdsaBlob, ecdsa_blob_from, sized_from, some_from, none_from, trailed_at, without_trailer, trailer, signature_blob, signature, IsSignatureBlob, IsSignature, signature_blob_at, signature_under, signature_at}
use Rattle.sshkey_model.specs.Grammar.{Checks}
use Rattle.sshkey_model.proofs.CombinedReaders.{bind_assoc, bind_ok, done, ok_is, met, fits_both, fits_first, fits_second, ReadsFront, Any, string_reads, bytes_reads, then_reads, checked_reads, checked_string_reads, to_form, as_checks, kept_bytes, same_front, as_front_form}
use Rattle.sshkey_model.proofs.NameReaders.{algorithm_reads}

-- a positive number of at most `size` bytes
module _ (size : ℕ) where
  short : (o : Option (List ℕ)) (p rest out : List ℕ) → ok_or o Crypto ≡ Ok p → cond (ltb (length p) (suc size)) (done rest) (Err Length) ≡ Ok out → (has_part size o ≡ true) × (rest ≡ out)
  short None p rest out e f = absurd cc
  short (Some q) p rest out e f = let k = met (ltb (length p) (suc size)) Length (Ok rest) out f in (rw (ok_is q p e) k.0, ok_is rest out k.1)

  short_again : (o : Option (List ℕ)) (rest : List ℕ) → has_part size o ≡ true → (ok_or o Crypto >>= λ p. cond (ltb (length p) (suc size)) (done rest) (Err Length)) ≡ Ok rest
  short_again None rest e = absurd cc
  short_again (Some p) rest e = rw e refl

  component_takes : (b out : List ℕ) → after_component size b ≡ Ok out → (x : List ℕ) × IsComponent size x × Fits (string x) × (b ≡ flat (string x) ++ out)
  component_takes b out e =
      let x = bind_ok (string_at b) (λ x. positive_from x.0 >>= λ p. cond (ltb (length p) (suc size)) (Ok x.1) (Err Length)) out e in
      let p = bind_ok (positive_from x.0.0) (λ p. cond (ltb (length p) (suc size)) (Ok x.0.1) (Err Length)) out x.2 in
      let r = bind_ok (mpint_from x.0.0) (λ r. ok_or (positive_part r) Crypto) p.0 p.1 in
      let m = met (is_mpint x.0.0) FormatEncoding (Ok x.0.0) r.0 r.1 in
      let k = short (positive_part r.0) p.0 x.0.1 out r.2 p.2 in
      let s = string_reads.takes b x.0.0 x.0.1 x.1 in
      (x.0.0, (m.0, rw (ok_is x.0.0 r.0 m.1) k.0), s.1, s.2 ∙ ap (λ (z : List ℕ). flat (string x.0.0) ++ z) k.1)

  component_again : (x rest : List ℕ) → IsComponent size x → Fits (string x) → after_component size (flat (string x) ++ rest) ≡ Ok rest
  component_again x rest is fits = rw (string_reads.again x rest tt fits, is.0) (short_again (positive_part x) rest is.1)

pub ecdsa_blob_checks : (size : ℕ) → Checks Any bytes (IsEcdsaBlob size) bytes (ecdsa_blob_from size)
unfolding ecdsa_blob_from flat
ecdsa_blob_checks size = record { takes = there; again = λ x is. (x, tt, back x is, refl) }
  where
    there : (b x : List ℕ) → Any b → ecdsa_blob_from size b ≡ Ok x → IsEcdsaBlob size x × (bytes b ≡ bytes x)
    there b x was e =
        let r = bind_ok (after_component size b) (λ r. after_component size r >>= λ s. cond (eqb (length s) 0) (Ok b) (Err Length)) x e in
        let s = bind_ok (after_component size r.0) (λ s. cond (eqb (length s) 0) (Ok b) (Err Length)) x r.2 in
        let g = met (eqb (length s.0) 0) Length (Ok b) x s.2 in
        let t = component_takes size b r.0 r.1 in
        let u = component_takes size r.0 s.0 s.1 in
        let none : s.0 ≡ [] = nil_from_length s.0 (eqb-true _ _ g.0) in
        let shape : b ≡ flat (string t.0) ++ flat (string u.0) = t.3 ∙ ap (λ (z : List ℕ). flat (string t.0) ++ z) (u.3 ∙ ap (λ (z : List ℕ). flat (string u.0) ++ z) none ∙ append-nil (flat (string u.0))) in
        subst (λ (z : List ℕ). IsEcdsaBlob size z × (bytes b ≡ bytes z)) (ok_is b x g.1) (record { r = t.0; s = u.0; r_is = t.1; s_is = u.1; fits = fits_both (string t.0) (string u.0) t.2 u.2; shape = shape }, refl)

    back : (x : List ℕ) → IsEcdsaBlob size x → ecdsa_blob_from size x ≡ Ok x
    back x is =
        let second : after_component size (flat (string is.s)) ≡ Ok [] = ap (after_component size) (sym (append-nil (flat (string is.s)))) ∙ component_again size is.s [] is.s_is (fits_second (string is.r) (string is.s) is.fits) in
        let first : after_component size x ≡ Ok (flat (string is.s)) = ap (after_component size) is.shape ∙ component_again size is.r (flat (string is.s)) is.r_is (fits_first (string is.r) (string is.s) is.fits) in
        rw (first, second) refl

pub sized_checks : (n : ℕ) → Checks Any bytes (HasLength n) bytes (sized_from n)
sized_checks n = as_checks (λ b. eqb-true _ _) (λ b. eq-eqb _ _) (kept_bytes (λ d. eqb (length d) n) Length)

some_checks : Checks Any bytes (λ d. 0 < length d) bytes some_from
some_checks = as_checks (λ b. ltb-true _ _) (λ b. lt-ltb _ _) (kept_bytes (λ d. ltb 0 (length d)) Length)

none_checks : Checks Any bytes (λ (d : List ℕ). ⊥) bytes none_from
none_checks = record { takes = λ a b was e. absurd cc; again = λ b is. absurd is }

-- ---- a trailer of five bytes after the string

front_of : (x t : List ℕ) → HasLength 5 t → without_trailer (x ++ t) ≡ x
front_of x t len = take_at x t (length (x ++ t) - 5) (omega (arith, length-append x t))

after : (x t : List ℕ) → HasLength 5 t → trailer (x ++ t) ≡ t
after x t len = drop_at x t (length (x ++ t) - 5) (omega (arith, length-append x t))

abbrev IsTrailed : (List ℕ → Type 0) → List ℕ → Type 0
IsTrailed Is d = (5 ≤ length d) × Is (without_trailer d)

abbrev trailed : List ℕ → Parts
trailed d = string (without_trailer d) & bytes (trailer d)

abbrev judged : Whole (List ℕ) → List ℕ × List ℕ → Result (List ℕ) Fault
judged judge p = judge p.0 >>= λ blob. Ok (blob ++ p.1)

module _ {Is : List ℕ → Type 0} {judge : Whole (List ℕ)} (checks : Checks Any bytes Is bytes judge) where
  there : (p : List ℕ × List ℕ) (d : List ℕ) → Any p.0 × HasLength 5 p.1 → judged judge p ≡ Ok d → IsTrailed Is d × (string p.0 & bytes p.1 ≡ trailed d)
  there p d h e =
      let x = bind_ok (judge p.0) (λ blob. Ok (blob ++ p.1)) d e in
      let c = checks.takes p.0 x.0 tt x.1 in
      let made : IsTrailed Is (x.0 ++ p.1) × (string p.0 & bytes p.1 ≡ trailed (x.0 ++ p.1)) =
      ((omega (arith, length-append x.0 p.1, h.1), subst Is (sym (front_of x.0 p.1 h.1)) c.0), ap (λ (q : Parts). box q & bytes p.1) c.1 ∙ rw (front_of x.0 p.1 h.1, after x.0 p.1 h.1) refl) in
      subst (λ (z : List ℕ). IsTrailed Is z × (string p.0 & bytes p.1 ≡ trailed z)) (ok_is (x.0 ++ p.1) d x.2) made

  back : (d : List ℕ) → IsTrailed Is d → (p : List ℕ × List ℕ) × (Any p.0 × HasLength 5 p.1) × (judged judge p ≡ Ok d) × (string p.0 & bytes p.1 ≡ trailed d)
  back d h =
      let c = checks.again (without_trailer d) h.1 in
      ((c.0, trailer d), (tt, omega (arith, length-drop (length d - 5) d)), rw c.2 (ap (λ (z : List ℕ). done z) (take-append-drop (length d - 5) d)), ap (λ (q : Parts). box q & bytes (trailer d)) c.3)

  pub trailed_reads : ReadsFront (IsTrailed Is) trailed (trailed_at judge)
  unfolding after_at
  trailed_reads = same_front (checked_reads (record { takes = there; again = back }) (then_reads string_reads (λ _. bytes_reads 5))) (λ b. simp bind_assoc)

-- ---- all kinds

pub signature_blob_reads : (a : Algorithm) → ReadsFront (IsSignatureBlob a) (signature_blob a) (signature_blob_at a)
signature_blob_reads Algorithm.Dsa = checked_string_reads (sized_checks 40)
signature_blob_reads (Algorithm.Ecdsa c) = checked_string_reads (ecdsa_blob_checks (field_size c))
signature_blob_reads Algorithm.Ed25519 = checked_string_reads (sized_checks 64)
signature_blob_reads (Algorithm.Rsa None) = checked_string_reads none_checks
signature_blob_reads (Algorithm.Rsa (Some h)) = checked_string_reads (to_form (λ b. b) (λ b h. (tt, refl)) (λ b is. (b, tt, refl, refl)))
signature_blob_reads Algorithm.SkEcdsa = trailed_reads (ecdsa_blob_checks 32)
signature_blob_reads Algorithm.SkEd25519 = as_front_form (λ d h. omega (arith, h.1, length-take (length d - 5) d)) (λ d h. (omega (arith, h), omega (arith, h, length-take (length d - 5) d))) (trailed_reads (sized_checks 64))
signature_blob_reads (Algorithm.Other n) = checked_string_reads some_checks

pub under_reads : (a : Algorithm) → ReadsFront (λ g. (g.algorithm ≡ a) × IsSignatureBlob a g.blob) (λ g. signature_blob a g.blob) (signature_under a).read
under_reads a = checked_reads (to_form (λ blob. record { algorithm = a; blob = blob }) (λ blob h. ((refl, h), refl)) (λ g h. (g.blob, h.1, ap (λ (n : Algorithm). record { algorithm = n; blob = g.blob }) (sym h.0), refl))) (signature_blob_reads a)

pub signature_reads : ReadsFront IsSignature signature signature_at
unfolding signature_at
signature_reads = checked_reads (to_form (λ a. a.1) there (λ g h. ((g.algorithm, g), (h.0, (refl, h.1)), refl, refl))) (then_reads algorithm_reads under_reads)
  where
    there : (a : Algorithm × Signature) → IsAlgorithm a.0 × ((a.1.algorithm ≡ a.0) × IsSignatureBlob a.0 a.1.blob) → IsSignature a.1 × (algorithm a.0 & signature_blob a.0 a.1.blob ≡ signature a.1)
    there a h = rw h.1.0 ((h.0, h.1.1), refl)
