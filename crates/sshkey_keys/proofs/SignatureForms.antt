-- What is taken as the bytes of a signature is well-formed, and the other way round.
use Rattle.std.proofs.Common.{◌≡◌, ℕ, ◌≤◌, ◌-◌, None, Some, true, ltb, List, length, Result, Ok, Err, refl, sym, subst, arith}
use Rattle.std.proofs.lemmas.Bool.{ltb-true, lt-ltb, ltb-false, le-ltb}
use Rattle.std.proofs.lemmas.List.{length-take}
use Rattle.sshkey_model.specs.Parts.{Any, bytes}
use Rattle.sshkey_model.specs.Reading.{Fault, Length, ◌>>=◌, Whole}
use Rattle.sshkey_model.specs.Names.{Algorithm}
use Rattle.sshkey_model.specs.Points.{field_size}
use Rattle.sshkey_model.specs.Signatures.{IsSignatureBlob, without_trailer}
use Rattle.sshkey_model.specs.Grammar.{Checks}
use Rattle.sshkey_model.proofs.CombinedReaders.{bind_ok, passed, met, ok_is}
use Rattle.sshkey_model.proofs.SignatureReaders.{ecdsa_blob_checks, sized_checks}
use Rattle.sshkey_base.proofs.Labels.{same_bytes}
use Rattle.sshkey_terms.specs.Slices.{is_taken}
use Rattle.sshkey_keys.specs.SignatureForms.{trailed_from, blob_from, is_blob}

module _ {Is : List ℕ → Type 0} {judge : Whole (List ℕ)} (checks : Checks Any bytes Is bytes judge) where
  string_takes : (b x : List ℕ) → judge b ≡ Ok x → (x ≡ b) × Is b
  string_takes b x e =
      let c = checks.takes b x tt e in
      let same : x ≡ b = sym (same_bytes b x c.1) in
      (same, subst Is same c.0)

  string_again : (b : List ℕ) → Is b → judge b ≡ Ok b
  string_again b is = let c = checks.again b is in subst (λ (z : List ℕ). judge z ≡ Ok b) (same_bytes c.0 b c.3) c.2

  trailed_takes : (b x : List ℕ) → trailed_from judge b ≡ Ok x → (x ≡ b) × ((5 ≤ length b) × Is (without_trailer b))
  trailed_takes b x e =
      let k = passed (ltb (length b) 5) Length (judge (without_trailer b) >>= λ _. Ok b) x e in
      let y = bind_ok (judge (without_trailer b)) (λ _. Ok b) x k.1 in
      (sym (ok_is b x y.2), (ltb-false _ _ k.0, (string_takes (without_trailer b) y.0 y.1).1))

  trailed_again : (b : List ℕ) → (5 ≤ length b) × Is (without_trailer b) → trailed_from judge b ≡ Ok b
  trailed_again b is = rw (le-ltb (length b) 5 is.0, string_again (without_trailer b) is.1) refl

pub blob_takes : (a : Algorithm) (b x : List ℕ) → blob_from a b ≡ Ok x → (x ≡ b) × IsSignatureBlob a b
blob_takes Algorithm.Dsa = string_takes (sized_checks 40)
blob_takes (Algorithm.Ecdsa c) = string_takes (ecdsa_blob_checks (field_size c))
blob_takes Algorithm.Ed25519 = string_takes (sized_checks 64)
blob_takes (Algorithm.Rsa None) = λ b x e. absurd cc
blob_takes (Algorithm.Rsa (Some h)) = λ b x e. (sym (ok_is b x e), tt)
blob_takes Algorithm.SkEcdsa = trailed_takes (ecdsa_blob_checks 32)
blob_takes Algorithm.SkEd25519 = λ b x e. let t = trailed_takes (sized_checks 64) b x e in (t.0, omega (arith, t.1, length-take (length b - 5) b))
blob_takes (Algorithm.Other n) = λ b x e. let k = met (ltb 0 (length b)) Length (Ok b) x e in (sym (ok_is b x k.1), ltb-true _ _ k.0)

pub blob_again : (a : Algorithm) (b : List ℕ) → IsSignatureBlob a b → blob_from a b ≡ Ok b
blob_again Algorithm.Dsa = string_again (sized_checks 40)
blob_again (Algorithm.Ecdsa c) = string_again (ecdsa_blob_checks (field_size c))
blob_again Algorithm.Ed25519 = string_again (sized_checks 64)
blob_again (Algorithm.Rsa None) = λ b is. absurd is
blob_again (Algorithm.Rsa (Some h)) = λ b is. refl
blob_again Algorithm.SkEcdsa = trailed_again (ecdsa_blob_checks 32)
blob_again Algorithm.SkEd25519 = λ b is. trailed_again (sized_checks 64) b (omega (arith, is), omega (arith, is, length-take (length b - 5) b))
blob_again (Algorithm.Other n) = λ b is. rw (lt-ltb 0 (length b) is) refl

pub well_formed : (a : Algorithm) (b : List ℕ) → is_blob a b ≡ true → IsSignatureBlob a b
well_formed a b e = go (blob_from a b) refl e
  where
    go : (m : Result (List ℕ) Fault) → blob_from a b ≡ m → is_taken m ≡ true → IsSignatureBlob a b
    go (Ok x) is e = (blob_takes a b x is).1
    go (Err f) is e = absurd cc

pub tested : (a : Algorithm) (b : List ℕ) → IsSignatureBlob a b → is_blob a b ≡ true
tested a b is = rw (blob_again a b is) refl
