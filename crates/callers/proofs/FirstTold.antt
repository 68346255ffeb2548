-- The hash that is told first, one after the other.
use Rattle.std.proofs.Common.{◌≡◌, ◌∙◌, ap, sym, refl, ℕ, suc, ◌+◌, ◌<◌, ◌≤◌, List, ◌∷◌, length, drop, get_or, true, false, add-one, drop-cons}
use Rattle.std.proofs.Math.ListN.{drop_of_length-le}
use Rattle.std.specs.Prelude.{replicate}
use Rattle.callers.specs.Answers.{hash_among, is_hash_of}
use Rattle.callers.specs.declared.hashes.Hashed.{Hashed}

module _ (salt name : List ℕ) (hs : List Hashed) (i : ℕ) (was : hash_among salt name (drop i hs) ≡ hash_among salt name hs) where
  module _ (h : Hashed) (lt : i < length hs) (is : get_or hs i h ≡ h) where
    front : drop i hs ≡ h ∷ drop (i + 1) hs
    front = rw add-one (drop-cons hs i h lt ∙ ap (λ (x : Hashed). x ∷ drop (suc i) hs) is)

    pub found : is_hash_of salt name h ≡ true → h.hash ≡ hash_among salt name hs
    found same =
        let here : hash_among salt name (h ∷ drop (i + 1) hs) ≡ h.hash = rw same refl in
        sym here ∙ ap (hash_among salt name) (sym front) ∙ was

    pub passed : is_hash_of salt name h ≡ false → hash_among salt name (drop (i + 1) hs) ≡ hash_among salt name hs
    passed other =
        let later : hash_among salt name (h ∷ drop (i + 1) hs) ≡ hash_among salt name (drop (i + 1) hs) = rw other refl in
        sym later ∙ ap (hash_among salt name) (sym front) ∙ was

  pub none : length hs ≤ i → replicate 20 0 ≡ hash_among salt name hs
  none end = sym (ap (hash_among salt name) (drop_of_length-le hs end)) ∙ was
