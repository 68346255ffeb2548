-- Nothing is wrong with a certificate exactly where it is valid.
use Rattle.std.proofs.Common.{◌≡◌, ◌↔◌, ℕ, zero, suc, ◌≤◌, List, [], ◌∷◌, Bool, true, false, ◌||◌, nat_le, nat_lt, Contains, Option, Some, None, refl, sym, subst, arith, rules, tests, bytes_eq, lt-ltb, inl, inr, ◌⊎◌}
use Rattle.std.proofs.lemmas.Bool.{and_parts, and_from, ltb-true, leb-true}
use Rattle.std.proofs.lemmas.Slice.Eq.{bytes_eq-Decides}
use Rattle.std.specs.List.{list_any}
use Rattle.sshkey_model.specs.Names.{Hash, Sha256, Sha512}
use Rattle.sshkey_model.specs.Certificates.{Certificate, is_time}
use Rattle.sshkey_model.specs.Fingerprints.{Fingerprint, same_hash, same_fingerprint}
use Rattle.sshkey_model.specs.Verification.{Question}
use Rattle.sshkey_model.specs.Validity.{IsValid}
use Rattle.sshkey_model.specs.Principals.{IsValidFor}
use Rattle.sshkey_model.specs.Refusals.{Refusal, NotSigned, UntrustedAuthority, InvalidTime, OutOfWindow, UnlistedPrincipal, is_signed, has_trusted_authority, is_within, allows, unless, first_refusal, first_refusal_for}

-- ---- a list holds a value

or_true : (a b : Bool) → a || b ≡ true → (a ≡ true) ⊎ (b ≡ true)
or_true true b e = inl refl
or_true false b e = inr e

or_right : (a b : Bool) → b ≡ true → a || b ≡ true
or_right true b e = refl
or_right false b e = e

further : {X : Type 0} (y : X) (ys : List X) (x : X) → Contains ys x → Contains (y ∷ ys) x
further y ys x (k, h, i) = (suc k, omega arith, i)

-- the test decides whether two values are one
abbrev Decided : {X : Type 0} → (X → X → Bool) → Type 0
Decided {X} same = (x y : X) → (same x y ≡ true → x ≡ y) × (x ≡ y → same x y ≡ true)

module _ {X : Type 0} (same : X → X → Bool) (decides : Decided same) where
  pub contained : (x : X) (ys : List X) → list_any (same x) ys ≡ true → Contains ys x
  contained x [] e = cc
  contained x (y ∷ ys) e = split (contained x ys) (or_true (same x y) (list_any (same x) ys) e)
    where
      split : (list_any (same x) ys ≡ true → Contains ys x) → (same x y ≡ true) ⊎ (list_any (same x) ys ≡ true) → Contains (y ∷ ys) x
      split rest (inl here) = (0, omega arith, sym ((decides x y).0 here))
      split rest (inr there) = further y ys x (rest there)

  pub found : (x : X) (ys : List X) → Contains ys x → list_any (same x) ys ≡ true
  found x [] (k, h, i) = absurd (omega arith)
  found x (y ∷ ys) (zero, h, i) = let equal : same x y ≡ true = (decides x y).1 (sym i) in rw equal refl
  found x (y ∷ ys) (suc k, h, i) = or_right (same x y) _ (found x ys (k, omega arith, i))

pub same_bytes : Decided bytes_eq
same_bytes x y = ((bytes_eq-Decides x y).0, (bytes_eq-Decides x y).1)

one_hash : (h g : Hash) → same_hash h g ≡ true → h ≡ g
one_hash Sha256 Sha256 e = refl
one_hash Sha512 Sha512 e = refl
one_hash _ _ e = absurd cc

hash_itself : (h : Hash) → same_hash h h ≡ true
hash_itself Sha256 = refl
hash_itself Sha512 = refl

pub fingerprints_decided : Decided same_fingerprint
fingerprints_decided f g = (there, back)
  where
    there : same_fingerprint f g ≡ true → f ≡ g
    there e =
        let both = and_parts (same_hash f.hash g.hash) (bytes_eq f.digest g.digest) e in
        let hash_ = one_hash f.hash g.hash both.0 in
        let digest_ = (bytes_eq-Decides f.digest g.digest).0 both.1 in
        λ i. record { hash = hash_ i; digest = digest_ i }

    back : f ≡ g → same_fingerprint f g ≡ true
    back e = subst (λ (h : Fingerprint). same_fingerprint f h ≡ true) e (and_from _ _ (hash_itself f.hash) ((bytes_eq-Decides f.digest f.digest).1 refl))

-- ---- one test after the other

passed : (b : Bool) (r : Refusal) (next : Option Refusal) → unless b r next ≡ None → (b ≡ true) × (next ≡ None)
passed true r next e = (refl, e)
passed false r next e = absurd cc

passes : (b : Bool) (r : Refusal) (next : Option Refusal) → b ≡ true → next ≡ None → unless b r next ≡ None
passes true r next e h = h
passes false r next e h = absurd cc

le-leb : (a b : ℕ) → a ≤ b → nat_le a b ≡ true
le-leb a b h = search (rules, tests)

module _ (accepts : Question → Bool) (fingerprints : List Fingerprint) (t : ℕ) (c : Certificate) where
  valid_from : first_refusal accepts fingerprints t c ≡ None → IsValid accepts fingerprints t c
  valid_from e =
      let signed = passed (is_signed accepts c) NotSigned _ e in
      let given = passed (has_trusted_authority fingerprints c) UntrustedAuthority _ signed.1 in
      let time = passed (is_time t) InvalidTime _ given.1 in
      let within = passed (is_within (c.signed.valid_after, c.signed.valid_before) t) OutOfWindow _ time.1 in
      let both = and_parts (nat_le c.signed.valid_after t) (nat_lt t c.signed.valid_before) within.0 in
      record { signature = signed.0; authority = contained same_fingerprint fingerprints_decided _ _ given.0; time = ltb-true _ _ time.0; after = leb-true _ _ both.0; before = ltb-true _ _ both.1 }

  none_from : IsValid accepts fingerprints t c → first_refusal accepts fingerprints t c ≡ None
  none_from v =
      passes (is_signed accepts c) NotSigned _ v.signature
      (passes (has_trusted_authority fingerprints c) UntrustedAuthority _ (found same_fingerprint fingerprints_decided _ _ v.authority)
      (passes (is_time t) InvalidTime _ (lt-ltb _ _ v.time)
      (passes (is_within (c.signed.valid_after, c.signed.valid_before) t) OutOfWindow _ (and_from _ _ (le-leb _ _ v.after) (lt-ltb _ _ v.before)) refl)))

  pub none_where_valid : (first_refusal accepts fingerprints t c ≡ None) ↔ IsValid accepts fingerprints t c
  none_where_valid = (valid_from, none_from)

-- ---- the wanted principal

pub allowed : (ps : List (List ℕ)) (wanted : List ℕ) → allows ps wanted ≡ true → (ps ≡ []) ⊎ Contains ps wanted
allowed [] wanted e = inl refl
allowed (p ∷ ps) wanted e = inr (contained bytes_eq same_bytes wanted (p ∷ ps) e)

pub allows_it : (ps : List (List ℕ)) (wanted : List ℕ) → (ps ≡ []) ⊎ Contains ps wanted → allows ps wanted ≡ true
allows_it [] wanted h = refl
allows_it (p ∷ ps) wanted (inl none) = absurd cc
allows_it (p ∷ ps) wanted (inr has) = found bytes_eq same_bytes wanted (p ∷ ps) has

module _ (accepts : Question → Bool) (fingerprints : List Fingerprint) (t : ℕ) (wanted : List ℕ) (c : Certificate) where
  wanted_after : (r : Option Refusal) → first_refusal accepts fingerprints t c ≡ r → (first_refusal_for accepts fingerprints t wanted c ≡ None) ↔ IsValidFor accepts fingerprints t wanted c
  wanted_after None e =
      let both = none_where_valid accepts fingerprints t c in
      rw e (
        λ h. record { valid = both.0 e; allowed = allowed c.signed.valid_principals wanted (passed (allows c.signed.valid_principals wanted) UnlistedPrincipal None h).0 },
        λ v. passes (allows c.signed.valid_principals wanted) UnlistedPrincipal None (allows_it c.signed.valid_principals wanted v.allowed) refl,
      )
  wanted_after (Some r) e =
      let both = none_where_valid accepts fingerprints t c in
      rw e (λ h. absurd cc, λ v. let none = both.1 v.valid in absurd cc)

  pub none_where_wanted : (first_refusal_for accepts fingerprints t wanted c ≡ None) ↔ IsValidFor accepts fingerprints t wanted c
  none_where_wanted = wanted_after (first_refusal accepts fingerprints t c) refl
