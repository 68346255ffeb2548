-- Public keys are read as they are spelled.
use Rattle.std.proofs.Common.{◌≡◌, ℕ, Option, Some, true, List, Ok, refl, sym, ap, subst, ◌∙◌}
use Rattle.sshkey_model.specs.Parts.{◌&◌, HasLength}
use Rattle.sshkey_model.specs.Reading.{AlgorithmUnknown}
use Rattle.sshkey_model.specs.Grammar.{IsSpelled, spelled, Checks}
use Rattle.sshkey_model.specs.Texts.{string, IsText}
use Rattle.sshkey_model.specs.Names.{Curve, Nistp256, Hash, Sha256, Sha512, Algorithm, IsAlgorithm, algorithm, curve}
use Rattle.sshkey_model.specs.Leaves.{array_format}
use Rattle.sshkey_model.specs.Mpints.{IsMpint}
use Rattle.sshkey_model.specs.Points.{IsPoint, curve_eq, of_curve, IsPointOf}
use Rattle.sshkey_model.specs.Keys.{Key, Dsa, Ecdsa, Ed25519, Rsa, SkEcdsa, SkEd25519, Opaque, key_algorithm, body, IsKey, key, HasKeyPlaces, dsa_format, any_ecdsa_format, ecdsa_format, ecdsa_key_from, ed25519_format, rsa_format, sk_ecdsa_format, sk_ed25519_format, kind_format, p256_only, has_curve, IsEcdsa, Head, Plain, headed, HasHead, head_of, key_at, unhashed, IsBodyUnder}
use Rattle.sshkey_model.proofs.CombinedReaders.{bind_ok, done, ok_is, met, ReadsFront, Any, whole_reads, bytes_reads, string_reads, box_reads, then_reads, checked_reads, checked_string_reads, to_form, kept, as_front_form}
use Rattle.sshkey_model.proofs.NameReaders.{curve_reads, algorithm_reads}
use Rattle.sshkey_model.proofs.TextReaders.{text_reads}
use Rattle.sshkey_model.proofs.MpintReaders.{mpint_reads}
use Rattle.sshkey_model.proofs.PointReaders.{same_curve, curve_itself, point_reads, p256_point_checks}

pub rsa_reads : (hash : Option Hash) → ReadsFront (IsBodyUnder (Algorithm.Rsa hash)) body rsa_format.read
rsa_reads hash = checked_reads (to_form (λ p. Rsa (record { e = p.0; n = p.1 })) (λ a h. ((refl, h), refl)) back) (then_reads mpint_reads (λ _. mpint_reads))
  where
    back : (k : Key) → IsBodyUnder (Algorithm.Rsa hash) k → (a : List ℕ × List ℕ) × (IsMpint a.0 × IsMpint a.1) × (Rsa (record { e = a.0; n = a.1 }) ≡ k) × (string a.0 & string a.1 ≡ body k)
    back (Rsa k) h = ((k.e, k.n), h.1, refl, refl)
    back _ h = absurd (cc h.0)

pub dsa_reads : ReadsFront (IsBodyUnder Algorithm.Dsa) body dsa_format.read
dsa_reads = checked_reads (to_form (λ a. Dsa (record { p = a.0; q = a.1.0; g = a.1.1.0; y = a.1.1.1 })) (λ a h. ((refl, (h.0, h.1.0, h.1.1.0, h.1.1.1)), refl)) back) (then_reads mpint_reads (λ _. then_reads mpint_reads (λ _. then_reads mpint_reads (λ _. mpint_reads))))
  where
    back : (k : Key) → IsBodyUnder Algorithm.Dsa k → (a : List ℕ × (List ℕ × (List ℕ × List ℕ))) × (IsMpint a.0 × (IsMpint a.1.0 × (IsMpint a.1.1.0 × IsMpint a.1.1.1))) × (Dsa (record { p = a.0; q = a.1.0; g = a.1.1.0; y = a.1.1.1 }) ≡ k) × (string a.0 & string a.1.0 & string a.1.1.0 & string a.1.1.1 ≡ body k)
    back (Dsa k) h = ((k.p, (k.q, (k.g, k.y))), (h.1.0, (h.1.1, (h.1.2, h.1.3))), refl, refl)
    back _ h = absurd (cc h.0)

pub ed25519_string_reads : ReadsFront (HasLength 32) string (array_format 32).read
ed25519_string_reads = box_reads (whole_reads (bytes_reads 32))

pub ed25519_reads : ReadsFront (IsBodyUnder Algorithm.Ed25519) body ed25519_format.read
ed25519_reads = checked_reads (to_form Ed25519 (λ a h. ((refl, h), refl)) back) ed25519_string_reads
  where
    back : (k : Key) → IsBodyUnder Algorithm.Ed25519 k → (a : List ℕ) × HasLength 32 a × (Ed25519 a ≡ k) × (string a ≡ body k)
    back (Ed25519 k) h = (k, h.1, refl, refl)
    back _ h = absurd (cc h.0)

pub sk_ed25519_reads : ReadsFront (IsBodyUnder Algorithm.SkEd25519) body sk_ed25519_format.read
sk_ed25519_reads = checked_reads (to_form (λ a. SkEd25519 (record { key = a.0; application = a.1 })) (λ a h. ((refl, h), refl)) back) (then_reads ed25519_string_reads (λ _. text_reads))
  where
    back : (k : Key) → IsBodyUnder Algorithm.SkEd25519 k → (a : List ℕ × List ℕ) × (HasLength 32 a.0 × IsText a.1) × (SkEd25519 (record { key = a.0; application = a.1 }) ≡ k) × (string a.0 & string a.1 ≡ body k)
    back (SkEd25519 k) h = ((k.key, k.application), h.1, refl, refl)
    back _ h = absurd (cc h.0)

pub opaque_reads : (name : List ℕ) → ReadsFront (IsBodyUnder (Algorithm.Other name)) body (kind_format (Algorithm.Other name)).read
opaque_reads name = checked_reads (to_form (Opaque name) (λ a h. ((refl, tt), refl)) back) string_reads
  where
    back : (k : Key) → IsBodyUnder (Algorithm.Other name) k → (a : List ℕ) × Any a × (Opaque name a ≡ k) × (string a ≡ body k)
    back (Opaque n k) h = (k, tt, (let same : n ≡ name = cc h.0 in ap (λ (z : List ℕ). Opaque z k) (sym same)), refl)
    back _ h = absurd (cc h.0)

ecdsa_checks : Checks (λ a. Any a.0 × IsPointOf a.1) (λ a. curve a.0 & string a.1.1) IsEcdsa body ecdsa_key_from
ecdsa_checks = record { takes = there; again = back }
  where
    there : (a : Curve × (Curve × List ℕ)) (k : Key) → Any a.0 × IsPointOf a.1 → ecdsa_key_from a ≡ Ok k → IsEcdsa k × (curve a.0 & string a.1.1 ≡ body k)
    there a k was e =
        let x = bind_ok (of_curve a.0 a.1) (λ on. Ok (Ecdsa on.0 on.1)) k e in
        let m = met (curve_eq a.1.0 a.0) AlgorithmUnknown (Ok a.1) x.0 x.1 in
        let made : IsEcdsa (Ecdsa a.1.0 a.1.1) × (curve a.0 & string a.1.1 ≡ body (Ecdsa a.1.0 a.1.1)) = (was.1, ap (λ (c : Curve). curve c & string a.1.1) (sym (same_curve a.1.0 a.0 m.0))) in
        subst (λ (k : Key). IsEcdsa k × (curve a.0 & string a.1.1 ≡ body k)) (ap (λ (p : Curve × List ℕ). Ecdsa p.0 p.1) (ok_is a.1 x.0 m.1) ∙ ok_is (Ecdsa x.0.0 x.0.1) k x.2) made

    back : (k : Key) → IsEcdsa k → (a : Curve × (Curve × List ℕ)) × (Any a.0 × IsPointOf a.1) × (ecdsa_key_from a ≡ Ok k) × (curve a.0 & string a.1.1 ≡ body k)
    back (Ecdsa c p) h = ((c, (c, p)), (tt, h), rw (curve_itself c) refl, refl)
    back _ h = absurd h

pub any_ecdsa_reads : ReadsFront IsEcdsa body any_ecdsa_format.read
any_ecdsa_reads = checked_reads ecdsa_checks (then_reads curve_reads (λ _. point_reads))

pub ecdsa_reads : (c : Curve) → ReadsFront (IsBodyUnder (Algorithm.Ecdsa c)) body (ecdsa_format c).read
ecdsa_reads c = as_front_form there back (checked_reads (kept (has_curve c) AlgorithmUnknown) any_ecdsa_reads)
  where
    there : (k : Key) → IsEcdsa k × (has_curve c k ≡ true) → IsBodyUnder (Algorithm.Ecdsa c) k
    there (Ecdsa d p) h = (ap Algorithm.Ecdsa (same_curve d c h.1), h.0)
    there _ h = absurd h.0

    back : (k : Key) → IsBodyUnder (Algorithm.Ecdsa c) k → IsEcdsa k × (has_curve c k ≡ true)
    back (Ecdsa d p) h = (h.1, (let same : d ≡ c = cc h.0 in ap (λ (x : Curve). curve_eq x c) same ∙ curve_itself c))
    back _ h = absurd (cc h.0)

pub p256_checks : Checks Any curve (λ c. c ≡ Nistp256) (λ c. curve Nistp256) p256_only
p256_checks = record { takes = λ a b was e. only a b e; again = λ b is. (Nistp256, tt, ap (λ (c : Curve). done c) (sym is), refl) }
  where
    only : (a b : Curve) → p256_only a ≡ Ok b → (b ≡ Nistp256) × (curve a ≡ curve Nistp256)
    only Nistp256 b e = (sym (ok_is Nistp256 b e), refl)
    only _ b e = absurd cc

pub sk_ecdsa_reads : ReadsFront (IsBodyUnder Algorithm.SkEcdsa) body sk_ecdsa_format.read
sk_ecdsa_reads = checked_reads (to_form (λ a. SkEcdsa (record { key = a.1.0; application = a.1.1 })) (λ a h. ((refl, h.1), refl)) back) (then_reads (checked_reads p256_checks curve_reads) (λ _. then_reads (checked_string_reads p256_point_checks) (λ _. text_reads)))
  where
    back : (k : Key) → IsBodyUnder Algorithm.SkEcdsa k → (a : Curve × (List ℕ × List ℕ)) × ((a.0 ≡ Nistp256) × (IsPoint Nistp256 a.1.0 × IsText a.1.1)) × (SkEcdsa (record { key = a.1.0; application = a.1.1 }) ≡ k) × (curve Nistp256 & string a.1.0 & string a.1.1 ≡ body k)
    back (SkEcdsa k) h = ((Nistp256, (k.key, k.application)), (refl, h.1), refl, refl)
    back _ h = absurd (cc h.0)

pub body_reads : (a : Algorithm) → ReadsFront (IsBodyUnder a) body (kind_format a).read
body_reads Algorithm.Dsa = dsa_reads
body_reads (Algorithm.Ecdsa c) = ecdsa_reads c
body_reads Algorithm.Ed25519 = ed25519_reads
body_reads (Algorithm.Rsa hash) = rsa_reads hash
body_reads Algorithm.SkEcdsa = sk_ecdsa_reads
body_reads Algorithm.SkEd25519 = sk_ed25519_reads
body_reads (Algorithm.Other name) = opaque_reads name

-- ---- keys

-- the name in a head tells it
pub split_head : (a : Algorithm) (k : Algorithm) → IsAlgorithm a → k ≡ unhashed a → IsAlgorithm k × HasHead k (head_of a) × (a ≡ headed (head_of a) k)
split_head (Algorithm.Rsa (Some Sha256)) k is e = rw e (tt, refl, refl)
split_head (Algorithm.Rsa (Some Sha512)) k is e = rw e (tt, refl, refl)
split_head (Algorithm.Other n) k is e = rw e (is, tt, refl)
split_head _ k is e = rw e (tt, tt, refl)

pub join_head : (k : Key) (h : Head) → IsAlgorithm (key_algorithm k) → HasHead (key_algorithm k) h → IsAlgorithm (headed h (key_algorithm k)) × (key_algorithm k ≡ unhashed (headed h (key_algorithm k))) × (head_of (headed h (key_algorithm k)) ≡ h)
join_head (Dsa k) Plain is place = (is, refl, refl)
join_head _ Plain is place = (is, refl, refl)
join_head k _ is place = (tt, place, refl)

pub key_reads : ReadsFront (IsSpelled IsKey HasKeyPlaces) (spelled key) key_at
unfolding key_at
key_reads = checked_reads (to_form (λ a. (a.1, head_of a.0)) there back) (then_reads algorithm_reads body_reads)
  where
    there : (a : Algorithm × Key) → IsAlgorithm a.0 × IsBodyUnder a.0 a.1 → IsSpelled IsKey HasKeyPlaces (a.1, head_of a.0) × (algorithm a.0 & body a.1 ≡ spelled key (a.1, head_of a.0))
    there a h = let s = split_head a.0 (key_algorithm a.1) h.0 h.1.0 in (record { is = (s.0, h.1.1); place = s.1 }, ap (λ (n : Algorithm). algorithm n & body a.1) s.2)

    back : (x : Key × Head) → IsSpelled IsKey HasKeyPlaces x → (a : Algorithm × Key) × (IsAlgorithm a.0 × IsBodyUnder a.0 a.1) × ((a.1, head_of a.0) ≡ x) × (algorithm a.0 & body a.1 ≡ spelled key x)
    back x h = let j = join_head x.0 x.1 h.is.0 h.place in ((headed x.1 (key_algorithm x.0), x.0), (j.0, (j.1, h.is.1)), ap (λ (z : Head). (x.0, z)) j.2, refl)
