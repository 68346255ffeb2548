-- What is certified has the form of a certificate.
use Rattle.std.proofs.Common.{◌≡◌, ◌≢◌, ◌∙◌, ◌⊎◌, ℕ, ◌<◌, ◌^◌, List, [], ◌∷◌, map, Bool, IsTrue, true, false, Option, None, Some, refl, sym, arith, bytes_eq, eq-eqb, inl, inr, lt-ltb, nat_lt}
use Rattle.std.specs.List.{AllByRecursion}
use Rattle.std.specs.Prelude.{String, string_bytes}
use Rattle.std.proofs.Math.Dec.{eqb}
use Rattle.std.proofs.lemmas.Bool.{ne_eqb}
use Rattle.std.proofs.lemmas.Bool.Decides.{eqb_tells, nat_tests}
use Rattle.std.proofs.lemmas.Slice.Eq.{bytes_eq-Decides}
use Rattle.std.proofs.lemmas.Str.{IsUtf8-nil, IsUtf8-string_bytes, is_utf8-from_IsUtf8}
use Rattle.ssh_key.specs.keys.Keys.{key_of}
use Rattle.ssh_key.specs.model.CertificateNames.{IsCertified}
use Rattle.ssh_key.specs.model.Certificates.{AreSignedFields, is_end, is_time}
use Rattle.ssh_key.specs.model.Keys.{Dsa, Ecdsa, Ed25519, IsKey, Key, Opaque, Rsa, SkEcdsa, SkEd25519, key_algorithm}
use Rattle.ssh_key.specs.model.OptionMaps.{value_of, with_option}
use Rattle.ssh_key.specs.model.Options.{AreOptions, CertificateOption, Rises, is_after, is_below}
use Rattle.ssh_key.specs.model.Reading.{IsChain}
use Rattle.ssh_key.specs.model.Texts.{IsText}
use Rattle.authority.specs.Issuance.{is_among, IsWithinLimits, extensions_of, fields_for, flag, with_flag, with_flags}
use Rattle.authority.specs.declared.keys.KeyKinds.{KeyKinds}
use Rattle.authority.specs.declared.limits.Limits.{Limits}
use Rattle.authority.specs.declared.request.Request.{Request}

-- a key under a name of the standards has a name of its own in certificates
own_name : (kinds : KeyKinds) (key : Key) → IsTrue (is_among kinds key) → IsCertified (key_algorithm key)
own_name kinds (Dsa k) is = absurd cc
own_name kinds (Ecdsa curve point) is = tt
own_name kinds (Ed25519 k) is = tt
own_name kinds (Rsa k) is = tt
own_name kinds (SkEcdsa k) is = tt
own_name kinds (SkEd25519 k) is = tt
own_name kinds (Opaque name k) is = absurd cc

text : {Y : Type 0} (s : String Y) → IsText (string_bytes s)
text s = is_utf8-from_IsUtf8 _ (IsUtf8-string_bytes s)

texts : {Y : Type 0} (ss : List (String Y)) → AllByRecursion IsText (map string_bytes ss)
texts [] = tt
texts (s ∷ ss) = (text s, texts ss)

-- ---- extensions stay in order

below_first : (a b : ℕ) (x y : List ℕ) → a < b → is_below (a ∷ x) (b ∷ y) ≡ true
below_first a b x y less = rw (ne_eqb a b (λ e. omega arith), lt-ltb a b less) refl

below_later : (a b : ℕ) (x y : List ℕ) → a ≡ b → is_below (a ∷ x) (b ∷ y) ≡ is_below x y
below_later a b x y same = rw (same, eq-eqb b b refl) refl

differ_later : (a b : ℕ) (x y : List ℕ) → a ≡ b → bytes_eq (a ∷ x) (b ∷ y) ≡ false → bytes_eq x y ≡ false
differ_later a b x y same differ = by_test (bytes_eq x y) refl
  where
    by_test : (t : Bool) → bytes_eq x y ≡ t → t ≡ false
    by_test true e =
        let rest = (bytes_eq-Decides x y).0 e in
        let all : bytes_eq (a ∷ x) (b ∷ y) ≡ true = (bytes_eq-Decides (a ∷ x) (b ∷ y)).1 cc in
        absurd cc
    by_test false e = refl

-- of two different names that are not in order, the other order is one
turned : (x y : List ℕ) → bytes_eq x y ≡ false → is_below x y ≡ false → is_below y x ≡ true
turned [] [] differ below = absurd cc
turned [] (b ∷ y) differ below = absurd cc
turned (a ∷ x) [] differ below = refl
turned (a ∷ x) (b ∷ y) differ below = by_first (turned x y) (eqb_tells a b)
  where
    by_order : a ≢ b → (t : Bool) → nat_lt a b ≡ t → is_below (b ∷ y) (a ∷ x) ≡ true
    by_order other true e =
        let less : a < b = grind (arith, nat_tests) in
        let yes = below_first a b x y less in
        absurd cc
    by_order other false e =
        let less : b < a = grind (arith, nat_tests) in
        below_first b a y x less

    by_first : (bytes_eq x y ≡ false → is_below x y ≡ false → is_below y x ≡ true) → ((eqb a b ≡ true) × (a ≡ b)) ⊎ ((eqb a b ≡ false) × (a ≢ b)) → is_below (b ∷ y) (a ∷ x) ≡ true
    by_first rest (inl same) = below_later b a y x (sym same.1) ∙ rest (differ_later a b x y same.1 differ) (sym (below_later a b x y same.1) ∙ below)
    by_first rest (inr other) = by_order other.1 (nat_lt a b) refl

-- an option of the same name may stand in its place
renamed : (o p : CertificateOption) (os : List CertificateOption) → o.name ≡ p.name → IsChain Rises (Some p) os → IsChain Rises (Some o) os
unfolding IsChain
renamed o p [] same rising = tt
renamed o p (q ∷ os) same rising = (rw same rising.0, rising.1)

-- beside the first one, by the two names
beside : (o p : CertificateOption) (ps : List CertificateOption) (before : Option CertificateOption) → (is_below p.name o.name ≡ true → IsChain Rises (Some p) ps → IsChain Rises (Some p) (with_option o ps)) → IsText o.name × IsText o.value → is_after before o ≡ true → IsChain Rises before (p ∷ ps) → (s b : Bool) → bytes_eq o.name p.name ≡ s → is_below o.name p.name ≡ b → IsChain Rises before (with_option o (p ∷ ps))
unfolding IsChain
beside o p ps before rest texts after rising true b e f = rw e ((texts, after), renamed o p ps ((bytes_eq-Decides o.name p.name).0 e) rising.1)
beside o p ps before rest texts after rising false true e f = rw (e, f) ((texts, after), ((rising.0.0, f), rising.1))
beside o p ps before rest texts after rising false false e f = rw (e, f) (rising.0, rest (turned o.name p.name e f) rising.1)

inserted : (o : CertificateOption) (os : List CertificateOption) (before : Option CertificateOption) → IsText o.name × IsText o.value → is_after before o ≡ true → IsChain Rises before os → IsChain Rises before (with_option o os)
unfolding IsChain
inserted o [] before texts after rising = ((texts, after), tt)
inserted o (p ∷ ps) before texts after rising = beside o p ps before (inserted o ps (Some p) texts) texts after rising (bytes_eq o.name p.name) (is_below o.name p.name) refl refl

with_one : (v : Option (List ℕ)) (name : List ℕ) (os : List CertificateOption) → IsText name → AreOptions os → AreOptions (with_flag v name os)
with_one None name os is rising = inserted (flag name) os None (is, is_utf8-from_IsUtf8 [] IsUtf8-nil) refl rising
with_one (Some v) name os is rising = rising

all_flags : (names : List (List ℕ)) (os : List CertificateOption) → AllByRecursion IsText names → AreOptions os → AreOptions (with_flags names os)
all_flags [] os are rising = rising
all_flags (name ∷ names) os are rising = all_flags names _ are.1 (with_one (value_of name os) name os are.0 rising)

none_rise : AreOptions []
unfolding IsChain
none_rise = tt

-- ---- the fields

time : (n : ℕ) → n < 2 ^ 63 → is_time n ≡ true
time n lt = grind (arith, nat_tests)

end : (n : ℕ) → n < 2 ^ 63 → is_end n ≡ true
end n lt = rw (time n lt) refl

pub are_fields : (limits : Limits) (t : ℕ) (r : Request) (serial : ℕ) (nonce : List ℕ) (authority : Key) → IsWithinLimits limits t r → IsKey (key_of r.key) → IsKey authority → AreSignedFields (fields_for r serial nonce authority)
are_fields limits t r serial nonce authority within key signer =
    let before = within.window.0 in
    let less = within.window.1 in
    record {
      name = own_name limits.kinds (key_of r.key) within.key.among;
      key = key.1;
      key_id = text r.key_id;
      valid_principals = texts r.principals.items;
      valid_after = time r.valid_after (omega arith);
      valid_before = end r.valid_before before;
      critical_options = none_rise;
      extensions = all_flags (extensions_of r) [] (texts r.extensions.items) none_rise;
      signature_key = signer;
    }
