-- Where one spelling of what is signed fits its boxes, its normal form does.
use Rattle.std.proofs.Common.{◌≡◌, ℕ, ◌≤◌, ◌^◌, List, [], ◌∷◌, length, true, nat_lt, None, Some, Ok, refl, arith, lt-ltb, subst, Result, Err, sym, ap, ◌∙◌}
use Rattle.std.proofs.lemmas.Bool.{and_from, and_parts, ltb-true}
use Rattle.sshkey_model.specs.Parts.{Parts, nothing, bytes, number, box, ◌&◌, flat, BoxesFit}
use Rattle.sshkey_model.specs.Texts.{string}
use Rattle.sshkey_model.specs.Names.{Rsa, Sha256, Sha512, algorithm, Algorithm}
use Rattle.sshkey_model.specs.Keys.{Key, Head, Plain, Head256, Head512, IsKey, HasKeyPlaces, key, body, normal_key, key_algorithm}
use Rattle.sshkey_model.specs.Options as nestings
use Rattle.sshkey_model.specs.Options.{CertificateOption, Nesting, Nested, option, each_option, options, HasNesting, HasOptionPlaces, plain_nestings, normal_options, option_value}
use Rattle.sshkey_model.specs.Certificates.{SignedFields, CertificateChoices, AreSignedFields, HaveSignedPlaces, to_be_signed, normal_to_be_signed, to_be_signed_format, signed_format, Certificate, HasCertificatePlaces, certificate, normal_certificate, SpellsCertificate}
use Rattle.sshkey_model.proofs.NormalKeysFit.{normal_boxes}
use Rattle.sshkey_base.proofs.Writing.{boxes_both, boxes_first, boxes_box, boxes_inside, boxes_length, length_both, length_box}
use Rattle.sshkey_cert_values.proofs.WrittenFields.{nothing_has}
use Rattle.sshkey_cert.specs.Fitting.{boxes_fit, signed_fits}
use Rattle.sshkey_cert_values.proofs.Lawful.{to_be_signed_grammar}
use Rattle.sshkey_model.specs.Reading.{whole, box_at, after_at}
use Rattle.sshkey_model.specs.Signatures.{Signature, signature_at}
use Rattle.sshkey_model.proofs.CombinedReaders.{bind_ok, ok_is}
use Rattle.std.specs.Prelude.{Vec, OnOk}
use Rattle.sshkey_base.specs.declared.error.Error.{Error}
use Rattle.sshkey_keys.specs.Blobs.{MakesBlob}
use Rattle.std.proofs.lemmas.List.{length-append}
use Rattle.std.specs.Int.{w32, to_be_bytes}

-- ---- the test

pub test_of : (p : Parts) → BoxesFit p → boxes_fit p ≡ true
unfolding BoxesFit
test_of nothing b = refl
test_of (bytes c) b = refl
test_of (number w n) b = refl
test_of (box p) b = and_from _ _ (lt-ltb _ _ b.0) (test_of p b.1)
test_of (p & q) b = and_from _ _ (test_of p b.0) (test_of q b.1)

pub of_test : (p : Parts) → boxes_fit p ≡ true → BoxesFit p
unfolding BoxesFit
of_test nothing e = tt
of_test (bytes c) e = tt
of_test (number w n) e = tt
of_test (box p) e = let t = and_parts (nat_lt (length (flat p)) (2 ^ 32)) (boxes_fit p) e in (ltb-true _ _ t.0, of_test p t.1)
of_test (p & q) e = let t = and_parts (boxes_fit p) (boxes_fit q) e in (of_test p t.0, of_test q t.1)

-- ---- a key

shorter_key : (k : Key) (h : Head) → HasKeyPlaces k h → length (flat (normal_key k)) ≤ length (flat (key k h))
unfolding flat
shorter_key k Plain has = omega arith
shorter_key k Head256 has = rw has (omega (arith, length_both (algorithm (Rsa None)) (body k), length_both (algorithm (Rsa (Some Sha256))) (body k)))
shorter_key k Head512 has = rw has (omega (arith, length_both (algorithm (Rsa None)) (body k), length_both (algorithm (Rsa (Some Sha512))) (body k)))

key_box_fits : (k : Key) (h : Head) → IsKey k → HasKeyPlaces k h → BoxesFit (box (key k h)) → BoxesFit (box (normal_key k))
key_box_fits k h is has b =
    let small = boxes_length (key k h) b in
    boxes_box (normal_key k) (omega (arith, shorter_key k h has)) (normal_boxes k h is.0 (boxes_inside (key k h) b))

-- ---- options

-- It fits, and is no longer.
Bares : Parts → Parts → Type 0
Bares p q = BoxesFit q × (length (flat q) ≤ length (flat p))

nested_bare : (n : List ℕ) → BoxesFit (string n & box (string [])) → Bares (string n & box (string [])) (string n & box nothing)
unfolding Bares
nested_bare n b = (boxes_both (string n) (box nothing) (boxes_first (string n) (box (string [])) b) (boxes_box nothing (omega (arith, nothing_has.1)) nothing_has.0), omega (arith, length_both (string n) (box nothing), length_both (string n) (box (string [])), length_box nothing, length_box (string []), nothing_has.1))

bare_option : (o : CertificateOption) (n : Nesting) → HasNesting o.value n → BoxesFit (option o n) → Bares (option o n) (option o nestings.Plain)
unfolding Bares
bare_option o nestings.Plain has b = (b, omega arith)
bare_option o Nested has b = rw has (nested_bare o.name (rw has at b))

bare_options : (os : List CertificateOption) (ns : List Nesting) → HasOptionPlaces os ns → BoxesFit (each_option os ns) → Bares (each_option os ns) (each_option os (plain_nestings os))
unfolding Bares HasOptionPlaces BoxesFit
bare_options [] [] has b = (b, omega arith)
bare_options (o ∷ os) (n ∷ ns) has b =
    let first = bare_option o n has.0 b.0 in
    let others = bare_options os ns has.1 b.1 in
    ((first.0, others.0), omega (arith, first.1, others.1, length_both (option o n) (each_option os ns), length_both (option o nestings.Plain) (each_option os (plain_nestings os))))
bare_options _ _ has b = absurd has

options_fit : (os : List CertificateOption) (ns : List Nesting) → HasOptionPlaces os ns → BoxesFit (options os ns) → BoxesFit (normal_options os)
unfolding Bares
options_fit os ns has b =
    let p = bare_options os ns has (boxes_inside (each_option os ns) b) in
    let small = boxes_length (each_option os ns) b in
    boxes_box (each_option os (plain_nestings os)) (omega (arith, p.1)) p.0

-- ---- all

normal_fits : (c : SignedFields) (s : CertificateChoices) → AreSignedFields c → HaveSignedPlaces c s → BoxesFit (to_be_signed c s) → BoxesFit (normal_to_be_signed c)
unfolding BoxesFit
normal_fits c s is has b =
    let (name, (nonce, (body, (serial, (kind, (key_id, (principals, (after, (before, (critical, (extensions, (reserved, signer)))))))))))) = b in
    (name, (nonce, (body, (serial, (kind, (key_id, (principals, (after, (before, (options_fit c.critical_options s.critical_options has.critical_options critical, (options_fit c.extensions s.extensions has.extensions extensions, (reserved, key_box_fits c.signature_key s.signature_key is.signature_key has.signature_key signer))))))))))))

-- what was read fits in its normal form
pub read_fits : (b : List ℕ) (c : SignedFields) (rest : List ℕ) → to_be_signed_format.read b ≡ Ok (c, rest) → signed_fits c ≡ true
unfolding signed_fits
read_fits b c rest e =
    let t = to_be_signed_grammar.takes b c rest e in
    test_of (normal_to_be_signed c) (normal_fits c t.1.choices t.1.is t.1.place t.1.fits.boxes)

pub fits_of : (c : SignedFields) → BoxesFit (normal_to_be_signed c) → signed_fits c ≡ true
unfolding signed_fits
fits_of c b = test_of (normal_to_be_signed c) b

pub signed_boxes : (c : SignedFields) → signed_fits c ≡ true → BoxesFit (normal_to_be_signed c)
unfolding signed_fits
signed_boxes c e = of_test (normal_to_be_signed c) e

-- The fields of a certificate that was read fit in their normal form.

pub fields_fit : (b : List ℕ) (x : SignedFields × Signature) (rest : List ℕ) → signed_format.read b ≡ Ok (x, rest) → signed_fits x.0 ≡ true
unfolding after_at
fields_fit b x rest e =
    let c = bind_ok (to_be_signed_format.read b) _ (x, rest) e in
    let g = bind_ok (box_at (whole signature_at) c.0.1) _ (x, rest) c.2 in
    subst (λ (p : (SignedFields × Signature) × List ℕ). signed_fits p.0.0 ≡ true) (ok_is ((c.0.0, g.0.0), g.0.1) (x, rest) g.2) (read_fits b c.0.0 c.0.1 c.1)

-- The bytes to be signed fit, or are refused.

pub blob_fits : {Z : Type 0} (c : SignedFields) (r : Result (Vec ℕ Z) Error) → MakesBlob (normal_to_be_signed c) r → OnOk r (signed_fits c ≡ true)
blob_fits c (Ok v) h = fits_of c h.0.boxes
blob_fits c (Err e) h = tt

-- Of all spellings of a certificate the normal form alone is the shortest.

-- The second is no longer than the first, and the same if it is as long.
abbrev Shortens : Parts → Parts → Type 0
Shortens p q = (length (flat q) ≤ length (flat p)) × (length (flat p) ≡ length (flat q) → flat p ≡ flat q)

same : (p : Parts) → Shortens p p
same p = (omega arith, λ _. refl)

both : (p q r s : Parts) → Shortens p r → Shortens q s → Shortens (p & q) (r & s)
unfolding flat
both p q r s first second =
    let left = length-append (flat p) (flat q) in
    let right = length-append (flat r) (flat s) in (
      omega (arith, first.0, second.0, left, right),
      λ e.
          let front : length (flat p) ≡ length (flat r) = omega (arith, first.0, second.0, left, right, e) in
          let rest : length (flat q) ≡ length (flat s) = omega (arith, first.0, second.0, left, right, e) in
          rw (first.1 front, second.1 rest) refl,
    )

boxed : (p q : Parts) → Shortens p q → Shortens (box p) (box q)
unfolding flat
boxed p q inner =
    let left = length-append (to_be_bytes w32 (length (flat p))) (flat p) in
    let right = length-append (to_be_bytes w32 (length (flat q))) (flat q) in
    (omega (arith, inner.0, left, right), λ e. rw (inner.1 (omega (arith, left, right, e))) refl)

-- ---- keys

plain_256 : Shortens (algorithm (Algorithm.Rsa (Some Sha256))) (algorithm (Algorithm.Rsa None))
unfolding flat
plain_256 = (omega arith, λ e. absurd (omega (arith, e)))

plain_512 : Shortens (algorithm (Algorithm.Rsa (Some Sha512))) (algorithm (Algorithm.Rsa None))
unfolding flat
plain_512 = (omega arith, λ e. absurd (omega (arith, e)))

-- an RSA key under another name
renamed : (a : Algorithm) (k : Key) → Shortens (algorithm a) (algorithm (Algorithm.Rsa None)) → key_algorithm k ≡ Algorithm.Rsa None → Shortens (algorithm a & body k) (normal_key k)
renamed a k name is = subst (λ (b : Algorithm). Shortens (algorithm a & body k) (algorithm b & body k)) (sym is) (both (algorithm a) (body k) (algorithm (Algorithm.Rsa None)) (body k) name (same (body k)))

key_shortens : (k : Key) (h : Head) → HasKeyPlaces k h → Shortens (key k h) (normal_key k)
key_shortens k Plain has = same (normal_key k)
key_shortens k Head256 has = renamed (Algorithm.Rsa (Some Sha256)) k plain_256 has
key_shortens k Head512 has = renamed (Algorithm.Rsa (Some Sha512)) k plain_512 has

-- ---- options

empty_shortens : Shortens (string []) nothing
unfolding flat
empty_shortens = (omega arith, λ e. absurd (omega (arith, e)))

value_shortens : (v : List ℕ) (n : Nesting) → HasNesting v n → Shortens (option_value v n) (option_value v Nesting.Plain)
value_shortens v Nesting.Plain has = same (option_value v Nesting.Plain)
value_shortens v Nested has = subst (λ (w : List ℕ). Shortens (option_value w Nested) (option_value w Nesting.Plain)) (sym has) empty_shortens

option_shortens : (o : CertificateOption) (n : Nesting) → HasNesting o.value n → Shortens (option o n) (option o Nesting.Plain)
option_shortens o n has = both (string o.name) (box (option_value o.value n)) (string o.name) (box (option_value o.value Nesting.Plain)) (same (string o.name)) (boxed (option_value o.value n) (option_value o.value Nesting.Plain) (value_shortens o.value n has))

each_shortens : (os : List CertificateOption) (ns : List Nesting) → HasOptionPlaces os ns → Shortens (each_option os ns) (each_option os (plain_nestings os))
unfolding HasOptionPlaces
each_shortens [] [] has = same nothing
each_shortens (o ∷ os) (n ∷ ns) has = both (option o n) (each_option os ns) (option o Nesting.Plain) (each_option os (plain_nestings os)) (option_shortens o n has.0) (each_shortens os ns has.1)
each_shortens _ _ has = absurd has

options_shorten : (os : List CertificateOption) (ns : List Nesting) → HasOptionPlaces os ns → Shortens (options os ns) (normal_options os)
options_shorten os ns has = boxed (each_option os ns) (each_option os (plain_nestings os)) (each_shortens os ns has)

-- ---- certificates

-- a part that is spelled in one way, and then the others
after : (p q s : Parts) → Shortens q s → Shortens (p & q) (p & s)
after p q s others = both p q p s (same p) others

signed_fields_shorten : (c : SignedFields) (s : CertificateChoices) → HaveSignedPlaces c s → Shortens (to_be_signed c s) (normal_to_be_signed c)
signed_fields_shorten c s has = after _ _ _ (after _ _ _ (after _ _ _ (after _ _ _ (after _ _ _ (after _ _ _ (after _ _ _ (after _ _ _ (after _ _ _ (
    both _ _ _ _ (options_shorten c.critical_options s.critical_options has.critical_options) (
    both _ _ _ _ (options_shorten c.extensions s.extensions has.extensions) (
    after _ _ _ (boxed _ _ (key_shortens c.signature_key s.signature_key has.signature_key)))))))))))))

certificate_shortens : (c : Certificate) (s : CertificateChoices) → HasCertificatePlaces c s → Shortens (certificate c s) (normal_certificate c)
certificate_shortens c s has = both _ _ _ _ (signed_fields_shorten c.signed s has) (same _)

pub shortest : (c : Certificate) (blob : List ℕ) → SpellsCertificate c blob → length (flat (normal_certificate c)) ≤ length blob
shortest c blob spelled = rw spelled.shape (certificate_shortens c spelled.choices spelled.place).0

pub only_shortest : (c : Certificate) (blob : List ℕ) → SpellsCertificate c blob → length blob ≡ length (flat (normal_certificate c)) → blob ≡ flat (normal_certificate c)
only_shortest c blob spelled e = spelled.shape ∙ (certificate_shortens c spelled.choices spelled.place).1 (ap length (sym spelled.shape) ∙ e)
