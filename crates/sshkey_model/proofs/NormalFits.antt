-- Where one spelling fits, the normal form does, and is no longer.
use Rattle.std.proofs.Common.{◌≡◌, ℕ, ◌≤◌, List, [], ◌∷◌, length, None, Some, refl, sym, subst, arith}
use Rattle.std.proofs.lemmas.List.{length-append}
use Rattle.sshkey_model.specs.Parts.{Parts, nothing, box, ◌&◌, flat, Fits, InRange, BoxesFit}
use Rattle.sshkey_model.specs.Texts.{string}
use Rattle.sshkey_model.specs.Names.{Sha256, Sha512, Algorithm, algorithm, hash}
use Rattle.sshkey_model.specs.Keys.{Key, Head, Plain, Head256, Head512, IsKey, HasKeyPlaces, key_algorithm, body, key, normal_key}
use Rattle.sshkey_model.specs.Options.{CertificateOption, Nesting, Nested, option_value, option, each_option, options, AreOptions, HasNesting, HasOptionPlaces, plain_nestings, normal_options}
use Rattle.sshkey_model.specs.Certificates.{SignedFields, AreSignedFields, CertificateChoices, HaveSignedPlaces, to_be_signed, normal_to_be_signed, IsCertificate, HasCertificatePlaces, certificate, normal_certificate}
use Rattle.sshkey_model.specs.Signatures.{signature}
use Rattle.sshkey_model.specs.SshSignatures.{IsSshSignature, HasSshSignaturePlaces, ssh_signature, normal_ssh_signature}
use Rattle.sshkey_model.specs.Laws.{NormalFits}
use Rattle.sshkey_model.proofs.CombinedReaders.{fits_both, fits_first, fits_second, fits_box, fits_inside, fits_length}

-- The second fits where the first does, and is no longer.
abbrev Shrinks : Parts → Parts → Type 0
Shrinks p q = Fits p → Fits q × (length (flat q) ≤ length (flat p))

same : (p : Parts) → Shrinks p p
same p f = (f, omega arith)

both : (p q r s : Parts) → Shrinks p r → Shrinks q s → Shrinks (p & q) (r & s)
unfolding flat
both p q r s first second f =
    let a = first (fits_first p q f) in
    let b = second (fits_second p q f) in
    (fits_both r s a.0 b.0, omega (arith, a.1, b.1, length-append (flat p) (flat q), length-append (flat r) (flat s)))

boxed : (p q : Parts) → Shrinks p q → Shrinks (box p) (box q)
unfolding flat
boxed p q inner f =
    let a = inner (fits_inside p f) in
    (fits_box q (omega (arith, a.1, fits_length p f)) a.0, omega (arith, a.1))

-- ---- keys

plain_256 : Shrinks (algorithm (Algorithm.Rsa (Some Sha256))) (algorithm (Algorithm.Rsa None))
unfolding flat InRange BoxesFit
plain_256 f = (record { range = refl; boxes = (omega arith, tt) }, omega arith)

plain_512 : Shrinks (algorithm (Algorithm.Rsa (Some Sha512))) (algorithm (Algorithm.Rsa None))
unfolding flat InRange BoxesFit
plain_512 f = (record { range = refl; boxes = (omega arith, tt) }, omega arith)

-- an RSA key under another name
renamed : (a : Algorithm) (k : Key) → Shrinks (algorithm a) (algorithm (Algorithm.Rsa None)) → key_algorithm k ≡ Algorithm.Rsa None → Shrinks (algorithm a & body k) (normal_key k)
renamed a k name is = subst (λ (b : Algorithm). Shrinks (algorithm a & body k) (algorithm b & body k)) (sym is) (both (algorithm a) (body k) (algorithm (Algorithm.Rsa None)) (body k) name (same (body k)))

key_shrinks : (k : Key) (h : Head) → HasKeyPlaces k h → Shrinks (key k h) (normal_key k)
key_shrinks k Plain has = same (normal_key k)
key_shrinks k Head256 has = renamed (Algorithm.Rsa (Some Sha256)) k plain_256 has
key_shrinks k Head512 has = renamed (Algorithm.Rsa (Some Sha512)) k plain_512 has

pub key_fits : NormalFits IsKey HasKeyPlaces key normal_key
key_fits k h is has f = (key_shrinks k h has f).0

-- ---- options

empty_shrinks : Shrinks (string []) nothing
unfolding flat InRange BoxesFit
empty_shrinks f = (record { range = tt; boxes = tt }, omega arith)

value_shrinks : (v : List ℕ) (n : Nesting) → HasNesting v n → Shrinks (option_value v n) (option_value v Nesting.Plain)
value_shrinks v Nesting.Plain has = same (option_value v Nesting.Plain)
value_shrinks v Nested has = subst (λ (w : List ℕ). Shrinks (option_value w Nested) (option_value w Nesting.Plain)) (sym has) empty_shrinks

option_shrinks : (o : CertificateOption) (n : Nesting) → HasNesting o.value n → Shrinks (option o n) (option o Nesting.Plain)
option_shrinks o n has = both (string o.name) (box (option_value o.value n)) (string o.name) (box (option_value o.value Nesting.Plain)) (same (string o.name)) (boxed (option_value o.value n) (option_value o.value Nesting.Plain) (value_shrinks o.value n has))

each_shrinks : (os : List CertificateOption) (ns : List Nesting) → HasOptionPlaces os ns → Shrinks (each_option os ns) (each_option os (plain_nestings os))
unfolding HasOptionPlaces
each_shrinks [] [] has = same nothing
each_shrinks (o ∷ os) (n ∷ ns) has = both (option o n) (each_option os ns) (option o Nesting.Plain) (each_option os (plain_nestings os)) (option_shrinks o n has.0) (each_shrinks os ns has.1)
each_shrinks _ _ has = absurd has

options_shrink : (os : List CertificateOption) (ns : List Nesting) → HasOptionPlaces os ns → Shrinks (options os ns) (normal_options os)
options_shrink os ns has = boxed (each_option os ns) (each_option os (plain_nestings os)) (each_shrinks os ns has)

pub options_fit : NormalFits AreOptions HasOptionPlaces options normal_options
options_fit os ns is has f = (options_shrink os ns has f).0

-- ---- certificates

-- a part that is spelled in one way, and then the others
after : (p q s : Parts) → Shrinks q s → Shrinks (p & q) (p & s)
after p q s others = both p q p s (same p) others

signed_fields_shrink : (c : SignedFields) (s : CertificateChoices) → HaveSignedPlaces c s → Shrinks (to_be_signed c s) (normal_to_be_signed c)
signed_fields_shrink c s has = after _ _ _ (after _ _ _ (after _ _ _ (after _ _ _ (after _ _ _ (after _ _ _ (after _ _ _ (after _ _ _ (after _ _ _ (
    both _ _ _ _ (options_shrink c.critical_options s.critical_options has.critical_options) (
    both _ _ _ _ (options_shrink c.extensions s.extensions has.extensions) (
    after _ _ _ (boxed _ _ (key_shrinks c.signature_key s.signature_key has.signature_key)))))))))))))

pub signed_fields_fit : NormalFits AreSignedFields HaveSignedPlaces to_be_signed normal_to_be_signed
signed_fields_fit c s is has f = (signed_fields_shrink c s has f).0

pub certificate_fits : NormalFits IsCertificate HasCertificatePlaces certificate normal_certificate
certificate_fits c s is has f = (both _ _ _ _ (signed_fields_shrink c.signed s has) (same (box (signature c.signature))) f).0

-- ---- SSH signatures

pub ssh_signature_fits : NormalFits IsSshSignature HasSshSignaturePlaces ssh_signature normal_ssh_signature
ssh_signature_fits g h is has f = (after _ _ _ (after _ _ _ (both _ _ _ _ (boxed _ _ (key_shrinks g.key h has)) (same (string g.namespace & string g.reserved & hash g.hash & box (signature g.signature))))) f).0
