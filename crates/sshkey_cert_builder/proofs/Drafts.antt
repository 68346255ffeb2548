-- One more text.
use Rattle.std.proofs.Common.{◌≡◌, List, ◌++◌, map, ◌<◌, ◌≤◌, Bool, Contains, Result, Ok, Err, IfOk, IfErr, ℕ, subst, sym, ap, ◌∙◌, inl, inr, true, false, Option, Some, None, refl, option_map}
use Rattle.std.proofs.lemmas.List.{map-append}
use Rattle.sshkey_model.specs.Parts.{flat}
use Rattle.sshkey_model.specs.Names.{Sha256}
use Rattle.sshkey_model.specs.Keys.{Key}
use Rattle.sshkey_model.specs.Certificates.{SignedFields, Certificate as TheCertificate, normal_to_be_signed}
use Rattle.sshkey_model.specs.Drafts.{Draft, drafted, IsSignedDraft, DraftField, once}
use Rattle.sshkey_model.specs.Fingerprints.{fingerprint}
use Rattle.sshkey_model.specs.Verification.{Question, IsAccepted}
use Rattle.sshkey_model.proofs.SignedDrafts.{signed_through}
use Rattle.sshkey_base.specs.declared.error.Error.{Error}
use Rattle.sshkey_keys.specs.Keys.{key_of}
use Rattle.sshkey_keys.specs.declared.key_data.KeyData.{KeyData}
use Rattle.sshkey_cert.specs.Certificates.{certificate_of}
use Rattle.sshkey_cert.specs.Signing.{RefusesExactly, RefusesToSign}
use Rattle.sshkey_cert.specs.declared.certificate.Certificate.{Certificate}
use Rattle.sshkey_cert_builder.specs.Builders.{IsValidExactlyIn, field_error, RefusesAlways}
use Rattle.std.specs.Prelude.{is_some}

pub map_added : {A B : Type 0} (f : A → B) (xs ys : List A) → map f (xs ++ ys) ≡ map f xs ++ map f ys
map_added f xs ys = map-append f xs ys

-- What a builder signs is its draft.

-- what is signed is what was drafted, under the signer's key
pub drafted_by : (d : Draft) (u : SignedFields) (copy key other : KeyData) → u ≡ drafted d (key_of copy) → key_of copy ≡ key_of key → key ≡ other → u ≡ drafted d (key_of other)
drafted_by d u copy key other fields value is = fields ∙ ap (λ (k : Key). drafted d k) (value ∙ ap key_of is)

module _ (accepts : Question → Bool) (k : Key) (d : Draft) (u : SignedFields) (same : u ≡ drafted d k) where
  pub signed_of : (r : Result Certificate Error) → IfOk r (λ c. (certificate_of c).signed ≡ u) → IfOk r (λ c. IsAccepted accepts k (flat (normal_to_be_signed u)) (certificate_of c).signature) → IfOk r (λ c. IsSignedDraft accepts k d (certificate_of c))
  signed_of (Ok c) fields signed = record { fields = fields ∙ same; signature = subst (λ (w : SignedFields). IsAccepted accepts k (flat (normal_to_be_signed w)) (certificate_of c).signature) same signed }
  signed_of (Err e) fields signed = tt

module _ (accepts : Question → Bool) (k : Key) (d : Draft) where
  -- and it is valid exactly in the window that was drafted
  valid_exactly : (c : TheCertificate) → IsSignedDraft accepts k d c → IsValidExactlyIn accepts (fingerprint Sha256 k) d.valid_after d.valid_before c
  valid_exactly c signed fingerprints t =
      let key : c.signed.signature_key ≡ k = ap (λ (u : SignedFields). u.signature_key) signed.fields in
      let from : c.signed.valid_after ≡ d.valid_after = ap (λ (u : SignedFields). u.valid_after) signed.fields in
      let to : c.signed.valid_before ≡ d.valid_before = ap (λ (u : SignedFields). u.valid_before) signed.fields in (
        λ valid. (subst (λ (j : Key). Contains fingerprints (fingerprint Sha256 j)) key valid.authority, valid.time, subst (λ (n : ℕ). n ≤ t) from valid.after, subst (λ (n : ℕ). t < n) to valid.before),
        λ within. signed_through accepts k d c signed fingerprints t within.0 within.1 (subst (λ (n : ℕ). n ≤ t) (sym from) within.2) (subst (λ (n : ℕ). t < n) (sym to) within.3),
      )

  pub valid_of : (r : Result Certificate Error) → IfOk r (λ c. IsSignedDraft accepts k d (certificate_of c)) → IfOk r (λ c. IsValidExactlyIn accepts (fingerprint Sha256 k) d.valid_after d.valid_before (certificate_of c))
  valid_of (Ok c) signed = valid_exactly (certificate_of c) signed
  valid_of (Err e) signed = tt

memory_aside : (refuses : List ℕ → Error → Type 0) (u : SignedFields) (e : Error) → RefusesExactly refuses u e → RefusesToSign refuses u e
memory_aside refuses u e (inl long) = λ other. inl long
memory_aside refuses u e (inr (fits, inl memory)) = λ other. absurd (other memory)
memory_aside refuses u e (inr (fits, inr own)) = λ other. inr (fits, own)

pub refused_of : (refuses : List ℕ → Error → Type 0) (u d : SignedFields) (r : Result Certificate Error) → u ≡ d → IfErr r (RefusesExactly refuses u) → IfErr r (RefusesToSign refuses d)
refused_of refuses u d (Ok c) same h = tt
refused_of refuses u d (Err e) same h = subst (λ (w : SignedFields). RefusesToSign refuses w e) same (memory_aside refuses u e h)

-- A field is set once.

module _ {A : Type 0} (field : DraftField) (d : Draft) where
  pub once_taken : (x : Option A) → is_some x ≡ false → once x field d ≡ Ok d
  once_taken None e = refl
  once_taken (Some x) e = absurd (cc e)

  pub once_refused : (x : Option A) → is_some x ≡ true → RefusesAlways (once x field d) (field_error field)
  once_refused None e = absurd (cc e)
  once_refused (Some x) e = refl

pub mapped_some : {A B : Type 0} (f : A → B) (x : Option A) → is_some (option_map f x) ≡ is_some x
mapped_some f None = refl
mapped_some f (Some x) = refl
