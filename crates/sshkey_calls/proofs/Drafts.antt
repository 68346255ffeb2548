-- The one certificate that a draft tells.
use Rattle.std.proofs.Common.{◌≡◌, ◌≢◌, ◌<◌, ◌^◌, ℕ, List, [], length, Bool, true, false, cond, nat_lt, ◌⊎◌, inl, inr, refl, sym, ap, subst, ◌∙◌, arith, length-append, lt-ltb, ltb-true}
use Rattle.std.specs.Int.{w32, to_be_bytes}
use Rattle.sshkey_base.specs.Causes.{Faulty, NoMemory, cause, widened}
use Rattle.sshkey_base.specs.declared.encoding.Error as narrow
use Rattle.sshkey_base.specs.declared.encoding.Error.TheVariants as encoding
use Rattle.sshkey_base.specs.declared.error.Error.{Error}
use Rattle.sshkey_base.specs.declared.error.Error.TheVariants as wide
use Rattle.sshkey_base.proofs.Lawful.{texts_grammar}
use Rattle.sshkey_keys.proofs.KeyReaders.{key_grammar}
use Rattle.sshkey_model.specs.Certificates.{CertificateType, SignedFields, User, Host, normal_to_be_signed, type_number}
use Rattle.sshkey_model.specs.Keys.{Key, SpellsKey}
use Rattle.sshkey_model.specs.Options.{CertificateOption, SpellsOptions}
use Rattle.sshkey_model.specs.Parts.{BoxesFit, Fits, Parts, box, flat}
use Rattle.sshkey_model.specs.Reading.{Fault, Length}
use Rattle.sshkey_model.specs.Texts.{string, SpellsTexts}
use Rattle.sshkey_model.proofs.CombinedReaders.{fits_length, wide32}
use Rattle.sshkey_model.proofs.Grammars.{one_front}
use Rattle.sshkey_cert_values.proofs.Lawful.{options_grammar}
use Rattle.sshkey_calls.specs.Drafts.{FitsString, IsToBeSigned, IsWrong, TellsFields, string_number}
use Rattle.sshkey_calls.specs.Numbers.{fault_number}
use Rattle.sshkey_calls.specs.Writing.{WritesContent}
use Rattle.sshkey_calls.proofs.Rooms.{told_as}
use Rattle.sshkey_calls.specs.declared.draft.CertificateDraft.{CertificateDraft}

-- ---- what was not found

-- what is in a string is shorter than 2^32 bytes
pub short_string : (b : List ℕ) (p : Parts) → flat (string b) ≡ flat (box p) → Fits (box p) → length b < 2 ^ 32
unfolding flat
short_string b p same fits = omega (arith, ap length same, length-append (to_be_bytes w32 (length b)) b, length-append (to_be_bytes w32 (length (flat p))) (flat p), wide32.len (length b), wide32.len (length (flat p)), fits_length p fits)

pub is_string : (b v : List ℕ) → Fits (string b) × (v ≡ flat (string b)) → (v ≡ flat (string b)) × (length b < 2 ^ 32)
unfolding flat BoxesFit
is_string b v made = (made.1, made.0.boxes.0)

pub fits_number : (b : List ℕ) → FitsString b → string_number b ≡ 0
fits_number b fits = go (nat_lt (length b) (2 ^ 32)) (lt-ltb (length b) (2 ^ 32) fits)
  where
    go : (x : Bool) → x ≡ true → ◌≡◌ {A = ℕ} (cond x 0 13) 0
    go true e = refl
    go false e = absurd (cc e)

pub long_number : (b : List ℕ) → (FitsString b → ⊥) → string_number b ≡ 13
long_number b long = go (nat_lt (length b) (2 ^ 32)) (λ e. long (ltb-true (length b) (2 ^ 32) e))
  where
    go : (x : Bool) → (x ≡ true → ⊥) → ◌≡◌ {A = ℕ} (cond x 0 13) 13
    go true never = absurd (never refl)
    go false never = refl

-- It is out of memory only for a string that is short enough, and else the string is too long.
pub short_or_long : (b : List ℕ) (e : narrow.Error) (n : ℕ) → ((BoxesFit (string b) → ⊥) × (e ≡ encoding.Length)) ⊎ (BoxesFit (string b) × (e ≡ encoding.Memory)) → (cause (widened e) ≡ NoMemory → n ≡ 1) → ((f : Fault) → cause (widened e) ≡ Faulty f → n ≡ fault_number f) → IsWrong n (string_number b) (FitsString b)
unfolding flat BoxesFit
short_or_long b e n (inl long) memory told =
    let is : n ≡ 13 = told Length (ap (λ (x : narrow.Error). cause (widened x)) long.1) in
    inr (omega (arith, is), is ∙ sym (long_number b (λ short. long.0 (short, tt))))
short_or_long b e n (inr out) memory told = inl (memory (ap (λ (x : narrow.Error). cause (widened x)) out.1), out.0.0)

-- ---- the bytes spell one value only

pub one_key : (k l : Key) (b : List ℕ) → SpellsKey k b → SpellsKey l b → k ≡ l
one_key k l b spelled other = (one_front key_grammar k l b b [] [] spelled other refl).0

one_type : (t u : CertificateType) → type_number t ≡ type_number u → t ≡ u
one_type User User e = refl
one_type Host Host e = refl
one_type User Host e = absurd (omega (arith, e))
one_type Host User e = absurd (omega (arith, e))

one_texts : (ps qs : List (List ℕ)) (b : List ℕ) → SpellsTexts ps b → SpellsTexts qs b → ps ≡ qs
one_texts ps qs b spelled other = (one_front texts_grammar ps qs b b [] [] spelled other refl).0

one_options : (os ps : List CertificateOption) (b : List ℕ) → SpellsOptions os b → SpellsOptions ps b → os ≡ ps
one_options os ps b spelled other = (one_front options_grammar os ps b b [] [] spelled other refl).0

fields_with : List ℕ → Key → ℕ → CertificateType → List ℕ → List (List ℕ) → ℕ → ℕ → List CertificateOption → List CertificateOption → List ℕ → Key → SignedFields
fields_with n k s t i ps a b os es r g = record { nonce = n; key = k; serial = s; certificate_type = t; key_id = i; valid_principals = ps; valid_after = a; valid_before = b; critical_options = os; extensions = es; reserved = r; signature_key = g }

same_fields : (f g : SignedFields) → f.nonce ≡ g.nonce → f.key ≡ g.key → f.serial ≡ g.serial → f.certificate_type ≡ g.certificate_type → f.key_id ≡ g.key_id → f.valid_principals ≡ g.valid_principals → f.valid_after ≡ g.valid_after → f.valid_before ≡ g.valid_before → f.critical_options ≡ g.critical_options → f.extensions ≡ g.extensions → f.reserved ≡ g.reserved → f.signature_key ≡ g.signature_key → f ≡ g
unfolding fields_with
same_fields f g n k s t i ps a b os es r e =
    let same : fields_with f.nonce f.key f.serial f.certificate_type f.key_id f.valid_principals f.valid_after f.valid_before f.critical_options f.extensions f.reserved f.signature_key ≡ fields_with g.nonce g.key g.serial g.certificate_type g.key_id g.valid_principals g.valid_after g.valid_before g.critical_options g.extensions g.reserved g.signature_key = rw (n, k, s, t, i, ps, a, b, os, es, r, e) refl in
    same

pub one_told : (d : CertificateDraft) (f g : SignedFields) → TellsFields d f → TellsFields d g → f ≡ g
one_told d f g told other =
    let nonce : f.nonce ≡ g.nonce = told.nonce ∙ sym other.nonce in
    let key : f.key ≡ g.key = one_key f.key g.key d.key.now told.key.0 other.key.0 in
    let serial : f.serial ≡ g.serial = told.serial ∙ sym other.serial in
    let kind : f.certificate_type ≡ g.certificate_type = one_type f.certificate_type g.certificate_type (told.certificate_type ∙ sym other.certificate_type) in
    let key_id : f.key_id ≡ g.key_id = told.key_id.0 ∙ sym other.key_id.0 in
    let principals : f.valid_principals ≡ g.valid_principals = one_texts f.valid_principals g.valid_principals _ told.valid_principals other.valid_principals in
    let after : f.valid_after ≡ g.valid_after = told.valid_after.0 ∙ sym other.valid_after.0 in
    let before : f.valid_before ≡ g.valid_before = told.valid_before.0 ∙ sym other.valid_before.0 in
    let critical : f.critical_options ≡ g.critical_options = one_options f.critical_options g.critical_options _ told.critical_options other.critical_options in
    let extensions : f.extensions ≡ g.extensions = one_options f.extensions g.extensions _ told.extensions other.extensions in
    let reserved : f.reserved ≡ g.reserved = told.reserved ∙ sym other.reserved in
    let authority : f.signature_key ≡ g.signature_key = one_key f.signature_key g.signature_key d.authority.now told.signature_key other.signature_key in
    same_fields f g nonce key serial kind key_id principals after before critical extensions reserved authority

-- ---- what is to be signed

pub to_be_signed_told : (d : CertificateDraft) (f : SignedFields) → TellsFields d f → (n was needed : ℕ) (before after : List ℕ) → WritesContent (λ s. Fits (normal_to_be_signed f) × (s ≡ flat (normal_to_be_signed f))) n was needed before after → WritesContent (IsToBeSigned d) n was needed before after
to_be_signed_told d f told n was needed before after = told_as n was needed before after
    (λ s is. (f, told, is.0, is.1))
    (λ s is. subst (λ (g : SignedFields). Fits (normal_to_be_signed g) × (s ≡ flat (normal_to_be_signed g))) (one_told d is.0 f is.1 told) (is.2, is.3))

-- a box of it is too long, or memory was out
pub unfit : (p : Parts) (e : Error) (n : ℕ) → ((BoxesFit p → ⊥) × (e ≡ wide.Encoding encoding.Length)) ⊎ (BoxesFit p × (e ≡ wide.Memory)) → (cause e ≡ NoMemory → n ≡ 1) → n ≢ 1 → Fits p → ⊥
unfit p e n (inl long) memory other fits = long.0 fits.boxes
unfit p e n (inr out) memory other fits = other (memory (ap cause out.1))

pub long_or_out : (p : Parts) (e : Error) (n : ℕ) → ((BoxesFit p → ⊥) × (e ≡ wide.Encoding encoding.Length)) ⊎ (BoxesFit p × (e ≡ wide.Memory)) → (cause e ≡ NoMemory → n ≡ 1) → ((f : Fault) → cause e ≡ Faulty f → n ≡ fault_number f) → n ≢ 1 → n ≡ 13
long_or_out p e n (inl long) memory told other = told Length (ap cause long.1)
long_or_out p e n (inr out) memory told other = absurd (other (memory (ap cause out.1)))
