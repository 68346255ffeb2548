-- Nothing is wrong with a draft that tells a certificate; and what is wrong first with one that
-- tells none.
use Rattle.std.proofs.Common.{◌≡◌, ◌≢◌, ◌==◌, ◌↔◌, inl, inr, ◌<◌, ℕ, List, [], ◌∷◌, length, Bool, true, false, cond, nat_lt, Result, Ok, Err, refl, sym, ap, subst, ◌∙◌, arith, lt-ltb}
use Rattle.std.proofs.Math.Bool.{beq}
use Rattle.std.proofs.lemmas.Bool.{cases_lt, eqb-true, eqb-false}
use Rattle.sshkey_model.specs.Certificates.{CertificateType, IsEnd, IsTime, SignedFields, User, Host, is_end, is_time, type_from, type_number}
use Rattle.std.specs.Str.{is_utf8}
use Rattle.sshkey_model.specs.Keys.{Key, Opaque, SpellsKey, key_data_at}
use Rattle.sshkey_model.specs.Options.{each_option, options_value_at}
use Rattle.sshkey_model.specs.Parts.{each, flat}
use Rattle.sshkey_model.specs.Reading.{Fault, Front, Time, whole}
use Rattle.sshkey_model.specs.Texts.{string, texts_at}
use Rattle.sshkey_base.proofs.Accepted.{spelled_whole}
use Rattle.sshkey_base.specs.Causes.{Cause, Faulty, NoMemory}
use Rattle.sshkey_base.specs.Reading.{IsRefused}
use Rattle.sshkey_base.proofs.Lawful.{texts_grammar}
use Rattle.sshkey_terms.specs.Slices.{Keeps}
use Rattle.sshkey_keys.proofs.KeyReaders.{key_grammar}
use Rattle.sshkey_cert_values.proofs.Lawful.{options_grammar}
use Rattle.sshkey_calls.specs.Drafts.{IsCertifiable, IsWrong, TellsFields, certifiable_number, draft_fault, first_number, key_status, list_number, number_of, parts_fault, string_number, text_number}
use Rattle.sshkey_calls.specs.Numbers.{fault_number}
use Rattle.sshkey_calls.proofs.Drafts.{fits_number, short_string}
use Rattle.sshkey_calls.specs.declared.draft.CertificateDraft.{CertificateDraft}

type_right : (t : CertificateType) → number_of (type_from (type_number t)) ≡ 0
type_right User = refl
type_right Host = refl

time_right : (b : Bool) (n : ℕ) → b ≡ true → number_of (cond {A = Result ℕ Fault} b (Ok n) (Err Time)) ≡ 0
time_right true n e = refl
time_right false n e = absurd (cc e)

window_right : (b : Bool) → b ≡ true → ◌≡◌ {A = ℕ} (cond b 0 46) 0
window_right true e = refl
window_right false e = absurd (cc e)

choice_right : (x y : Bool) → x ≡ y → ◌≡◌ {A = ℕ} (cond (beq x y) 0 45) 0
choice_right true true e = refl
choice_right true false e = absurd (cc e)
choice_right false true e = absurd (cc e)
choice_right false false e = refl

module _ (d : CertificateDraft) where
  listed_as : (length d.principals.now ≡ 0) ↔ (d.all_principals ≡ 1) → (length d.principals.now == 0) ≡ (d.all_principals == 1)
  listed_as h = go (length d.principals.now == 0) (d.all_principals == 1) refl refl
    where
      go : (x y : Bool) → (length d.principals.now == 0) ≡ x → (d.all_principals == 1) ≡ y → x ≡ y
      go true true a b = refl
      go false false a b = refl
      go true false a b = absurd (eqb-false d.all_principals 1 b (h.0 (eqb-true (length d.principals.now) 0 a)))
      go false true a b = absurd (eqb-false (length d.principals.now) 0 a (h.1 (eqb-true d.all_principals 1 b)))

  pub told_right : (f : SignedFields) → TellsFields d f → draft_fault d ≡ 0
  told_right f told =
      let kind : number_of (type_from d.certificate_type) ≡ 0 = subst (λ (n : ℕ). number_of (type_from n) ≡ 0) told.certificate_type (type_right f.certificate_type) in
      let after = time_right (is_time d.valid_after) d.valid_after (subst IsTime told.valid_after.0 told.valid_after.1) in
      let before = time_right (is_end d.valid_before) d.valid_before (subst IsEnd told.valid_before.0 told.valid_before.1) in
      let window = window_right (nat_lt d.valid_after d.valid_before) (lt-ltb d.valid_after d.valid_before told.window) in
      let listed = choice_right (length d.principals.now == 0) (d.all_principals == 1) (listed_as told.listed) in
      rw (kind, after, before, window, listed) refl

-- ---- which of several numbers is the first

pub first_here : (a : ℕ) (ns : List ℕ) → 0 < a → first_number (a ∷ ns) ≡ a
first_here a ns some = go (a == 0) refl
  where
    go : (x : Bool) → (a == 0) ≡ x → ◌≡◌ {A = ℕ} (cond x (first_number ns) a) a
    go true e = absurd (let none = eqb-true a 0 e in omega (arith, some, none))
    go false e = refl

pub first_after : (a : ℕ) (ns : List ℕ) → a ≡ 0 → first_number (a ∷ ns) ≡ first_number ns
first_after a ns none = rw none refl

first_alone : (a : ℕ) → first_number (a ∷ []) ≡ a
first_alone a = go (a == 0) refl
  where
    go : (x : Bool) → (a == 0) ≡ x → ◌≡◌ {A = ℕ} (cond x 0 a) a
    go true e = sym (eqb-true a 0 e)
    go false e = refl

pub first_two : (a b : ℕ) → a ≡ 0 → first_number (a ∷ b ∷ []) ≡ b
first_two a b none = first_after a (b ∷ []) none ∙ first_alone b

-- one that is told of two is told of three
pub first_three : (a b c n : ℕ) → 2 < n → n ≡ first_number (a ∷ b ∷ []) → n ≡ first_number (a ∷ b ∷ c ∷ [])
first_three a b c n big is = elim (cases_lt 0 a) [
  | inl some ↦ is ∙ first_here a (b ∷ []) some ∙ sym (first_here a (b ∷ c ∷ []) some)
  | inr most ↦
      let none : a ≡ 0 = omega (arith, most) in
      let second : n ≡ b = is ∙ first_two a b none in
      second ∙ sym (first_after a (b ∷ c ∷ []) none ∙ first_here b (c ∷ []) (omega (arith, big, second)))
]

-- the third is told where the first two are none
pub last_three : (a b c : ℕ) → first_number (a ∷ b ∷ []) ≡ 0 → 0 < c → first_number (a ∷ b ∷ c ∷ []) ≡ c
last_three a b c none last = elim (cases_lt 0 a) [
  | inl some ↦ absurd (let nothing : a ≡ 0 = sym (first_here a (b ∷ []) some) ∙ none in omega (arith, some, nothing))
  | inr most ↦
      let first : a ≡ 0 = omega (arith, most) in
      let second : b ≡ 0 = sym (first_two a b first) ∙ none in
      first_after a (b ∷ c ∷ []) first ∙ first_after b (c ∷ []) second ∙ first_here c [] last
]

-- ---- of one part

pub wrong_part : {asks wants : Type 0} (part all n : ℕ) → (asks → wants) → (0 < part → all ≡ part) → IsWrong n part asks → IsWrong n all wants
wrong_part part all n need same (inl memory) = inl (memory.0, need memory.1)
wrong_part part all n need same (inr told) = inr (told.0, told.1 ∙ sym (same (omega (arith, told.0, told.1))))

-- there is no value that nothing is wrong with
pub no_value : {Y asks : Type 0} (Is : Y → Type 0) (wrong n : ℕ) → ((y : Y) → Is y → wrong ≡ 0) → IsWrong n wrong asks → (n ≢ 0) × (n ≢ 2) × (n ≢ 1 → (y : Y) → Is y → ⊥)
no_value Is wrong n right (inl memory) = (λ e. omega (arith, memory.0, e), λ e. omega (arith, memory.0, e), λ other _ _. other memory.0)
no_value Is wrong n right (inr told) = (λ e. omega (arith, told.0, e), λ e. omega (arith, told.0, e), λ _ y is. let none = right y is in omega (arith, told.0, told.1, none))

pub only_asked : {asks : Type 0} (wrong n : ℕ) → IsWrong n wrong asks → n ≡ 1 → asks
only_asked wrong n (inl memory) one = memory.1
only_asked wrong n (inr told) one = absurd (omega (arith, told.0, one))

pub number_told : {asks : Type 0} (wrong n : ℕ) → IsWrong n wrong asks → n ≢ 1 → (2 < n) × (n ≡ wrong)
number_told wrong n (inl memory) other = absurd (other memory.0)
number_told wrong n (inr told) other = told

-- ---- keys

pub other_key : (k : Key) → (IsCertifiable k → ⊥) → key_status k ≡ 12
other_key (Opaque name k) not = refl
other_key k not = absurd (not refl)

pub certifiable_as : (found : Result Key Fault) → 0 < number_of found → certifiable_number found ≡ number_of found
certifiable_as (Ok k) some = absurd (omega (arith, some))
certifiable_as (Err fault) some = refl

pub key_is : (k : Key) (b : List ℕ) → SpellsKey k b → whole key_data_at b ≡ Ok k
key_is k b spelled = spelled_whole key_grammar b k spelled

-- The number of the fault of bytes that no value keeps.
pub kept_number : {X Y E : Type 0} (bytes_of : X → List ℕ) (cause : E → Cause) (b : List ℕ) (found : Result Y Fault) (e : E) (n : ℕ) → (cause e ≢ NoMemory → (9 < n) × (n < 30)) → ((fault : Fault) → cause e ≡ Faulty fault → n ≡ fault_number fault) → Keeps bytes_of cause found b (Err e) → (2 < n) × (n ≡ number_of found)
kept_number bytes_of cause b (Ok y) e n range told h = absurd h
kept_number bytes_of cause b (Err fault) e n range told h =
    let r = range (λ memory. cc (memory, h)) in
    (omega (arith, r.0), told fault h)

-- ---- what stands in a string

pub listed_long : {A : Type 0} (read : Front A) (b : List ℕ) → 0 < string_number b → list_number read b ≡ string_number b
listed_long read b long = first_here (string_number b) (number_of (whole read (flat (string b))) ∷ []) long

pub listed_right : {A : Type 0} (read : Front A) (b : List ℕ) (x : A) → string_number b ≡ 0 → whole read (flat (string b)) ≡ Ok x → list_number read b ≡ 0
listed_right read b x short is = first_two (string_number b) (number_of (whole read (flat (string b)))) short ∙ ap number_of is

pub listed_wrong : {A : Type 0} (read : Front A) (b : List ℕ) → string_number b ≡ 0 → list_number read b ≡ number_of (whole read (flat (string b)))
listed_wrong read b short = first_two (string_number b) (number_of (whole read (flat (string b)))) short

-- The number of an error with which bytes are refused.
pub refused_number : {Y : Type 0} (found : Result Y Fault) (of_error : Cause) (n wrong : ℕ) → IsRefused 0 of_error found → (of_error ≡ NoMemory → n ≡ 1) → ((fault : Fault) → of_error ≡ Faulty fault → n ≡ fault_number fault) → (of_error ≢ NoMemory → (9 < n) × (n < 30)) → wrong ≡ number_of found → IsWrong n wrong (Unit {0})
refused_number found NoMemory n wrong refused memory fault range is = inl (memory refl, tt)
refused_number (Ok y) of_error n wrong refused memory fault range is = absurd (refused.fault (λ e. cc e) refl)
refused_number (Err met) of_error n wrong refused memory fault range is =
    let r = range (λ e. cc e) in
    inr (omega (arith, r.0), fault met (refused.fault (λ e. cc e) refl) ∙ sym is)

-- ---- texts

pub text_right : (x : Bool) → x ≡ true → ◌≡◌ {A = ℕ} (cond x 0 11) 0
text_right true e = refl
text_right false e = absurd (cc e)

pub no_text : (b : List ℕ) → (is_utf8 b ≡ true → ⊥) → 11 ≡ text_number b
no_text b never_text = go (is_utf8 b) never_text
  where
    go : (x : Bool) → (x ≡ true → ⊥) → ◌≡◌ {A = ℕ} 11 (cond x 0 11)
    go true never = absurd (never refl)
    go false never = refl

-- ---- which part of a draft is wrong first

module _ (d : CertificateDraft) where
  abbrev of_key : ℕ
  of_key = certifiable_number (whole key_data_at d.key.now)

  abbrev of_authority : ℕ
  of_authority = number_of (whole key_data_at d.authority.now)

  abbrev of_key_id : ℕ
  of_key_id = text_number d.key_id.now

  abbrev of_principals : ℕ
  of_principals = list_number texts_at d.principals.now

  abbrev of_critical : ℕ
  of_critical = list_number options_value_at d.critical_options.now

  abbrev of_extensions : ℕ
  of_extensions = list_number options_value_at d.extensions.now

  pub wrong_key : 0 < of_key → parts_fault d ≡ of_key
  wrong_key = first_here of_key (of_authority ∷ of_key_id ∷ of_principals ∷ of_critical ∷ of_extensions ∷ [])

  pub wrong_authority : of_key ≡ 0 → 0 < of_authority → parts_fault d ≡ of_authority
  wrong_authority key some = rw key (first_here of_authority (of_key_id ∷ of_principals ∷ of_critical ∷ of_extensions ∷ []) some)

  pub wrong_key_id : of_key ≡ 0 → of_authority ≡ 0 → 0 < of_key_id → parts_fault d ≡ of_key_id
  wrong_key_id key authority some = rw (key, authority) (first_here of_key_id (of_principals ∷ of_critical ∷ of_extensions ∷ []) some)

  pub wrong_principals : of_key ≡ 0 → of_authority ≡ 0 → of_key_id ≡ 0 → 0 < of_principals → parts_fault d ≡ of_principals
  wrong_principals key authority id_ some = rw (key, authority, id_) (first_here of_principals (of_critical ∷ of_extensions ∷ []) some)

  pub wrong_critical : of_key ≡ 0 → of_authority ≡ 0 → of_key_id ≡ 0 → of_principals ≡ 0 → 0 < of_critical → parts_fault d ≡ of_critical
  wrong_critical key authority id_ principals some = rw (key, authority, id_, principals) (first_here of_critical (of_extensions ∷ []) some)

  pub last_part : of_key ≡ 0 → of_authority ≡ 0 → of_key_id ≡ 0 → of_principals ≡ 0 → of_critical ≡ 0 → parts_fault d ≡ of_extensions
  last_part key authority id_ principals critical = rw (key, authority, id_, principals) (first_two of_critical of_extensions critical)

-- ---- of a draft that tells a certificate

pub no_parts_fault : (d : CertificateDraft) (f : SignedFields) → TellsFields d f → parts_fault d ≡ 0
no_parts_fault d f told =
    let principals = short_string d.principals.now (each string f.valid_principals) told.valid_principals.shape told.valid_principals.fits in
    let critical = short_string d.critical_options.now (each_option f.critical_options told.critical_options.choices) told.critical_options.shape told.critical_options.fits in
    let extensions = short_string d.extensions.now (each_option f.extensions told.extensions.choices) told.extensions.shape told.extensions.fits in
    last_part d
    (ap certifiable_number (key_is f.key d.key.now told.key.0) ∙ told.key.1)
    (ap number_of (key_is f.signature_key d.authority.now told.signature_key))
    (text_right _ (subst (λ (b : List ℕ). is_utf8 b ≡ true) told.key_id.0 told.key_id.1))
    (listed_right texts_at d.principals.now f.valid_principals (fits_number d.principals.now principals) (spelled_whole texts_grammar _ f.valid_principals told.valid_principals))
    (listed_right options_value_at d.critical_options.now f.critical_options (fits_number d.critical_options.now critical) (spelled_whole options_grammar _ f.critical_options told.critical_options))
    ∙ listed_right options_value_at d.extensions.now f.extensions (fits_number d.extensions.now extensions) (spelled_whole options_grammar _ f.extensions told.extensions)

pub no_fault_told : (d : CertificateDraft) (f : SignedFields) → TellsFields d f → first_number (draft_fault d ∷ parts_fault d ∷ []) ≡ 0
no_fault_told d f told = first_two (draft_fault d) (parts_fault d) (told_right d f told) ∙ no_parts_fault d f told
