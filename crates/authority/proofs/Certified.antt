-- What a builder that was told of a request signs.
use Rattle.std.proofs.Common.{◌≡◌, ◌≢◌, ◌∙◌, ℕ, List, [], ◌∷◌, Bool, Result, Ok, Err, IfOk, IfErr, subst, sym}
use Rattle.std.specs.Prelude.{Option, None, Some, IsNone, IsSome, option_map, string_bytes}
use Rattle.ssh_key.specs.cert.Certificates.{certificate_of, comment_of}
use Rattle.ssh_key.specs.cert.Signing.{PermitsToSign, RefusesToSign}
use Rattle.ssh_key.specs.cert_builder.Builders.{IsValidExactlyIn, RefusesAlways, field_error, no_principals}
use Rattle.ssh_key.specs.keys.Keys.{key_of}
use Rattle.ssh_key.specs.model.Certificates.{SignedFields}
use Rattle.ssh_key.specs.model.Drafts.{Draft, DraftField, IsSignedDraft, KeyId, Serial, after_step, begun, drafted, or_default}
use Rattle.ssh_key.specs.model.Fingerprints.{fingerprint}
use Rattle.ssh_key.specs.model.Keys.{Key}
use Rattle.ssh_key.specs.model.Names.{Sha256}
use Rattle.ssh_key.specs.model.Verification.{Question}
use Rattle.ssh_key.specs.types.Certificate.{Certificate}
use Rattle.ssh_key.specs.types.Error.{Error}
use Rattle.authority.specs.Issuance.{CertifiesExactly, extensions_of, fields_for, names_of}
use Rattle.authority.specs.declared.request.Request.{Request}
use Rattle.authority.proofs.Drafts.{draft_for, not_none, signed_fields, some_names, with_names}

-- ---- steps that are not refused

pub no_bad_window : (bad : Option DraftField) (e : Error) → bad ≡ None → option_map field_error bad ≡ Some e → ⊥
no_bad_window None e none some = cc
no_bad_window (Some f) e none some = cc

pub serial_is_taken : (nonce : List ℕ) (key : Key) (serial after before : ℕ) (d : Draft) (e : Error) → d ≡ begun nonce key after before → RefusesAlways (after_step (Serial serial) d) e → ⊥
serial_is_taken nonce key serial after before d e is refused = rw is at refused

pub key_id_is_taken : (nonce : List ℕ) (key : Key) (serial after before : ℕ) (key_id : List ℕ) (d : Draft) (e : Error) → d ≡ record (begun nonce key after before) { serial = Some serial } → RefusesAlways (after_step (KeyId key_id) d) e → ⊥
key_id_is_taken nonce key serial after before key_id d e is refused = rw is at refused

-- ---- what the signer is asked

names_some : (names : List (List ℕ)) → IsSome (with_names names) → names ≢ []
names_some [] some = absurd cc
names_some (n ∷ names) some = λ none. absurd cc

pub permitted : (permits : List ℕ → Type 0) (authority : Key) (r : Request) (serial : ℕ) (nonce : List ℕ) (d : Draft) → d ≡ draft_for nonce (key_of r.key) serial (string_bytes r.key_id) (names_of r) (extensions_of r) r.valid_after r.valid_before → (names_of r ≢ [] → PermitsToSign permits (fields_for r serial nonce authority)) → IsSome d.valid_principals → PermitsToSign permits (drafted d authority)
permitted permits authority r serial nonce d is may some =
    let named = names_some (names_of r) (subst (λ (x : Draft). IsSome x.valid_principals) is some) in
    subst (λ (x : Draft). PermitsToSign permits (drafted x authority)) (sym is) (subst (PermitsToSign permits) (sym (signed_fields nonce (key_of r.key) serial (string_bytes r.key_id) (names_of r) (extensions_of r) r.valid_after r.valid_before authority named)) (may named))

-- ---- signed

no_error : (c : Certificate) → Ok c ≡ Err no_principals → ⊥
no_error c same = cc

pub certified : (accepts : Question → Bool) (authority : Key) (refuses : List ℕ → Error → Type 0) (r : Request) (serial : ℕ) (nonce : List ℕ) (d : Draft) → d ≡ draft_for nonce (key_of r.key) serial (string_bytes r.key_id) (names_of r) (extensions_of r) r.valid_after r.valid_before → (result : Result Certificate Error) → (IsNone d.valid_principals → result ≡ Err no_principals) → IfOk result (λ c. IsSignedDraft accepts authority d (certificate_of c)) → IfOk result (λ c. comment_of c ≡ or_default [] d.comment) → IfOk result (λ c. IsValidExactlyIn accepts (fingerprint Sha256 authority) d.valid_after d.valid_before (certificate_of c)) → (IsSome d.valid_principals → IfErr result (RefusesToSign refuses (drafted d authority))) → CertifiesExactly accepts authority refuses r serial nonce result
certified accepts authority refuses r serial nonce d is (Ok c) unnamed signed comment valid refused =
    let none = rw is at unnamed in
    let some = not_none (names_of r) (λ nobody. no_error c (none nobody)) in
    record {
      fields = signed.fields ∙ rw is (signed_fields nonce (key_of r.key) serial (string_bytes r.key_id) (names_of r) (extensions_of r) r.valid_after r.valid_before authority some);
      no_comment = rw is at comment;
      valid = rw is at valid;
    }
certified accepts authority refuses r serial nonce d is (Err e) unnamed signed comment valid refused = λ window some.
    let why = rw is at refused in
    subst (λ (s : SignedFields). RefusesToSign refuses s e) (signed_fields nonce (key_of r.key) serial (string_bytes r.key_id) (names_of r) (extensions_of r) r.valid_after r.valid_before authority some) (why (some_names (names_of r) some))
