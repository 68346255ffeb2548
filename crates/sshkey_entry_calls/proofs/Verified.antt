-- The verifier that says to every question what was said to the one.
use Rattle.std.proofs.Common.{◌≡◌, ℕ, List, Bool, Some, None, inl, inr, subst, sym, ◌∙◌}
use Rattle.host_keys.specs.Answers.{IsWhyNoCertificate, IsWhyNoCertifiedKey, IsWhyUnknown, NoMemory, NotRead, OtherKey, RefusesAsked, RefusesHostCertificate, Unsigned}
use Rattle.host_keys.specs.Hosts.{HostCheck, IsGoodFor, IsHostCertificate, IsKnownBy, IsTrustedCertificate, OfAsked, plain_name, signers}
use Rattle.host_keys.specs.declared.known_by.KnownBy.{KnownBy}
use Rattle.host_keys.specs.declared.known_by.KnownBy.TheVariants.{Authority, CertifiedKey}
use Rattle.host_keys.specs.declared.refusal.HostRefusal.{HostRefusal}
use Rattle.host_keys.specs.declared.refusal.HostRefusal.TheVariants as refusal
use Rattle.sshkey_calls.specs.Validations.{Verified, is_yes_number}
use Rattle.sshkey_calls.proofs.Validations.{same_first_of, same_signed}
use Rattle.sshkey_krl.specs.Revocation.{CertificateIdentity}
use Rattle.sshkey_model.specs.Certificates.{Certificate, SpellsCertificate}
use Rattle.sshkey_model.specs.Refusals.{first_refusal_for, is_signed}
use Rattle.sshkey_model.specs.Verification.{Question}
use Rattle.sshkey_model.proofs.Refusals.{none_where_wanted}
use Rattle.sshkey_entry_calls.specs.Revocations.{one_revokes, one_revokes_key}
use Rattle.sshkey_entry_calls.specs.Hosts.{JudgesCertificate, TellsCertificate, login_with}
use Rattle.sshkey_entry_calls.specs.declared.host_request.HostRequest as code

-- ---- where both find the same

module _ (one other : Question → Bool) (t : ℕ) (host : List ℕ) (c : Certificate) (same : first_refusal_for one (signers c) t host c ≡ first_refusal_for other (signers c) t host c) where
  good_there : IsGoodFor one t host c → IsGoodFor other t host c
  good_there is =
      let none : first_refusal_for one (signers c) t host c ≡ None = (none_where_wanted one (signers c) t host c).1 is.valid in
      record { fields = is.fields; valid = (none_where_wanted other (signers c) t host c).0 (sym same ∙ none) }

module _ (login : HostCheck) (one other : Question → Bool) (revokes : List ℕ → CertificateIdentity → Bool) (revokes_key : List ℕ → Bool) (c : Certificate) (same : first_refusal_for one (signers c) login.time (plain_name login.host) c ≡ first_refusal_for other (signers c) login.time (plain_name login.host) c) (same_signed : is_signed one c ≡ is_signed other c) where
  trusted_there : IsTrustedCertificate login one revokes c → IsTrustedCertificate login other revokes c
  trusted_there is = record { trusted_by = is.trusted_by; unrevoked = is.unrevoked; accepted = is.accepted; good = good_there one other login.time (plain_name login.host) c same is.good }

  trusted_here : IsTrustedCertificate login other revokes c → IsTrustedCertificate login one revokes c
  trusted_here is = record { trusted_by = is.trusted_by; unrevoked = is.unrevoked; accepted = is.accepted; good = good_there other one login.time (plain_name login.host) c (sym same) is.good }

  known_there : (by : KnownBy) → IsKnownBy login one revokes revokes_key c by → IsKnownBy login other revokes revokes_key c by
  known_there Authority is = trusted_there is
  known_there CertifiedKey is = record {
    refused = λ t. is.refused (trusted_here t);
    unrevoked = is.unrevoked;
    no_line = is.no_line;
    none_hidden = is.none_hidden;
    key = record { read = is.key.read; key = is.key.key; signed = sym same_signed ∙ is.key.signed };
  }

  why_there : (r : HostRefusal) → IsWhyNoCertificate login one revokes c r → IsWhyNoCertificate login other revokes c r
  why_there (refusal.Invalid first) why = (why.0, why.1, why.2, (why.3.0, sym same ∙ why.3.1))
  why_there (refusal.Certificate e) why = why
  why_there refusal.Revoked why = why
  why_there refusal.Unreadable why = why
  why_there refusal.Changed why = why
  why_there refusal.Unknown why = why
  why_there refusal.UnacceptedKey why = why
  why_there refusal.NotNormalForm why = why
  why_there (refusal.Host f) why = why
  why_there refusal.Memory why = why

  no_key_there : (r : HostRefusal) → IsWhyNoCertifiedKey login one revokes_key c r → IsWhyNoCertifiedKey login other revokes_key c r
  no_key_there r (NotRead s unread) = NotRead s unread
  no_key_there r (OtherKey read s why) = OtherKey read s why
  no_key_there r (Unsigned read key none) = Unsigned read key (λ signed. none (same_signed ∙ signed))
  no_key_there r NoMemory = NoMemory

  unknown_there : (r : HostRefusal) → IsWhyUnknown login one revokes revokes_key c r → IsWhyUnknown login other revokes revokes_key c r
  unknown_there r why = record {
    first = why.first;
    certificate = why_there why.first why.certificate;
    key = elim why.key [
      | inl final ↦ inl final
      | inr both ↦ inr (both.0, (both.1.0, no_key_there both.1.0 both.1.1, both.1.2))
    ];
  }

-- ---- what is told

module _ (login : HostCheck) (accepts : Question → Bool) (revokes : List ℕ → CertificateIdentity → Bool) (revokes_key : List ℕ → Bool) (bytes : List ℕ) (is_verified : ℕ) (v : Verified accepts bytes is_verified) where
  abbrev said : Question → Bool
  said _ = is_yes_number is_verified

  same : (c : Certificate) → SpellsCertificate c bytes → (host : List ℕ) → first_refusal_for said (signers c) login.time (plain_name host) c ≡ first_refusal_for accepts (signers c) login.time (plain_name host) c
  same c spelled host = same_first_of accepts bytes is_verified v c spelled (signers c) login.time (Some (plain_name host))

  signed : (c : Certificate) → SpellsCertificate c bytes → is_signed said c ≡ is_signed accepts c
  signed c spelled = same_signed accepts bytes is_verified v c spelled

  -- under the name that is asked
  asked_there : (one other : Question → Bool) (c : Certificate) (by : KnownBy) → ((host : List ℕ) → first_refusal_for one (signers c) login.time (plain_name host) c ≡ first_refusal_for other (signers c) login.time (plain_name host) c) → is_signed one c ≡ is_signed other c → OfAsked login (λ asked. IsKnownBy asked one revokes revokes_key c by) → OfAsked login (λ asked. IsKnownBy asked other revokes revokes_key c by)
  asked_there one other c by same same_sign is = record { name = is.name; asked = is.asked; holds = known_there (record login { host = is.name }) one other revokes revokes_key c (same is.name) same_sign by is.holds }

  why_asked : (c : Certificate) → SpellsCertificate c bytes → (r : HostRefusal) → RefusesAsked login (λ asked. IsWhyUnknown asked said revokes revokes_key c) r → RefusesAsked login (λ asked. IsWhyUnknown asked accepts revokes revokes_key c) r
  why_asked c spelled r (inl fault) = inl fault
  why_asked c spelled r (inr is) = inr (record { name = is.name; asked = is.asked; holds = unknown_there (record login { host = is.name }) said accepts revokes revokes_key c (same c spelled is.name) (signed c spelled) r is.holds })

  pub holds_there : (by : KnownBy) → IsHostCertificate login said revokes revokes_key bytes by → IsHostCertificate login accepts revokes revokes_key bytes by
  holds_there by is = record { certificate = is.certificate; spelled = is.spelled; normal = is.normal; trusted = asked_there said accepts is.certificate by (same is.certificate is.spelled) (signed is.certificate is.spelled) is.trusted }

  pub holds_back : (by : KnownBy) → IsHostCertificate login accepts revokes revokes_key bytes by → IsHostCertificate login said revokes revokes_key bytes by
  holds_back by is = record { certificate = is.certificate; spelled = is.spelled; normal = is.normal; trusted = asked_there accepts said is.certificate by (λ host. sym (same is.certificate is.spelled host)) (sym (signed is.certificate is.spelled)) is.trusted }

  pub refuses_there : (r : HostRefusal) → RefusesHostCertificate login said revokes revokes_key bytes r → RefusesHostCertificate login accepts revokes revokes_key bytes r
  refuses_there r (inl unread) = inl unread
  refuses_there r (inr (c, spelled, inl other)) = inr (c, spelled, inl other)
  refuses_there r (inr (c, spelled, inr why)) = inr (c, spelled, inr (why.0, why_asked c spelled r why.1))

-- ---- from what was said to each such verifier

pub told : (l : code.HostRequest) (lines : List (List ℕ)) (bytes : List ℕ) (is_verified by n : ℕ) (b : Bool) → b ≡ is_yes_number is_verified → JudgesCertificate l lines (λ _. b) bytes by n → TellsCertificate l lines bytes is_verified by n
told l lines bytes is_verified by n b same judges not_memory =
    let j = subst (λ (y : Bool). JudgesCertificate l lines (λ _. y) bytes by n) same judges not_memory in (
      j.0,
      j.1,
      λ accepts v. record {
        yes_ = λ zero_.
            let k = j.2.yes_ zero_ in
            (k.0, holds_there (login_with l lines) accepts (one_revokes j.0) (one_revokes_key j.0) bytes is_verified v k.0 k.1, k.2);
        no_ = λ some other known holds. j.2.no_ some other known (holds_back (login_with l lines) accepts (one_revokes j.0) (one_revokes_key j.0) bytes is_verified v known holds);
        first = λ some other.
            let w = j.2.first some other in
            (w.0, refuses_there (login_with l lines) accepts (one_revokes j.0) (one_revokes_key j.0) bytes is_verified v w.0 w.1, w.2);
      },
    )
