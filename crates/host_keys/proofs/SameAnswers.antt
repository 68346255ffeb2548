-- What is answered of a host by other lines that say the same of it.
use Rattle.std.proofs.Common.{◌≡◌, ◌≢◌, ◌⊎◌, ◌↔◌, ℕ, Bool, List, IfErr, Result, Ok, Err, inl, inr, refl, subst, sym}
use Rattle.sshkey_known_hosts.specs.HeldLines.{SaySame}
use Rattle.sshkey_known_hosts.specs.Verdicts.{IsVerdict}
use Rattle.sshkey_known_hosts.specs.declared.verdict.Verdict.{Verdict}
use Rattle.sshkey_known_hosts.specs.declared.verdict.Verdict.TheVariants.{Changed, Revoked, Trusted, Unknown, Unreadable}
use Rattle.sshkey_entries.specs.HostVerdicts.{known_name}
use Rattle.sshkey_matching.specs.AskedHosts.{IsAsked, IsHostFault}
use Rattle.sshkey_matching.specs.declared.host.HostFault.TheVariants as fault
use Rattle.openssh_limits.specs.Limits.{openssh_accepts_key}
use Rattle.sshkey_krl.specs.Revocation.{CertificateIdentity}
use Rattle.sshkey_krl.specs.Revocations.{is_certificate_revoked, is_key_revoked}
use Rattle.sshkey_model.specs.Certificates.{Certificate}
use Rattle.sshkey_model.specs.Keys.{Key}
use Rattle.sshkey_model.specs.Verification.{Question}
use Rattle.host_keys.specs.Answers.{IsWhy, IsWhyNoCertifiedKey, IsWhyNoKey, IsWhyUnknown, NoMemory, NotRead, OtherKey, RefusesAsked, RefusesHostCertificate, RefusesHostKey, Unsigned}
use Rattle.host_keys.specs.Hosts.{SayTheSame, HostCheck, IsBadFor, IsEitherRevoked, IsHostCertificate, IsHostKey, IsKnownBy, IsSaid, IsSaidOfKey, IsSaidOfSigned, IsTrustedCertificate, IsTrustedKey, IsVerdictOfSigned, OfAsked, are_accepted, plain_name}
use Rattle.host_keys.specs.declared.known_by.KnownBy.{KnownBy}
use Rattle.host_keys.specs.declared.known_by.KnownBy.TheVariants.{Authority, CertifiedKey}
use Rattle.host_keys.specs.declared.refusal.HostRefusal.{HostRefusal}
use Rattle.host_keys.specs.declared.refusal.HostRefusal.TheVariants as refusal

-- ---- verdicts

turned : {P Q : Type 0} → P ↔ Q → Q ↔ P
turned same = (same.1, same.0)

turn : (hmac : List ℕ → List ℕ → List ℕ) (name : List ℕ) (xs ys : List (List ℕ)) → SaySame hmac name xs ys → SaySame hmac name ys xs
turn hmac name xs ys same = record { revoked = λ key. turned (same.revoked key); hidden = turned same.hidden; listed = λ key. turned (same.listed key); known = turned same.known; authority = λ key. turned (same.authority key) }

module _ (hmac : List ℕ → List ℕ → List ℕ) (name : List ℕ) (xs ys : List (List ℕ)) (same : SaySame hmac name xs ys) where
  to_verdict : (key : Key) (v : Verdict) → IsVerdict hmac name key xs v → IsVerdict hmac name key ys v
  to_verdict key Revoked a = (same.revoked key).0 a
  to_verdict key Unreadable a = (λ r. a.0 ((same.revoked key).1 r), same.hidden.0 a.1)
  to_verdict key Trusted a = (λ r. a.0 ((same.revoked key).1 r), λ h. a.1 (same.hidden.1 h), (same.listed key).0 a.2)
  to_verdict key Changed a = (λ r. a.0 ((same.revoked key).1 r), λ h. a.1 (same.hidden.1 h), λ l. a.2 ((same.listed key).1 l), same.known.0 a.3)
  to_verdict key Unknown a = (λ r. a.0 ((same.revoked key).1 r), λ h. a.1 (same.hidden.1 h), λ k. a.2 (same.known.1 k))

  module _ (key signer : Key) where
    to_either : IsEitherRevoked hmac name key signer xs → IsEitherRevoked hmac name key signer ys
    to_either (inl r) = inl ((same.revoked key).0 r)
    to_either (inr r) = inr ((same.revoked signer).0 r)

    from_either : IsEitherRevoked hmac name key signer ys → IsEitherRevoked hmac name key signer xs
    from_either (inl r) = inl ((same.revoked key).1 r)
    from_either (inr r) = inr ((same.revoked signer).1 r)

    to_signed : (v : Verdict) → IsVerdictOfSigned hmac name key signer xs v → IsVerdictOfSigned hmac name key signer ys v
    to_signed Revoked a = to_either a
    to_signed Unreadable a = (λ r. a.0 (from_either r), same.hidden.0 a.1)
    to_signed Trusted a = (λ r. a.0 (from_either r), λ h. a.1 (same.hidden.1 h), (same.authority signer).0 a.2)
    to_signed Unknown a = (λ r. a.0 (from_either r), λ h. a.1 (same.hidden.1 h), λ k. a.2 ((same.authority signer).1 k))
    to_signed Changed a = a

-- ---- what is said

to_said : (Says Tells : List ℕ → Verdict → Type 0) (host : List ℕ) (port : ℕ) → ((v : Verdict) → Says (known_name host port) v → Tells (known_name host port) v) → ((v : Verdict) → Says (plain_name host) v → Tells (plain_name host) v) → (v : Verdict) → IsSaid Says host port v → IsSaid Tells host port v
to_said Says Tells host port own plain v (inl s) = inl (s.0, own v s.1)
to_said Says Tells host port own plain v (inr s) = inr (own Unknown s.0, plain v s.1)

to_why : (Said Told : Verdict → Type 0) (revoked accepted : Bool) (Bad : HostRefusal → Type 0) → ((v : Verdict) → Said v → Told v) → (r : HostRefusal) → IsWhy Said revoked accepted Bad r → IsWhy Told revoked accepted Bad r
to_why Said Told revoked accepted Bad to refusal.Revoked (inl is) = inl is
to_why Said Told revoked accepted Bad to refusal.Revoked (inr said) = inr (to Revoked said)
to_why Said Told revoked accepted Bad to refusal.Unreadable w = (w.0, to Unreadable w.1)
to_why Said Told revoked accepted Bad to refusal.Changed w = (w.0, to Changed w.1)
to_why Said Told revoked accepted Bad to refusal.Unknown w = (w.0, to Unknown w.1)
to_why Said Told revoked accepted Bad to refusal.UnacceptedKey w = (w.0, to Trusted w.1, w.2)
to_why Said Told revoked accepted Bad to (refusal.Certificate e) w = (w.0, to Trusted w.1, w.2, w.3)
to_why Said Told revoked accepted Bad to (refusal.Invalid first) w = (w.0, to Trusted w.1, w.2, w.3)
to_why Said Told revoked accepted Bad to refusal.NotNormalForm w = w
to_why Said Told revoked accepted Bad to (refusal.Host f) w = w
to_why Said Told revoked accepted Bad to refusal.Memory w = tt

-- ---- of a host under one name

-- The same host by other lines, which say the same of it.
module _ (login : HostCheck) (lines : List (List ℕ)) (own : SaySame login.hmac (known_name login.host login.port) login.lines lines) (plain : SaySame login.hmac (plain_name login.host) login.lines lines) where
  abbrev thin : HostCheck
  thin = record login { lines = lines }

  said_to : (key : Key) (v : Verdict) → IsSaidOfKey login.hmac login.host login.port key login.lines v → IsSaidOfKey login.hmac login.host login.port key lines v
  said_to key = to_said (λ name. IsVerdict login.hmac name key login.lines) (λ name. IsVerdict login.hmac name key lines) login.host login.port (to_verdict _ _ _ _ own key) (to_verdict _ _ _ _ plain key)

  said_from : (key : Key) (v : Verdict) → IsSaidOfKey login.hmac login.host login.port key lines v → IsSaidOfKey login.hmac login.host login.port key login.lines v
  said_from key = to_said (λ name. IsVerdict login.hmac name key lines) (λ name. IsVerdict login.hmac name key login.lines) login.host login.port (to_verdict _ _ _ _ (turn _ _ _ _ own) key) (to_verdict _ _ _ _ (turn _ _ _ _ plain) key)

  signed_to : (key signer : Key) (v : Verdict) → IsSaidOfSigned login.hmac login.host login.port key signer login.lines v → IsSaidOfSigned login.hmac login.host login.port key signer lines v
  signed_to key signer = to_said (λ name. IsVerdictOfSigned login.hmac name key signer login.lines) (λ name. IsVerdictOfSigned login.hmac name key signer lines) login.host login.port (to_signed _ _ _ _ own key signer) (to_signed _ _ _ _ plain key signer)

  signed_from : (key signer : Key) (v : Verdict) → IsSaidOfSigned login.hmac login.host login.port key signer lines v → IsSaidOfSigned login.hmac login.host login.port key signer login.lines v
  signed_from key signer = to_said (λ name. IsVerdictOfSigned login.hmac name key signer lines) (λ name. IsVerdictOfSigned login.hmac name key signer login.lines) login.host login.port (to_signed _ _ _ _ (turn _ _ _ _ own) key signer) (to_signed _ _ _ _ (turn _ _ _ _ plain) key signer)

  module _ (revokes_key : List ℕ → Bool) (key : Key) where
    key_to : IsTrustedKey login revokes_key key → IsTrustedKey thin revokes_key key
    key_to t = record { listed = said_to key Trusted t.listed; unrevoked = t.unrevoked; accepted = t.accepted }

    key_from : IsTrustedKey thin revokes_key key → IsTrustedKey login revokes_key key
    key_from t = record { listed = said_from key Trusted t.listed; unrevoked = t.unrevoked; accepted = t.accepted }

    why_no_key : (r : HostRefusal) → IsWhyNoKey thin revokes_key key r → IsWhyNoKey login revokes_key key r
    why_no_key = to_why (IsSaidOfKey login.hmac login.host login.port key lines) (IsSaidOfKey login.hmac login.host login.port key login.lines) (is_key_revoked revokes_key key) (openssh_accepts_key login.least_rsa_bits key) (λ r. ⊥) (said_from key)

  module _ (accepts : Question → Bool) (revokes : List ℕ → CertificateIdentity → Bool) (revokes_key : List ℕ → Bool) (c : Certificate) where
    certificate_to : IsTrustedCertificate login accepts revokes c → IsTrustedCertificate thin accepts revokes c
    certificate_to t = record { trusted_by = signed_to _ _ Trusted t.trusted_by; unrevoked = t.unrevoked; accepted = t.accepted; good = t.good }

    certificate_from : IsTrustedCertificate thin accepts revokes c → IsTrustedCertificate login accepts revokes c
    certificate_from t = record { trusted_by = signed_from _ _ Trusted t.trusted_by; unrevoked = t.unrevoked; accepted = t.accepted; good = t.good }

    by_to : (by : KnownBy) → IsKnownBy login accepts revokes revokes_key c by → IsKnownBy thin accepts revokes revokes_key c by
    by_to Authority t = certificate_to t
    by_to CertifiedKey t = record {
      refused = λ trusted. t.refused (certificate_from trusted);
      unrevoked = t.unrevoked;
      no_line = λ s. t.no_line (signed_from _ _ Revoked s);
      none_hidden = λ s. t.none_hidden (signed_from _ _ Unreadable s);
      key = record { read = t.key.read; key = key_to revokes_key c.signed.key t.key.key; signed = t.key.signed };
    }

    by_from : (by : KnownBy) → IsKnownBy thin accepts revokes revokes_key c by → IsKnownBy login accepts revokes revokes_key c by
    by_from Authority t = certificate_from t
    by_from CertifiedKey t = record {
      refused = λ trusted. t.refused (certificate_to trusted);
      unrevoked = t.unrevoked;
      no_line = λ s. t.no_line (signed_to _ _ Revoked s);
      none_hidden = λ s. t.none_hidden (signed_to _ _ Unreadable s);
      key = record { read = t.key.read; key = key_from revokes_key c.signed.key t.key.key; signed = t.key.signed };
    }

    why_no_certified : (r : HostRefusal) → IsWhyNoCertifiedKey thin accepts revokes_key c r → IsWhyNoCertifiedKey login accepts revokes_key c r
    why_no_certified r (NotRead s unread) = NotRead s unread
    why_no_certified r (OtherKey read s why) = OtherKey read s (why_no_key revokes_key c.signed.key s why)
    why_no_certified r (Unsigned read key unsigned) = Unsigned read (key_from revokes_key c.signed.key key) unsigned
    why_no_certified r NoMemory = NoMemory

    why_unknown : (r : HostRefusal) → IsWhyUnknown thin accepts revokes revokes_key c r → IsWhyUnknown login accepts revokes revokes_key c r
    why_unknown r w = record {
      first = w.first;
      certificate = to_why (IsSaidOfSigned login.hmac login.host login.port c.signed.key c.signed.signature_key lines) (IsSaidOfSigned login.hmac login.host login.port c.signed.key c.signed.signature_key login.lines) (is_certificate_revoked revokes c) (are_accepted login.least_rsa_bits c.signed.key c.signed.signature_key) (IsBadFor accepts login.time (plain_name login.host) c) (signed_from c.signed.key c.signed.signature_key) w.first w.certificate;
      key = elim w.key [
        | inl last ↦ inl last
        | inr more ↦ inr (more.0, (more.1.0, why_no_certified more.1.0 more.1.1, more.1.2))
      ];
    }

-- ---- of the host as it is asked

module _ (login : HostCheck) (lines : List (List ℕ)) (same : SayTheSame login lines) where
  abbrev thinned : HostCheck
  thinned = record login { lines = lines }

  -- what holds of one under each name holds of the other
  module _ (Holds Follows : HostCheck → Type 0) where
    asked_to : ((name : List ℕ) → SaySame login.hmac (known_name name login.port) login.lines lines → SaySame login.hmac (plain_name name) login.lines lines → Holds (record login { host = name }) → Follows (record thinned { host = name })) → OfAsked login Holds → OfAsked thinned Follows
    asked_to to of = let s = same of.name of.asked in record { name = of.name; asked = of.asked; holds = to of.name s.0 s.1 of.holds }

    asked_from : ((name : List ℕ) → SaySame login.hmac (known_name name login.port) login.lines lines → SaySame login.hmac (plain_name name) login.lines lines → Follows (record thinned { host = name }) → Holds (record login { host = name })) → OfAsked thinned Follows → OfAsked login Holds
    asked_from from of = let s = same of.name of.asked in record { name = of.name; asked = of.asked; holds = from of.name s.0 s.1 of.holds }

  module _ (revokes_key : List ℕ → Bool) (key : Key) where
    pub host_key_to : IsHostKey login revokes_key key → IsHostKey thinned revokes_key key
    host_key_to = asked_to (λ l. IsTrustedKey l revokes_key key) (λ l. IsTrustedKey l revokes_key key) (λ name own plain. key_to (record login { host = name }) lines own plain revokes_key key)

    pub host_key_from : IsHostKey thinned revokes_key key → IsHostKey login revokes_key key
    host_key_from = asked_from (λ l. IsTrustedKey l revokes_key key) (λ l. IsTrustedKey l revokes_key key) (λ name own plain. key_from (record login { host = name }) lines own plain revokes_key key)

    pub key_refused : (r : HostRefusal) → RefusesHostKey thinned revokes_key key r → RefusesHostKey login revokes_key key r
    key_refused r (inl fault) = inl fault
    key_refused r (inr of) = inr (asked_from (λ l. IsWhyNoKey l revokes_key key r) (λ l. IsWhyNoKey l revokes_key key r) (λ name own plain. why_no_key (record login { host = name }) lines own plain revokes_key key r) of)

    pub refuses_key : (r : Result (Unit {0}) HostRefusal) → IfErr r (RefusesHostKey thinned revokes_key key) → IfErr r (RefusesHostKey login revokes_key key)
    refuses_key (Ok u) why = tt
    refuses_key (Err e) why = key_refused e why

  module _ (accepts : Question → Bool) (revokes : List ℕ → CertificateIdentity → Bool) (revokes_key : List ℕ → Bool) (blob : List ℕ) where
    pub host_to : (by : KnownBy) → IsHostCertificate login accepts revokes revokes_key blob by → IsHostCertificate thinned accepts revokes revokes_key blob by
    host_to by is = record {
      certificate = is.certificate;
      spelled = is.spelled;
      normal = is.normal;
      trusted = asked_to (λ l. IsKnownBy l accepts revokes revokes_key is.certificate by) (λ l. IsKnownBy l accepts revokes revokes_key is.certificate by) (λ name own plain. by_to (record login { host = name }) lines own plain accepts revokes revokes_key is.certificate by) is.trusted;
    }

    pub host_from : (by : KnownBy) → IsHostCertificate thinned accepts revokes revokes_key blob by → IsHostCertificate login accepts revokes revokes_key blob by
    host_from by is = record {
      certificate = is.certificate;
      spelled = is.spelled;
      normal = is.normal;
      trusted = asked_from (λ l. IsKnownBy l accepts revokes revokes_key is.certificate by) (λ l. IsKnownBy l accepts revokes revokes_key is.certificate by) (λ name own plain. by_from (record login { host = name }) lines own plain accepts revokes revokes_key is.certificate by) is.trusted;
    }

    asked_refused : (c : Certificate) (r : HostRefusal) → RefusesAsked thinned (λ asked. IsWhyUnknown asked accepts revokes revokes_key c) r → RefusesAsked login (λ asked. IsWhyUnknown asked accepts revokes revokes_key c) r
    asked_refused c r (inl fault) = inl fault
    asked_refused c r (inr of) = inr (asked_from (λ l. IsWhyUnknown l accepts revokes revokes_key c r) (λ l. IsWhyUnknown l accepts revokes revokes_key c r) (λ name own plain. why_unknown (record login { host = name }) lines own plain accepts revokes revokes_key c r) of)

    pub certificate_refused : (r : HostRefusal) → RefusesHostCertificate thinned accepts revokes revokes_key blob r → RefusesHostCertificate login accepts revokes revokes_key blob r
    certificate_refused r (inl fault) = inl fault
    certificate_refused r (inr (c, spelled, inl other)) = inr (c, spelled, inl other)
    certificate_refused r (inr (c, spelled, inr (normal, why))) = inr (c, spelled, inr (normal, asked_refused c r why))

    pub refuses_certificate : (r : Result KnownBy HostRefusal) → IfErr r (λ e. e ≢ refusal.Memory → RefusesHostCertificate thinned accepts revokes revokes_key blob e) → IfErr r (λ e. e ≢ refusal.Memory → RefusesHostCertificate login accepts revokes revokes_key blob e)
    refuses_certificate (Ok by) why = tt
    refuses_certificate (Err e) why = λ other. certificate_refused e (why other)

-- ---- where memory ran out

module _ (login : HostCheck) (revokes_key : List ℕ → Bool) (key : Key) where
  pub key_memory : (r : HostRefusal) → r ≡ refusal.Memory → IsHostFault login.host login.port fault.Memory ⊎ ((name : List ℕ) × IsAsked login.host login.port name) → RefusesHostKey login revokes_key key r
  key_memory r is (inl of_address) = inl (fault.Memory, of_address, inl (refl, is))
  key_memory r is (inr named) = inr (record { name = named.0; asked = named.1; holds = subst (IsWhyNoKey (record login { host = named.0 }) revokes_key key) (sym is) tt })
