-- What the worked examples cite: a host, what is said of it, and a certificate with all parts.
use Rattle.std.proofs.Common.{◌≡◌, ◌≢◌, ◌⊎◌, ◌||◌, ℕ, zero, suc, ◌<◌, ◌≤◌, ◌^◌, Bool, true, false, bytes_eq, List, [], ◌∷◌, codes, None, Some, inl, inr, refl, sym, subst, ◌∙◌, arith}
use Rattle.std.specs.Fmt.{digits}
use Rattle.std.specs.List.{All, list_all, list_any}
use Rattle.std.specs.Prelude.{Contains}
use Rattle.std.proofs.lemmas.Slice.Eq.{bytes_eq-Decides}
use Rattle.openssh_limits.specs.Limits.{AreReadPrincipals, openssh_accepts_key}
use Rattle.sshkey_matching.specs.AskedHosts.{IsAsked}
use Rattle.sshkey_matching.proofs.AskedHosts.{one_asked}
use Rattle.sshkey_entries.specs.HostVerdicts.{IsAuthority, Lists}
use Rattle.sshkey_entries.specs.KnownHosts.{CertAuthority}
use Rattle.sshkey_known_hosts.specs.Examples.{by_line, host, line}
use Rattle.sshkey_known_hosts.specs.Hmac.{hmac_sha1}
use Rattle.sshkey_known_hosts.specs.Verdicts.{IsVerdict}
use Rattle.sshkey_matching.specs.Patterns.{patterns}
use Rattle.sshkey_known_hosts.specs.declared.verdict.Verdict.{Verdict}
use Rattle.sshkey_known_hosts.specs.declared.verdict.Verdict.TheVariants as verdict
use Rattle.sshkey_known_hosts.proofs.ExampleLemmas.{apart, host_fits, host_line, of_authority, of_each, of_none, of_unnamed, pair, said_of_host, unnamed_at_port}
use Rattle.sshkey_known_hosts.proofs.Verdicts.{first, one_verdict}
use Rattle.sshkey_model.specs.CertificateExamples.{authority}
use Rattle.sshkey_model.specs.Certificates.{SignedFields}
use Rattle.sshkey_model.specs.KeyExamples.{ed25519_key}
use Rattle.sshkey_model.specs.Keys.{Key}
use Rattle.sshkey_model.specs.Lines.{IsWithout}
use Rattle.sshkey_model.specs.Options.{CertificateOption}
use Rattle.sshkey_model.proofs.Base64Words.{is_other_than}
use Rattle.sshkey_model.proofs.LineTests.{all_characters, lacks}
use Rattle.sshkey_cert.specs.Validity.{IsSigned}
use Rattle.host_keys.specs.Examples.{TrustsFields, fields, of_fields, trusted_by}
use Rattle.host_keys.specs.Hosts.{AreForHosts, HasTrustedKey, HostCheck, IsHostKey, IsSaidOfKey, IsSaidOfSigned, IsVerdictOfSigned}
use Rattle.host_keys.proofs.HostKeys.{one_said, one_verdict as one_signed}

pub never : false ≡ true → ⊥
never e = cc

-- ---- names

pub asked : (port : ℕ) → port ≢ 0 → IsAsked (codes "H.Example") port (codes "H.Example")
asked port some = record { some_port = some; some_host = λ e. cc; asked = inl (refl, refl) }

pub asked_other : IsAsked (codes "g.example") 22 (codes "g.example")
asked_other = record { some_port = λ e. omega (arith, e); some_host = λ e. cc; asked = inl (refl, refl) }

-- ---- keys

-- what is said of the key by the name that is asked, and not that it is trusted
pub untrusted : (l : HostCheck) (name : List ℕ) → IsAsked l.host l.port name → (v : Verdict) (k : Key) → IsSaidOfKey l.hmac name l.port k l.lines v → v ≢ verdict.Trusted → (revokes : List ℕ → Bool) → ¬ IsHostKey l revokes k
untrusted l name is v k said other revokes t =
    let same = one_asked l.host l.port t.name name t.asked is in
    other (one_said (λ n. IsVerdict l.hmac n k l.lines) name l.port (λ n a b. one_verdict l.hmac n k l.lines a b) v verdict.Trusted said (subst (λ (n : List ℕ). IsSaidOfKey l.hmac n l.port k l.lines verdict.Trusted) same t.holds.listed))

-- ---- keys that are signed

-- an authority's line alone
pub signed_by : IsVerdictOfSigned hmac_sha1 host authority ed25519_key (by_line ∷ []) verdict.Trusted
signed_by = (
  λ either. elim either [
    | inl a ↦ said_of_host.2.1.0 a
    | inr b ↦ said_of_host.2.0.0 b
  ],
  said_of_host.2.0.1,
  of_authority host by_line (Some CertAuthority) _ [] (host_line (Some CertAuthority)) refl host_fits,
)

pub unmarked_none : ¬ IsAuthority hmac_sha1 host ed25519_key (line None host ∷ [])
unmarked_none = of_none host (line None host) None _ [] (host_line None) ed25519_key (λ mark same fits. cc mark)

pub no_other_authority : ¬ IsAuthority hmac_sha1 host authority (by_line ∷ [])
no_other_authority = of_none host by_line (Some CertAuthority) _ [] (host_line (Some CertAuthority)) authority (λ mark same fits. apart same)

-- ---- certificates

pub all_free : (names : List (List ℕ)) → list_all (all_characters (is_other_than 0)) names ≡ true → All (IsWithout 0) names
all_free = of_each (all_characters (is_other_than 0)) (IsWithout 0) (λ name e. lacks 0 name e)

pub two_names : AreForHosts fields.valid_principals
two_names = record { some = λ e. cc; read = record { few = omega arith; no_zero = all_free fields.valid_principals refl } }

-- the certificate with all its parts, by what is said
pub trusts : (port time end_ : ℕ) (extensions : List CertificateOption) → IsSaidOfSigned hmac_sha1 (codes "H.Example") port authority ed25519_key (by_line ∷ []) verdict.Trusted → 100 ≤ time → time < end_ → time < 2 ^ 63 → TrustsFields (record trusted_by { port = port; time = time }) (record fields { valid_before = end_; extensions = extensions })
trusts port time end_ extensions said begun lasts small = record {
  trusted_by = said;
  unrevoked = refl;
  accepted = refl;
  good = record {
    fields = record { for_hosts = refl; no_options = refl; key_id = lacks 0 (codes "id") refl; principals = two_names };
    valid = record {
      valid = record { signature = refl; authority = (0, omega arith, refl); time = small; after = begun; before = lasts };
      allowed = inr (0, omega arith, refl);
    };
  };
}

pub at_standard : IsSaidOfSigned hmac_sha1 (codes "H.Example") 22 authority ed25519_key (by_line ∷ []) verdict.Trusted
at_standard = inl ((λ e. cc e), signed_by)

-- at another port nothing is said, and then the plain name is asked
pub at_port : IsSaidOfSigned hmac_sha1 (codes "H.Example") 2222 authority ed25519_key (by_line ∷ []) verdict.Trusted
unfolding digits patterns
at_port =
    let nothing = of_unnamed (codes "[h.example]:2222", host) refl (Some CertAuthority) in
    inr (
      (
        λ either. elim either [
          | inl a ↦ nothing.1.0 a
          | inr b ↦ nothing.0.0 b
        ],
        nothing.0.1,
        of_none (codes "[h.example]:2222") by_line (Some CertAuthority) _ [] (host_line (Some CertAuthority)) ed25519_key (λ mark same fits. unnamed_at_port fits),
      ),
      signed_by,
    )

-- nobody trusts it where no line has its authority's key as an authority's
pub unsaid : (lines : List (List ℕ)) → ¬ IsAuthority hmac_sha1 host ed25519_key lines → (f : SignedFields) → f.signature_key ≡ ed25519_key → ¬ TrustsFields (record trusted_by { lines = lines }) f
unsaid lines none f by t = elim (subst (λ (k : Key). IsSaidOfSigned hmac_sha1 (codes "H.Example") 22 f.key k lines verdict.Trusted) by t.trusted_by) [
  | inl a ↦ none a.1.2
  | inr b ↦ none b.1.2
]

either_true : (b : Bool) → (b || true) ≡ true
either_true true = refl
either_true false = refl

found : (name : List ℕ) (names : List (List ℕ)) → Contains names name → list_any (bytes_eq name) names ≡ true
found name [] (k, below, is) = absurd (omega (arith, below))
found name (n ∷ names) (zero, below, is) = rw ((bytes_eq-Decides name n).1 (sym is)) refl
found name (n ∷ names) (suc k, below, is) = rw (found name names (k, omega (arith, below), is)) (either_true (bytes_eq name n))

-- some principals, and not the name
not_listed : (name : List ℕ) (names : List (List ℕ)) → names ≢ [] → list_any (bytes_eq name) names ≡ false → (names ≡ []) ⊎ Contains names name → ⊥
not_listed name names some absent allowed = elim allowed [
  | inl none ↦ some none
  | inr among ↦ never (sym absent ∙ found name names among)
]

pub unlisted : (names : List (List ℕ)) → names ≢ [] → list_any (bytes_eq host) names ≡ false → (names ≡ []) ⊎ Contains names host → ⊥
unlisted = not_listed host

pub unlisted_capitals : (fields.valid_principals ≡ []) ⊎ Contains fields.valid_principals (codes "H.Example") → ⊥
unlisted_capitals = not_listed (codes "H.Example") fields.valid_principals (λ e. cc e) refl

-- ---- certified keys

-- what is said of a certificate by its two keys is not something else
pub unsaid_other : (l : HostCheck) (key signer : Key) (v w : Verdict) → IsSaidOfSigned l.hmac l.host l.port key signer l.lines v → v ≢ w → ¬ IsSaidOfSigned l.hmac l.host l.port key signer l.lines w
unsaid_other l key signer v w said other s = other (one_said (λ n. IsVerdictOfSigned l.hmac n key signer l.lines) l.host l.port (λ n a b. one_signed l.hmac n l.lines key signer a b) v w said s)

-- by the line that lists its key, and none of its authority
pub by_line_of_key : IsSaidOfSigned hmac_sha1 (codes "H.Example") 22 ed25519_key authority (line None host ∷ []) verdict.Unknown
by_line_of_key =
    let plain = said_of_host.0 in
    let says : IsVerdictOfSigned hmac_sha1 host ed25519_key authority (line None host ∷ []) verdict.Unknown = (
      λ either. elim either [ inl a ↦ plain.0.0 a | inr b ↦ plain.1.0 b ],
      plain.0.1,
      of_none host (line None host) None _ [] (host_line None) authority (λ mark same fits. cc mark),
    ) in
    inr (says, says)

-- by the line of its authority, and the one that lists its key
pub by_both_lines : IsSaidOfSigned hmac_sha1 (codes "H.Example") 22 ed25519_key ed25519_key (by_line ∷ line None host ∷ []) verdict.Trusted
by_both_lines =
    let both = pair host by_line (line None host) verdict.Unknown verdict.Unknown verdict.Trusted verdict.Changed said_of_host.2 said_of_host.0 in
    inl (
      (λ e. cc e),
      (
        λ either. elim either [ inl a ↦ both.0.0 a | inr b ↦ both.0.0 b ],
        both.0.1,
        first (Lists hmac_sha1 host (Some CertAuthority) ed25519_key) (by_line ∷ []) (line None host ∷ []) (of_authority host by_line (Some CertAuthority) _ [] (host_line (Some CertAuthority)) refl host_fits),
      ),
    )

-- the key is the host's, and ssh reads the certificate
pub key_of_fields : (l : HostCheck) (f : SignedFields) → IsSaidOfKey l.hmac l.host l.port f.key l.lines verdict.Trusted → openssh_accepts_key l.least_rsa_bits f.key ≡ true → openssh_accepts_key 0 f.signature_key ≡ true → IsWithout 0 f.key_id → AreReadPrincipals f.valid_principals → IsSigned (λ q. true) (of_fields f) → HasTrustedKey l (λ q. true) (λ key. false) (of_fields f)
key_of_fields l f said accepted signer id principals signed = record {
  read = record { signer = signer; key_id = id; principals = principals };
  key = record { listed = said; unrevoked = refl; accepted = accepted };
  signed = signed;
}
