-- Where a login is refused, nothing is granted.
use Rattle.std.proofs.Common.{◌≡◌, ℕ, List, Some, None, Option, inl, inr, subst, sym}
use Rattle.login_policy.proofs.Logins as policies
use Rattle.login_policy.specs.Logins as policy
use Rattle.login_policy.specs.Refusals.{RefusesLogin}
use Rattle.login_policy.specs.declared.refusal.LoginRefusal.{LoginRefusal}
use Rattle.sshkey_cert.proofs.Certificates.{certificate_grammar}
use Rattle.sshkey_model.proofs.Grammars.{one_front}
use Rattle.sshkey_model.proofs.LinesApart.{blobs_apart}
use Rattle.sshkey_model.proofs.Refusals.{none_where_wanted}
use Rattle.sshkey_model.specs.Certificates.{Certificate}
use Rattle.sshkey_model.specs.Fingerprints.{Fingerprint}
use Rattle.sshkey_model.specs.Keys.{Key}
use Rattle.sshkey_model.specs.Verification.{Question}
use Rattle.sshkey_userauth.specs.declared.judgement.name.KeyForm.{KeyForm}
use Rattle.sshkey_userauth.specs.declared.judgement.name.KeyForm.TheVariants.{Certified, Plain}
use Rattle.publickey_login.proofs.Grants.{one_certificate, one_key, authority_ends, one_source}
use Rattle.publickey_login.proofs.Searches.{found_ends, found_stops, goes_stops}
use Rattle.publickey_login.specs.Grants.{Grants, GrantsCertificate, GrantsKey, policy_login}
use Rattle.publickey_login.specs.Sources.{Files, InCertificate, Login, Principals, Text, AuthorityLine, Found, KeyLine, PrincipalLine, AuthorityGoesOn, IsCertificateSource, IsKeySource, IsOfAuthority, IsOfPrincipals, PrincipalsGoOn, authorities_of, user_of}
use Rattle.publickey_login.specs.Stops.{IsRefusedByPolicy, IsStopped, IsWhyNoAuthority, IsWhyNoCertificate, IsWhyNoKey, IsWhyNoKeySource, IsWhyNoSource, IsWhyNothing}
use Rattle.publickey_login.specs.declared.grant.PublickeyGrant.{PublickeyGrant}
use Rattle.publickey_login.specs.declared.grant.Source.{Source}
use Rattle.publickey_login.specs.declared.grant.Source.TheVariants as source
use Rattle.publickey_login.specs.declared.refusal.PublickeyRefusal.{PublickeyRefusal}

module _ (l : Login) (r : PublickeyRefusal) where
  -- ---- a key

  module _ (k : Key) where
    no_key_source : IsWhyNoKeySource l k r → (s : Source) (f : Found) → IsKeySource l k s f → ⊥
    no_key_source (inl (m, line, stopped, is)) (source.AuthorizedKeys n) f a = found_stops (user_of l) (KeyLine k) l.trusted.authorized_keys n m f line a stopped
    no_key_source (inl (m, line, stopped, is)) (source.Command n) f a = goes_stops (user_of l) (KeyLine k) l.trusted.authorized_keys m line a.0 stopped
    no_key_source (inl w) source.Authority f a = a
    no_key_source (inl w) (source.Principals n) f a = a
    no_key_source (inr (inl (goes, w))) (source.AuthorizedKeys n) f a = found_ends (user_of l) (KeyLine k) l.trusted.authorized_keys n f a goes
    no_key_source (inr (inl (goes, (m, line, stopped, is)))) (source.Command n) f a = found_stops (user_of l) (KeyLine k) l.trusted.command_keys n m f line a.1 stopped
    no_key_source (inr (inl w)) source.Authority f a = a
    no_key_source (inr (inl w)) (source.Principals n) f a = a
    no_key_source (inr (inr (goes, also, is))) (source.AuthorizedKeys n) f a = found_ends (user_of l) (KeyLine k) l.trusted.authorized_keys n f a goes
    no_key_source (inr (inr (goes, also, is))) (source.Command n) f a = found_ends (user_of l) (KeyLine k) l.trusted.command_keys n f a.1 also
    no_key_source (inr (inr w)) source.Authority f a = a
    no_key_source (inr (inr w)) (source.Principals n) f a = a

    no_key : IsWhyNoKey l k r → (g : PublickeyGrant) → GrantsKey l k g → ⊥
    no_key (inl (unaccepted, is)) g a = let accepted = a.accepted in absurd cc
    no_key (inr (inl (accepted, revoked, is))) g a = let unrevoked = a.unrevoked in absurd cc
    no_key (inr (inr (accepted, unrevoked, none))) g a = no_key_source none g.source a.found a.source

  -- ---- a certificate

  module _ (c : Certificate) where
    abbrev Stopped : List Text → ℕ → Option ℕ → Type 0
    Stopped texts m line = IsStopped (user_of l) (PrincipalLine c) texts m line

    stopped_principals : (p : Principals) (texts : List Text) → p ≡ Files texts → (s : Source) (f : Found) → IsOfPrincipals l c p s f → (m : ℕ) (line : Option ℕ) → Stopped texts m line → ⊥
    stopped_principals InCertificate texts is s f a m line stopped = absurd (cc is)
    stopped_principals (Files own) texts is (source.Principals n) f a m line stopped =
        let same : own ≡ texts = cc is in
        found_stops (user_of l) (PrincipalLine c) own n m f line a (subst (λ (x : List Text). Stopped x m line) (sym same) stopped)
    stopped_principals (Files own) texts is (source.AuthorizedKeys n) f a m line stopped = a
    stopped_principals (Files own) texts is source.Authority f a m line stopped = a
    stopped_principals (Files own) texts is (source.Command n) f a m line stopped = a

    stopped_goes : (p : Principals) (texts : List Text) → p ≡ Files texts → PrincipalsGoOn l c p → (m : ℕ) (line : Option ℕ) → Stopped texts m line → ⊥
    stopped_goes InCertificate texts is goes m line stopped = absurd (cc is)
    stopped_goes (Files own) texts is goes m line stopped =
        let same : own ≡ texts = cc is in
        goes_stops (user_of l) (PrincipalLine c) own m line goes (subst (λ (x : List Text). Stopped x m line) (sym same) stopped)

    no_authority : IsWhyNoAuthority l c r → (s : Source) (f : Found) → IsOfAuthority l c s f → ⊥
    no_authority (trusted, (texts, is, (m, line, stopped, why))) s f a = stopped_principals l.trusted.principals texts is s f a.1 m line stopped

    no_way_on : IsWhyNoAuthority l c r → AuthorityGoesOn l c → ⊥
    no_way_on (trusted, (texts, is, (m, line, stopped, why))) (inl other) = absurd cc
    no_way_on (trusted, (texts, is, (m, line, stopped, why))) (inr goes) = stopped_goes l.trusted.principals texts is goes.1 m line stopped

    no_source : IsWhyNoSource l c r → (s : Source) (f : Found) → IsCertificateSource l c s f → ⊥
    no_source (inl (m, line, stopped, is)) (source.AuthorizedKeys n) f a = found_stops (user_of l) (AuthorityLine c) l.trusted.authorized_keys n m f line a stopped
    no_source (inl (m, line, stopped, is)) source.Authority f a = goes_stops (user_of l) (AuthorityLine c) l.trusted.authorized_keys m line a.0 stopped
    no_source (inl (m, line, stopped, is)) (source.Principals n) f a = goes_stops (user_of l) (AuthorityLine c) l.trusted.authorized_keys m line a.0 stopped
    no_source (inl (m, line, stopped, is)) (source.Command n) f a = goes_stops (user_of l) (AuthorityLine c) l.trusted.authorized_keys m line a.0 stopped
    no_source (inr (inl (goes, why))) (source.AuthorizedKeys n) f a = found_ends (user_of l) (AuthorityLine c) l.trusted.authorized_keys n f a goes
    no_source (inr (inl (goes, why))) source.Authority f a = no_authority why source.Authority f a.1
    no_source (inr (inl (goes, why))) (source.Principals n) f a = no_authority why (source.Principals n) f a.1
    no_source (inr (inl (goes, why))) (source.Command n) f a = no_way_on why a.1
    no_source (inr (inr (inl (goes, on, why)))) (source.AuthorizedKeys n) f a = found_ends (user_of l) (AuthorityLine c) l.trusted.authorized_keys n f a goes
    no_source (inr (inr (inl (goes, on, why)))) source.Authority f a = authority_ends l c source.Authority f a.1 on
    no_source (inr (inr (inl (goes, on, why)))) (source.Principals n) f a = authority_ends l c (source.Principals n) f a.1 on
    no_source (inr (inr (inl (goes, on, (m, line, stopped, is))))) (source.Command n) f a = found_stops (user_of l) (AuthorityLine c) l.trusted.command_keys n m f line a.2 stopped
    no_source (inr (inr (inr (goes, on, also, is)))) (source.AuthorizedKeys n) f a = found_ends (user_of l) (AuthorityLine c) l.trusted.authorized_keys n f a goes
    no_source (inr (inr (inr (goes, on, also, is)))) source.Authority f a = authority_ends l c source.Authority f a.1 on
    no_source (inr (inr (inr (goes, on, also, is)))) (source.Principals n) f a = authority_ends l c (source.Principals n) f a.1 on
    no_source (inr (inr (inr (goes, on, also, is)))) (source.Command n) f a = found_ends (user_of l) (AuthorityLine c) l.trusted.command_keys n f a.2 also

    -- ---- the policy

    policy_refuses : (p : policy.Login) (e : LoginRefusal) → RefusesLogin p e → policy.IsLogin p → ⊥
    policy_refuses p e (inl none) is = policies.no_login p none.0 is
    policy_refuses p e (inr (d, spelled, why)) is = policies.refused none_where_wanted (one_front certificate_grammar) p d e spelled why is

    not_by_policy : IsRefusedByPolicy l c r → (g : PublickeyGrant) → GrantsCertificate l c g → ⊥
    not_by_policy (s, f, from, (e, refused, why)) g a =
        let same = one_source l c s g.source f a.found from a.source in
        let p = policy_login l c (authorities_of l c g.source) a.found.name in
        let as_found = subst (λ (x : List Fingerprint). RefusesLogin (policy_login l c x f.name) e) same.0 refused in
        let as_named = subst (λ (x : List ℕ). RefusesLogin (policy_login l c (authorities_of l c g.source) x) e) (sym same.1.1) as_found in
        policy_refuses p e as_named (record { certificate = c; spelled = a.spelled; normal = a.binds.normal; lets_in = a.binds.lets_in })

    no_certificate : IsWhyNoCertificate l c r → (g : PublickeyGrant) → GrantsCertificate l c g → ⊥
    no_certificate (inl (unaccepted, is)) g a = let accepted = a.accepted in absurd cc
    no_certificate (inr (accepted, inl none)) g a = no_source none g.source a.found a.source
    no_certificate (inr (accepted, inr refused)) g a = not_by_policy refused g a

  -- ---- nothing

  pub nothing : IsWhyNothing l r → (g : PublickeyGrant) (authority : Option (Option Question)) (k : Key) (form : KeyForm) → Grants l g authority k form → ⊥
  nothing (inl (key, certificate, is)) g None k Plain a = key k a.spelled
  nothing (inl (key, certificate, is)) g (Some asked) k Certified a = certificate a.0 a.1.spelled
  nothing (inr (inl (j, spelled, why))) g None k Plain a = no_key j why g (subst (λ (i : Key). GrantsKey l i g) (one_key l j k spelled a.spelled) a)
  nothing (inr (inl (j, spelled, why))) g (Some asked) k Certified a = blobs_apart j a.0 l.offer.blob spelled a.1.spelled
  nothing (inr (inr (c, spelled, why))) g None k Plain a = blobs_apart k c l.offer.blob a.spelled spelled
  nothing (inr (inr (c, spelled, why))) g (Some asked) k Certified a = no_certificate c why g (subst (λ (d : Certificate). GrantsCertificate l d g) (one_certificate l c a.0 spelled a.1.spelled) a.1)
  nothing why g None k Certified a = a
  nothing why g (Some asked) k Plain a = a
