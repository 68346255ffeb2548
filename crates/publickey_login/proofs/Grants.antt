-- Where a login is refused, nothing is left to ask.
use Rattle.std.proofs.Common.{◌≡◌, ◌≢◌, ℕ, List, [], Option, Some, None, inl, inr, refl, subst, ◌∙◌, sym, ◌||◌, ap}
use Rattle.sshkey_keys.proofs.SignatureReaders.{signature_grammar}
use Rattle.sshkey_model.proofs.Grammars.{one_front}
use Rattle.sshkey_model.specs.Keys as keys
use Rattle.sshkey_model.specs.Keys.{Key, SpellsKey}
use Rattle.sshkey_model.specs.Signatures.{Signature, SpellsSignature}
use Rattle.sshkey_model.specs.Verification.{Question}
use Rattle.sshkey_userauth.specs.Requests.{UserauthRequest}
use Rattle.sshkey_userauth.specs.declared.judgement.Requirements.{Requirements}
use Rattle.sshkey_userauth.specs.declared.judgement.name.KeyForm.{KeyForm}
use Rattle.publickey_login.specs.Signatures.{IsWhyFlagsOf, IsWhyUnasked, IsWhyUnsigned, BySshd, ByTransport, HasFlags, IsAskedOfRequest, IsLeft, Offer, Request, Signed, request_for}
use Rattle.publickey_login.specs.declared.refusal.PublickeyRefusal.{PublickeyRefusal}
use Rattle.publickey_login.specs.declared.refusal.PublickeyRefusal.TheVariants as refusal
use Rattle.sshkey_model.specs.Certificates.{Certificate, SpellsCertificate}
use Rattle.user_keys.specs.Certificates.{name_listed, merged}
use Rattle.publickey_login.proofs.Searches.{found_ends, one_in}
use Rattle.publickey_login.specs.Sources.{Files, InCertificate, Login, Principals, AuthorityLine, Found, GoesOn, IsFoundIn, KeyLine, PrincipalLine, AuthorityGoesOn, IsCertificateSource, IsKeySource, IsOfAuthority, IsOfPrincipals, PrincipalsGoOn, authorities_of, user_of}
use Rattle.publickey_login.specs.declared.grant.Source.{Source}
use Rattle.publickey_login.specs.declared.grant.Source.TheVariants as source
use Rattle.login_terms.specs.Options.{Terms, terms_of}
use Rattle.sshkey_cert.proofs.Certificates.{certificate_grammar}
use Rattle.sshkey_cert.specs.Validity.{certificate_question}
use Rattle.sshkey_keys.proofs.KeyReaders.{key_grammar}
use Rattle.sshkey_model.proofs.LinesApart.{blobs_apart}
use Rattle.sshkey_userauth.specs.declared.judgement.name.KeyForm.TheVariants.{Certified, Plain}
use Rattle.publickey_login.specs.Grants.{Grants, GrantsCertificate, GrantsKey, required_of}
use Rattle.publickey_login.specs.declared.grant.PublickeyGrant.{PublickeyGrant}

-- the bytes spell one signature only
pub one_signature : (g h : Signature) (bytes : List ℕ) → SpellsSignature g bytes → SpellsSignature h bytes → g ≡ h
one_signature g h bytes made other = (one_front signature_grammar g h bytes bytes [] [] made other refl).0

pub not_asked : (r : UserauthRequest) (required : Requirements) (key : Key) (form : KeyForm) (bytes : List ℕ) (asked : Option Question) (e : PublickeyRefusal) → e ≢ refusal.Memory → IsWhyUnasked r required form bytes e → IsAskedOfRequest r required key form bytes asked → ⊥
not_asked r required key form bytes asked refusal.TooLong other why is = why is.sent
not_asked r required key form bytes asked (refusal.NoSignature e) other why is = why.1 is.signature is.spelled
not_asked r required key form bytes asked (refusal.Signature e) other why is =
    let same = one_signature why.0 is.signature bytes why.1 is.spelled in
    absurd (cc (same, why.2, is.judged))
not_asked r required key form bytes asked refusal.Algorithm other why is =
    let same = one_signature why.0 is.signature bytes why.1 is.spelled in
    why.2.2 (cc (same, why.2.1, is.judged))
not_asked r required key form bytes asked refusal.NoFlags other why is = absurd why
not_asked r required key form bytes asked (refusal.NoKey e) other why is = absurd why
not_asked r required key form bytes asked refusal.UnacceptedKey other why is = absurd why
not_asked r required key form bytes asked refusal.Revoked other why is = absurd why
not_asked r required key form bytes asked refusal.NotListed other why is = absurd why
not_asked r required key form bytes asked (refusal.NotAllowed source line reason) other why is = absurd why
not_asked r required key form bytes asked (refusal.Unclear source line) other why is = absurd why
not_asked r required key form bytes asked (refusal.Unreadable source) other why is = absurd why
not_asked r required key form bytes asked (refusal.Certificate e) other why is = absurd why
not_asked r required key form bytes asked refusal.NotSigned other why is = absurd why
not_asked r required key form bytes asked refusal.Memory other why is = absurd (other refl)

flags_wrong : (key : Key) (required : Requirements) (flags : Option ℕ) (e : PublickeyRefusal) → IsWhyFlagsOf key required flags e → HasFlags key required flags → ⊥
flags_wrong (keys.SkEcdsa k) required (Some flags) e why is = absurd (cc (why.1, is))
flags_wrong (keys.SkEcdsa k) required None e why is = why.0 is
flags_wrong (keys.SkEd25519 k) required (Some flags) e why is = absurd (cc (why.1, is))
flags_wrong (keys.SkEd25519 k) required None e why is = why.0 is
flags_wrong (keys.Dsa k) required flags e why is = absurd why
flags_wrong (keys.Ecdsa c point) required flags e why is = absurd why
flags_wrong (keys.Ed25519 k) required flags e why is = absurd why
flags_wrong (keys.Rsa k) required flags e why is = absurd why
flags_wrong (keys.Opaque name k) required flags e why is = absurd why

pub not_left : (o : Offer) (s : Signed) (required : Requirements) (key : Key) (form : KeyForm) (e : PublickeyRefusal) → e ≢ refusal.Memory → IsWhyUnsigned o s required key form e → (left : Option (Option Question)) → IsLeft o s required key form left → ⊥
not_left o (Request session_id host_key bytes) required key form e other why None is = absurd is
not_left o (Request session_id host_key bytes) required key form e other (inl none) (Some asked) is = absurd (cc (none.0, is.1))
not_left o (Request session_id host_key bytes) required key form e other (inr why) (Some asked) is =
    let same : why.0 ≡ is.0 = cc (why.1, is.1) in
    not_asked (request_for o is.0 session_id host_key) required key form bytes asked e other (subst (λ (name : List ℕ). IsWhyUnasked (request_for o name session_id host_key) required form bytes e) same why.2) is.2
not_left o (ByTransport flags) required key form e other why (Some asked) is = absurd is
not_left o (ByTransport flags) required key form e other (inl why) None is = why.0 is.0
not_left o (ByTransport flags) required key form e other (inr why) None is = flags_wrong key required flags e why.1 is.1
not_left o BySshd required key form e other why (Some asked) is = absurd is
not_left o BySshd required key form e other why None is = why.0 is

-- One source lets in.

module _ (l : Login) where
  -- ---- of a key

  module _ (k : Key) where
    pub one_key_source : (s t : Source) (f g : Found) → IsKeySource l k s f → IsKeySource l k t g → g.terms ≡ f.terms
    one_key_source (source.AuthorizedKeys n) (source.AuthorizedKeys m) f g a b = (one_in (user_of l) (KeyLine k) l.trusted.authorized_keys n m f g a b).0
    one_key_source (source.AuthorizedKeys n) (source.Command m) f g a b = absurd (found_ends (user_of l) (KeyLine k) l.trusted.authorized_keys n f a b.0)
    one_key_source (source.AuthorizedKeys n) source.Authority f g a b = absurd b
    one_key_source (source.AuthorizedKeys n) (source.Principals m) f g a b = absurd b
    one_key_source (source.Command n) (source.AuthorizedKeys m) f g a b = absurd (found_ends (user_of l) (KeyLine k) l.trusted.authorized_keys m g b a.0)
    one_key_source (source.Command n) (source.Command m) f g a b = (one_in (user_of l) (KeyLine k) l.trusted.command_keys n m f g a.1 b.1).0
    one_key_source (source.Command n) source.Authority f g a b = absurd b
    one_key_source (source.Command n) (source.Principals m) f g a b = absurd b
    one_key_source source.Authority t f g a b = absurd a
    one_key_source (source.Principals n) t f g a b = absurd a

  -- ---- of a certificate

  module _ (c : Certificate) where
    one_listed : (f g : Found) → name_listed c.signed.valid_principals l.offer.user None ≡ Some f.name → name_listed c.signed.valid_principals l.offer.user None ≡ Some g.name → g.name ≡ f.name
    one_listed f g a b =
        let both : Some g.name ≡ Some f.name = sym b ∙ a in
        cc

    one_of_principals : (p : Principals) (s t : Source) (f g : Found) → IsOfPrincipals l c p s f → IsOfPrincipals l c p t g → (g.terms ≡ f.terms) × (g.name ≡ f.name)
    one_of_principals InCertificate source.Authority source.Authority f g a b = (b.1 ∙ sym a.1, one_listed f g a.2 b.2)
    one_of_principals InCertificate source.Authority (source.AuthorizedKeys m) f g a b = absurd b
    one_of_principals InCertificate source.Authority (source.Principals m) f g a b = absurd b
    one_of_principals InCertificate source.Authority (source.Command m) f g a b = absurd b
    one_of_principals InCertificate (source.AuthorizedKeys n) t f g a b = absurd a
    one_of_principals InCertificate (source.Principals n) t f g a b = absurd a
    one_of_principals InCertificate (source.Command n) t f g a b = absurd a
    one_of_principals (Files texts) (source.Principals n) (source.Principals m) f g a b = one_in (user_of l) (PrincipalLine c) texts n m f g a b
    one_of_principals (Files texts) (source.Principals n) (source.AuthorizedKeys m) f g a b = absurd b
    one_of_principals (Files texts) (source.Principals n) source.Authority f g a b = absurd b
    one_of_principals (Files texts) (source.Principals n) (source.Command m) f g a b = absurd b
    one_of_principals (Files texts) (source.AuthorizedKeys n) t f g a b = absurd a
    one_of_principals (Files texts) source.Authority t f g a b = absurd a
    one_of_principals (Files texts) (source.Command n) t f g a b = absurd a

    principals_end : (p : Principals) (s : Source) (f : Found) → IsOfPrincipals l c p s f → PrincipalsGoOn l c p → ⊥
    principals_end InCertificate source.Authority f a none =
        let both : Some f.name ≡ None = sym a.2 ∙ none in
        absurd (cc both)
    principals_end InCertificate (source.AuthorizedKeys n) f a none = a
    principals_end InCertificate (source.Principals n) f a none = a
    principals_end InCertificate (source.Command n) f a none = a
    principals_end (Files texts) (source.Principals n) f a goes = found_ends (user_of l) (PrincipalLine c) texts n f a goes
    principals_end (Files texts) (source.AuthorizedKeys n) f a goes = a
    principals_end (Files texts) source.Authority f a goes = a
    principals_end (Files texts) (source.Command n) f a goes = a

    pub authority_ends : (s : Source) (f : Found) → IsOfAuthority l c s f → AuthorityGoesOn l c → ⊥
    authority_ends s f a (inl other) =
        let yes = a.0 in
        absurd cc
    authority_ends s f a (inr goes) = principals_end l.trusted.principals s f a.1 goes.1

    abbrev Same : Source → Source → Found → Found → Type 0
    Same s t f g = (authorities_of l c s ≡ authorities_of l c t) × ((g.terms ≡ f.terms) × (g.name ≡ f.name))

    files_end : (n : ℕ) (f : Found) → IsFoundIn (user_of l) (AuthorityLine c) l.trusted.authorized_keys n f → GoesOn (user_of l) (AuthorityLine c) l.trusted.authorized_keys → ⊥
    files_end n f a goes = found_ends (user_of l) (AuthorityLine c) l.trusted.authorized_keys n f a goes

    pub one_source : (s t : Source) (f g : Found) → IsCertificateSource l c s f → IsCertificateSource l c t g → Same s t f g
    one_source (source.AuthorizedKeys n) (source.AuthorizedKeys m) f g a b = (refl, one_in (user_of l) (AuthorityLine c) l.trusted.authorized_keys n m f g a b)
    one_source (source.AuthorizedKeys n) source.Authority f g a b = absurd (files_end n f a b.0)
    one_source (source.AuthorizedKeys n) (source.Principals m) f g a b = absurd (files_end n f a b.0)
    one_source (source.AuthorizedKeys n) (source.Command m) f g a b = absurd (files_end n f a b.0)
    one_source source.Authority (source.AuthorizedKeys m) f g a b = absurd (files_end m g b a.0)
    one_source source.Authority source.Authority f g a b = (refl, one_of_principals l.trusted.principals source.Authority source.Authority f g a.1.1 b.1.1)
    one_source source.Authority (source.Principals m) f g a b = (refl, one_of_principals l.trusted.principals source.Authority (source.Principals m) f g a.1.1 b.1.1)
    one_source source.Authority (source.Command m) f g a b = absurd (authority_ends source.Authority f a.1 b.1)
    one_source (source.Principals n) (source.AuthorizedKeys m) f g a b = absurd (files_end m g b a.0)
    one_source (source.Principals n) source.Authority f g a b = (refl, one_of_principals l.trusted.principals (source.Principals n) source.Authority f g a.1.1 b.1.1)
    one_source (source.Principals n) (source.Principals m) f g a b = (refl, one_of_principals l.trusted.principals (source.Principals n) (source.Principals m) f g a.1.1 b.1.1)
    one_source (source.Principals n) (source.Command m) f g a b = absurd (authority_ends (source.Principals n) f a.1 b.1)
    one_source (source.Command n) (source.AuthorizedKeys m) f g a b = absurd (files_end m g b a.0)
    one_source (source.Command n) source.Authority f g a b = absurd (authority_ends source.Authority g b.1 a.1)
    one_source (source.Command n) (source.Principals m) f g a b = absurd (authority_ends (source.Principals m) g b.1 a.1)
    one_source (source.Command n) (source.Command m) f g a b = (refl, one_in (user_of l) (AuthorityLine c) l.trusted.command_keys n m f g a.2 b.2)

-- One grant is pending, with one question to each signer.

-- ---- what is offered

module _ (l : Login) where
  pub one_key : (k j : Key) → SpellsKey k l.offer.blob → SpellsKey j l.offer.blob → j ≡ k
  one_key k j a b = (one_front key_grammar j k l.offer.blob l.offer.blob [] [] b a refl).0

  pub one_certificate : (c d : Certificate) → SpellsCertificate c l.offer.blob → SpellsCertificate d l.offer.blob → d ≡ c
  one_certificate c d a b = (one_front certificate_grammar d c l.offer.blob l.offer.blob [] [] b a refl).0

  -- ---- the grant

  pub one_key_terms : (k : Key) (g h : PublickeyGrant) → GrantsKey l k g → GrantsKey l k h → terms_of h.user.terms ≡ terms_of g.user.terms
  one_key_terms k g h a b = b.terms ∙ one_key_source l k g.source h.source a.found b.found a.source b.source ∙ sym a.terms

  pub one_terms : (c : Certificate) (g h : PublickeyGrant) → GrantsCertificate l c g → GrantsCertificate l c h → terms_of h.user.terms ≡ terms_of g.user.terms
  one_terms c g h a b = b.binds.merges ∙ ap (λ (t : Terms). merged t c) (one_source l c g.source h.source a.found b.found a.source b.source).1.0 ∙ sym a.binds.merges

  -- what is granted twice is granted to one key, with one question, on the same terms
  pub record AreSame (a b : Option (Option Question)) (k j : Key) (p q : KeyForm) (g h : PublickeyGrant) : Type 0 where
    pub authority : b ≡ a
    pub key : j ≡ k
    pub form : q ≡ p
    pub terms : terms_of h.user.terms ≡ terms_of g.user.terms

  pub same_grants : (a b : Option (Option Question)) (k j : Key) (p q : KeyForm) (g h : PublickeyGrant) → Grants l g a k p → Grants l h b j q → AreSame a b k j p q g h
  same_grants None None k j Plain Plain g h x y =
      let same = one_key k j x.spelled y.spelled in
      record { authority = refl; key = same; form = refl; terms = one_key_terms k g h x (subst (λ (i : Key). GrantsKey l i h) same y) }
  same_grants None (Some b) k j Plain Certified g h x y = absurd (blobs_apart k y.0 l.offer.blob x.spelled y.1.spelled)
  same_grants (Some a) None k j Certified Plain g h x y = absurd (blobs_apart j x.0 l.offer.blob y.spelled x.1.spelled)
  same_grants (Some a) (Some b) k j Certified Certified g h x y =
      let same = one_certificate x.0 y.0 x.1.spelled y.1.spelled in
      record {
        authority = ap (λ (o : Option Question). Some o) (y.3 ∙ ap certificate_question same ∙ sym x.3);
        key = y.2 ∙ ap (λ (d : Certificate). d.signed.key) same ∙ sym x.2;
        form = refl;
        terms = one_terms x.0 g h x.1 (subst (λ (d : Certificate). GrantsCertificate l d h) same y.1);
      }
  same_grants None b k j Certified q g h x y = absurd x
  same_grants (Some a) b k j Plain q g h x y = absurd x
  same_grants None None k j Plain Certified g h x y = absurd y
  same_grants None (Some b) k j Plain Plain g h x y = absurd y
  same_grants (Some a) None k j Certified Certified g h x y = absurd y
  same_grants (Some a) (Some b) k j Certified Plain g h x y = absurd y

-- ---- what is required

pub same_required : (server : Requirements) (g h : PublickeyGrant) → terms_of h.user.terms ≡ terms_of g.user.terms → required_of server h ≡ required_of server g
same_required server g h same = ap (λ (t : Terms). record { touch_required = server.touch_required || t.touch_required; verify_required = server.verify_required || t.verify_required }) same

-- ---- the client's question

-- it does not depend on what is required
pub one_left : (o : Offer) (s : Signed) (r q : Requirements) (key : Key) (form : KeyForm) (a b : Option (Option Question)) → IsLeft o s r key form a → IsLeft o s q key form b → b ≡ a
one_left o (Request session_id host_key bytes) r q key form (Some a) (Some b) x y =
    let names : Some y.0 ≡ Some x.0 = sym y.1 ∙ x.1 in
    let signature = one_signature x.2.signature y.2.signature bytes x.2.spelled y.2.spelled in
    cc
one_left o (Request session_id host_key bytes) r q key form None b x y = absurd x
one_left o (Request session_id host_key bytes) r q key form (Some a) None x y = absurd y
one_left o (ByTransport flags) r q key form (Some a) b x y = absurd x
one_left o (ByTransport flags) r q key form None (Some b) x y = absurd y
one_left o (ByTransport flags) r q key form None None x y = refl
one_left o BySshd r q key form (Some a) b x y = absurd x
one_left o BySshd r q key form None (Some b) x y = absurd y
one_left o BySshd r q key form None None x y = refl
