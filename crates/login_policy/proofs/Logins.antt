-- What the validation of a certificate decides.
use Rattle.std.proofs.Common.{◌≡◌, ◌≢◌, ◌↔◌, ◌==◌, ◌++◌, ℕ, List, [], ◌∷◌, length, map, Bool, true, false, IsTrue, None, IfErr, Result, Ok, Err, Option, Some, option_map, ◌⊎◌, Bor, ap, arith, inl, inr, refl, subst, sym, ◌∙◌}
use Rattle.std.proofs.lemmas.Bool.Decides.{nat_tests}
use Rattle.std.specs.Prelude.{Contains, String, is_some, not, string_bytes}
use Rattle.std.specs.declared.net.ip_addr.IpAddr.{IpAddr}
use Rattle.sshkey_matching.specs.SourceAddresses.{MayComeFrom}
use Rattle.sshkey_base.specs.Reading.{NoSpelling}
use Rattle.sshkey_base.specs.declared.error.Error.{Error}
use Rattle.sshkey_base.specs.declared.error.Error.TheVariants as error
use Rattle.sshkey_cert.specs.Validity.{refusal_of}
use Rattle.sshkey_cert.specs.declared.certificate.refusal.CertificateRefusal.{CertificateRefusal}
use Rattle.sshkey_cert.specs.declared.certificate.Certificate as code
use Rattle.sshkey_krl.specs.Revocations.{is_certificate_revoked}
use Rattle.sshkey_model.specs.Certificates.{Certificate, normal_certificate, SpellsCertificate}
use Rattle.sshkey_model.specs.Fingerprints.{Fingerprint}
use Rattle.sshkey_model.specs.OptionMaps.{value_of}
use Rattle.sshkey_model.specs.Parts.{flat}
use Rattle.sshkey_model.specs.Principals.{Allows, IsValidFor}
use Rattle.sshkey_model.proofs.Refusals.{allowed as listed_or_none, allows_it}
use Rattle.sshkey_model.specs.Refusals.{RefuseTheUnwanted, UnlistedPrincipal, allows, first_refusal_for, has_trusted_authority, is_signed, or_else, refusal_of_authority_or_time, unless}
use Rattle.sshkey_model.specs.Refusals as model
use Rattle.login_policy.specs.KnownOptions.{source_address}
use Rattle.login_policy.specs.Logins.{HasRightFields, IsAllowedFrom, IsGrantOf, IsLogin, LetsIn, Login, AreForUser}
use Rattle.login_policy.specs.Refusals.{ForHosts, HasWrongField, FromElsewhere, IsRefusalFor, IsRevoked, IsUntrusted, NeedsJudging, NeedsMemory, NotSigned, NotValid, OtherAuthority, OtherExtension, OtherKeyId, OtherPrincipals, RefusesSpelling, Unaccepted, UnknownOption, refusal_but_signature}
use Rattle.login_policy.specs.declared.client.Client.TheVariants.{At, LeftToCaller, Unknown}
use Rattle.login_policy.specs.declared.grant.Grant.{Grant}
use Rattle.login_policy.specs.declared.refusal.LoginRefusal.{LoginRefusal}
use Rattle.login_policy.specs.declared.refusal.LoginRefusal.TheVariants.{Certificate as of_certificate, Memory}

-- ---- principals

pub somebody : {Y : Type 0} (names : List (String Y)) → (length names == 0) ≡ false → map string_bytes names ≢ []
somebody [] some = absurd cc
somebody (n ∷ names) some = λ none. cc

pub nobody : {Y : Type 0} (names : List (String Y)) → (length names == 0) ≡ true → map string_bytes names ≢ [] → ⊥
nobody [] none some = some refl
nobody (n ∷ names) none some =
    let zero : length (n ∷ names) ≡ 0 = grind (arith, nat_tests) in
    absurd (omega (arith, zero))

-- a certificate that lists somebody allows those alone that it lists
listed : (c : Certificate) (user : List ℕ) → AreForUser user c.signed.valid_principals → Allows c user → Contains c.signed.valid_principals user
listed c user names (inl none) = absurd (names.some none)
listed c user names (inr among) = among

-- ---- the refusal of an error

pub memory_of : (e : Error) (r : LoginRefusal) → IsRefusalFor e r → r ≡ Memory → e ≡ error.Memory
memory_of e r (inl ran_out) memory = ran_out.0
memory_of e r (inr is) memory = let named = is.1 in absurd cc

pub other_of : (e : Error) (r : LoginRefusal) → IsRefusalFor e r → r ≢ Memory → (e ≢ error.Memory) × (r ≡ of_certificate e)
other_of e r (inl ran_out) other = absurd (other ran_out.1)
other_of e r (inr is) other = is

pub ran_out : (e : Error) (r : LoginRefusal) → IsRefusalFor e r → e ≡ error.Memory → r ≡ Memory
ran_out e r (inl both) memory = both.1
ran_out e r (inr is) memory = absurd (is.0 memory)

-- ---- the authority

-- what is wrong with a certificate that is by one of the authorities
pub refusal_by_these : (login : Login) (c : Certificate) (found : Option model.Refusal) → has_trusted_authority login.authorities c ≡ true → found ≡ or_else (refusal_of_authority_or_time true (c.signed.valid_after, c.signed.valid_before) login.time) (unless (allows c.signed.valid_principals login.user) UnlistedPrincipal None) → found ≡ refusal_but_signature login c
refusal_by_these login c found trusted says = rw trusted says

-- whether a name is allowed
pub allows_is : (b : Bool) (ps : List (List ℕ)) (wanted : List ℕ) → IsTrue b ↔ ((ps ≡ []) ⊎ Contains ps wanted) → b ≡ allows ps wanted
allows_is true ps wanted both = sym (allows_it ps wanted (both.0 refl))
allows_is false ps wanted both = go (allows ps wanted) refl
  where
    go : (found : Bool) → allows ps wanted ≡ found → false ≡ found
    go false e = refl
    go true e = both.1 (listed_or_none ps wanted e)

-- where nothing is wrong but the signature, and the verifier says yes to it, it is valid
pub valid_if_signed : RefuseTheUnwanted → (login : Login) (c : Certificate) → refusal_but_signature login c ≡ None → is_signed login.accepts c ≡ true → IsValidFor login.accepts login.authorities login.time login.user c
valid_if_signed law login c none signed = (law login.accepts login.authorities login.time login.user c).0 (rw signed none)

-- and where it lets in, nothing is wrong
pub none_if_let_in : RefuseTheUnwanted → (login : Login) (c : Certificate) → LetsIn login c → refusal_but_signature login c ≡ None
none_if_let_in law login c lets =
    let none : first_refusal_for login.accepts login.authorities login.time login.user c ≡ None = (law login.accepts login.authorities login.time login.user c).1 (record { valid = lets.valid; allowed = inr lets.listed }) in
    let signed : is_signed login.accepts c ≡ true = lets.valid.signature in
    rw signed at none

-- so the authority is one of these
pub trusted_if_none : (login : Login) (c : Certificate) → refusal_but_signature login c ≡ None → IsTrue (has_trusted_authority login.authorities c)
trusted_if_none login c none = by_test (has_trusted_authority login.authorities c) refl
  where
    by_test : (yes : Bool) → has_trusted_authority login.authorities c ≡ yes → IsTrue (has_trusted_authority login.authorities c)
    by_test true is = is
    by_test false is = let some = rw is at none in absurd (cc some)

-- what was found is the first refusal
pub found_wrong : (first : Option model.Refusal) (found : Option CertificateRefusal) (w : CertificateRefusal) → option_map refusal_of found ≡ first → found ≡ Some w → first ≡ Some (refusal_of w)
found_wrong first found w says some = sym says ∙ ap (λ (f : Option CertificateRefusal). option_map refusal_of f) some

-- ---- where the client is

pub allowed : (list : Option (Bor (List ℕ))) (value : Option (List ℕ)) (a : IpAddr) (r : Bool) → option_map (λ v. v.now) list ≡ value → (IsTrue r ↔ MayComeFrom list a) → IsTrue r ↔ IsAllowedFrom value (At a)
allowed None value a r is judged = subst (λ (v : Option (List ℕ)). IsTrue r ↔ IsAllowedFrom v (At a)) is judged
allowed (Some list) value a r is judged = subst (λ (v : Option (List ℕ)). IsTrue r ↔ IsAllowedFrom v (At a)) is judged

pub nowhere : (list : Option (Bor (List ℕ))) (value : Option (List ℕ)) (r : Bool) → option_map (λ v. v.now) list ≡ value → is_some list ≡ not r → IsTrue r ↔ IsAllowedFrom value Unknown
nowhere None value true is none = subst (λ (v : Option (List ℕ)). IsTrue true ↔ IsAllowedFrom v Unknown) is (λ yes. tt, λ any. refl)
nowhere None value false is none = absurd cc
nowhere (Some list) value true is none = absurd cc
nowhere (Some list) value false is none = subst (λ (v : Option (List ℕ)). IsTrue false ↔ IsAllowedFrom v Unknown) is (λ yes. absurd cc, λ never. absurd never)

pub anywhere : (value : Option (List ℕ)) → IsTrue true ↔ IsAllowedFrom value LeftToCaller
anywhere None = (λ yes. tt, λ any. refl)
anywhere (Some list) = (λ yes. tt, λ any. refl)

-- ---- what is refused lets nobody in

untrusted : RefuseTheUnwanted → (login : Login) (c : Certificate) (r : LoginRefusal) → IsUntrusted login c r → LetsIn login c → ⊥
untrusted law login c r (OtherAuthority other) lets = let is : has_trusted_authority login.authorities c ≡ true = trusted_if_none login c (none_if_let_in law login c lets) in cc
untrusted law login c r (IsRevoked by revoked) lets = let unrevoked = lets.unrevoked in cc
untrusted law login c r (NotValid by unrevoked w refused) lets = let none = none_if_let_in law login c lets in cc
untrusted law login c r (FromElsewhere unrevoked none elsewhere) lets = elsewhere lets.from
untrusted law login c r (NotSigned unrevoked none from unsigned) lets = let signed : is_signed login.accepts c ≡ true = lets.valid.signature in cc

wrong_field : (user : List ℕ) (least : ℕ) (c : Certificate) (r : LoginRefusal) → HasWrongField user least c r → HasRightFields user least c → ⊥
wrong_field user least c r (ForHosts other) right = other right.for_users
wrong_field user least c r (Unaccepted users other) right = let accepted = right.accepted in cc
wrong_field user least c r (UnknownOption users accepted other) right = other right.known
wrong_field user least c r (OtherExtension users accepted known other) right = other right.plain
wrong_field user least c r (OtherKeyId users accepted known plain other) right = other right.key_id
wrong_field user least c r (OtherPrincipals users accepted known plain id other) right = other right.principals

pub field_not_memory : (user : List ℕ) (least : ℕ) (c : Certificate) (r : LoginRefusal) → HasWrongField user least c r → r ≢ Memory
field_not_memory user least c r (ForHosts other) = λ memory. cc
field_not_memory user least c r (Unaccepted users other) = λ memory. cc
field_not_memory user least c r (UnknownOption users accepted other) = λ memory. cc
field_not_memory user least c r (OtherExtension users accepted known other) = λ memory. cc
field_not_memory user least c r (OtherKeyId users accepted known plain other) = λ memory. cc
field_not_memory user least c r (OtherPrincipals users accepted known plain id other) = λ memory. cc

-- what the law says of two spellings
abbrev pub OneCertificate : Type 0
OneCertificate = (c d : Certificate) (a b r q : List ℕ) → SpellsCertificate c a → SpellsCertificate d b → a ++ r ≡ b ++ q → (c ≡ d) × (a ≡ b) × (r ≡ q)

-- which decides
pub refused : RefuseTheUnwanted → OneCertificate → (login : Login) (c : Certificate) (r : LoginRefusal) → SpellsCertificate c login.blob → RefusesSpelling login c r → IsLogin login → ⊥
refused law one login c r spelled why is =
    let same = (one c is.certificate login.blob login.blob [] [] spelled is.spelled refl).0 in
    let lets = subst (LetsIn login) (sym same) is.lets_in in
    elim why [
      | inl other ↦ other.0 (is.normal ∙ ap (λ (d : Certificate). flat (normal_certificate d)) (sym same))
      | inr rest ↦ elim rest.1 [
        | inl wrong ↦ wrong_field login.user login.least_rsa_bits c r wrong lets.fields
        | inr other ↦ untrusted law login c r other.1 lets
      ]
    ]

-- bytes that are no certificate let nobody in
pub no_login : (login : Login) → NoSpelling SpellsCertificate login.blob → IsLogin login → ⊥
no_login login none is = none is.certificate is.spelled

-- ---- what is granted

pub granted : (login : Login) (c : Certificate) (g : Grant) → SpellsCertificate c login.blob → login.blob ≡ flat (normal_certificate c) → HasRightFields login.user login.least_rsa_bits c → is_certificate_revoked login.revokes c ≡ false → IsValidFor login.accepts login.authorities login.time login.user c → IsAllowedFrom (value_of source_address c.signed.critical_options) login.client → IsGrantOf c g → (is : IsLogin login) × (is.certificate ≡ c) × IsGrantOf is.certificate g
granted login c g spelled normal right unrevoked valid from is = (record { certificate = c; spelled = spelled; normal = normal; lets_in = record { fields = right; listed = listed c login.user right.principals valid.allowed; unrevoked = unrevoked; valid = valid.valid; from = from } }, refl, is)

-- ---- memory

pub judging : {X : Type 0} (authorities : List Fingerprint) (blob : List ℕ) (c : Certificate) → SpellsCertificate c blob → (result : Result X LoginRefusal) → IfErr result (λ r. r ≡ Memory → NeedsJudging authorities c) → IfErr result (λ r. r ≡ Memory → NeedsMemory authorities blob)
judging authorities blob c spelled (Ok x) asks = tt
judging authorities blob c spelled (Err r) asks = λ memory. inr (c, spelled, asks memory)
