-- A login by public key that is asked for (RFC 4252, section 7; sshd_config(5)).
use Rattle.std.specs.Prelude.{◌≡◌, ◌≢◌, ◌==◌, ◌⊎◌, ℕ, List, map, not, Option, Some, None, Result, Ok, Err, length, if◌then◌else◌}
use Rattle.std.specs.Str.{IsUtf8}
use Rattle.std.specs.declared.net.ip_addr.IpAddr.{IpAddr}
use Rattle.login_policy.specs.declared.client.Client.{Client}
use Rattle.login_policy.specs.declared.client.Client.TheVariants as client
use Rattle.publickey_login.specs.Grants.{IsPending}
use Rattle.publickey_login.specs.Sources.{Files, InCertificate, Login, Principals, Read, Text, Trusted, Unreadable, client_seen}
use Rattle.publickey_login.specs.Results.{authority_in, client_in, grant_in}
use Rattle.publickey_login.specs.Signatures.{BySshd, ByTransport, Offer, Request, Signed}
use Rattle.publickey_login.specs.Stops.{IsWhyNotPending}
use Rattle.publickey_login.specs.declared.grant.PublickeyGrant.{PublickeyGrant}
use Rattle.publickey_login.specs.declared.pending_login.Pending.{Pending}
use Rattle.publickey_login.specs.declared.place.Place.{Place}
use Rattle.publickey_login.specs.declared.refusal.PublickeyRefusal.{PublickeyRefusal}
use Rattle.sshkey_base.specs.declared.error.Error.{Error}
use Rattle.sshkey_calls.specs.Validations.{authorities_of}
use Rattle.sshkey_entry_calls.specs.Addresses.{IsAddressOf, IsNameIn}
use Rattle.sshkey_entry_calls.specs.Revocations.{AreReadOf, one_revokes, one_revokes_key, revoked_status}
use Rattle.sshkey_model.specs.Verification.{Question}
use Rattle.sshkey_revoked_keys.specs.declared.revoked_keys.RevokedKeys.{RevokedKeys}
use Rattle.sshkey_userauth.specs.declared.judgement.Requirements.{Requirements}
use Rattle.sshkey_c.specs.Refusals.{refusal_of, said}
use Rattle.sshkey_c.specs.declared.login.OfferParts.{OfferParts}
use Rattle.sshkey_c.specs.declared.login.LoginParts.{LoginParts}
use Rattle.sshkey_c.specs.declared.login.PlaceParts.{PlaceParts}
use Rattle.sshkey_c.specs.declared.login.SignedParts.{SignedParts}
use Rattle.sshkey_c.specs.declared.login.TextParts.{TextParts}
use Rattle.sshkey_c.specs.declared.login.TrustedParts.{TrustedParts}
use Rattle.sshkey_c.specs.declared.refusal.Refusal.{Refusal}
use denote.Ref.{Bor}

-- ---- what is offered, and who has seen the signature

-- a name of no bytes is not told
abbrev pub named_algorithm : List ℕ → Option (List ℕ)
named_algorithm name = if length name == 0 then None else Some name

abbrev pub offer_in : OfferParts → Offer
offer_in o = record { user = o.user.now; algorithm = named_algorithm o.algorithm.now; blob = o.blob.now }

-- the server's host key, where the method has one
abbrev pub bound_key : ℕ → List ℕ → Option (List ℕ)
bound_key has_host_key host_key = if has_host_key == 0 then None else Some host_key

-- 1 to 4, and nobody by any other number
abbrev pub signed_in : SignedParts → Option Signed
signed_in s =
    if s.how == 1 then Some (Request s.session_id.now (bound_key s.has_host_key s.host_key.now) s.signature.now)
    else if s.how == 2 then Some (ByTransport None)
    else if s.how == 3 then Some (ByTransport (Some s.flags))
    else if s.how == 4 then Some BySshd
    else None

-- ---- whom the server trusts

abbrev pub text_in : TextParts → Text
text_in t = if t.is_read == 1 then Read t.text.now else Unreadable

abbrev pub texts_in : List TextParts → List Text
texts_in = map text_in

-- 1 and 2, and nobody is let in by any other number
abbrev pub principals_from : ℕ → List Text → Option Principals
principals_from how texts =
    if how == 1 then Some InCertificate
    else if how == 2 then Some (Files texts)
    else None

abbrev pub principals_in : TrustedParts → Option Principals
principals_in t = principals_from t.principals_from (texts_in t.principals.now)

abbrev pub requirements_in : TrustedParts → Requirements
requirements_in t = record { touch_required = not (t.requires_touch == 0); verify_required = not (t.requires_verification == 0) }

abbrev pub trusted_in : TrustedParts → Principals → Trusted
trusted_in t p = record { authorized_keys = texts_in t.authorized_keys.now; authorities = authorities_of t.authorities.now; principals = p; command_keys = texts_in t.command_keys.now; least_rsa_bits = t.least_rsa_bits; requirements = requirements_in t }

-- ---- where the client is

-- Where the caller judges, at the address of the bytes, or at none.
abbrev pub IsClientOf : PlaceParts → Client → Type 0
IsClientOf p client.LeftToCaller = p.caller_checks_address ≡ 1
IsClientOf p (client.At a) = (p.caller_checks_address ≢ 1) × IsAddressOf p.client.now a
IsClientOf p client.Unknown = (p.caller_checks_address ≢ 1) × ((a : IpAddr) → IsAddressOf p.client.now a → ⊥)

-- the names of user and host are UTF-8
abbrev pub AreTexts : LoginParts → Type 0
AreTexts l = IsUtf8 l.offer.user.now × IsUtf8 l.place.host.now

-- ---- the login

-- What is read of it: whom authorities let in, what each revocation file gives, and what the host is
-- called.
pub record Reading : Type 0 where
  pub principals : Principals
  pub files : List (Result RevokedKeys Error)
  pub host : Option (Bor (List ℕ))

pub record IsReadingOf (l : LoginParts) (r : Reading) : Type 0 where
  pub principals : principals_in l.trusted ≡ Some r.principals
  pub files : AreReadOf l.trusted.revoked.now r.files
  pub host : IsNameIn l.place.host.now r.host

-- the login of a client that is there
abbrev pub login_of : LoginParts → Reading → Client → Login
login_of l r c = record { offer = offer_in l.offer; trusted = trusted_in l.trusted r.principals; client = c; host = r.host; time = l.place.unix_timestamp; revokes = one_revokes r.files; revokes_key = one_revokes_key r.files }

-- With 4 a name is not UTF-8, and then with 105 it is not told whom authorities let in; or this is
-- said of the login that is read.
abbrev pub IsSaidOf : LoginParts → Refusal → (Reading → Type 0) → Type 0
IsSaidOf l d Says = (¬ AreTexts l × (d ≡ said 4))
    ⊎ (AreTexts l × (principals_in l.trusted ≡ None) × (d ≡ said 105))
    ⊎ (AreTexts l × ((r : Reading) × IsReadingOf l r × Says r))

-- ---- what is pending

-- Something but the signatures is wrong.
abbrev pub IsOut : Login → Signed → ℕ → Refusal → Type 0
IsOut login s of_revoked d = ((g : PublickeyGrant) (authority client : Option (Option Question)) → IsPending login s g authority client → ⊥) × ((r : PublickeyRefusal) × IsWhyNotPending login s r × (d ≡ refusal_of of_revoked r))

-- All is right but the signatures; or something is not, memory aside.
abbrev pub Pends : LoginParts → Signed → Client → Result Pending Refusal → Type 0
Pends l s c (Ok p) = AreTexts l × ((r : Reading) × IsReadingOf l r × IsPending (login_of l r (client_seen s c)) s (grant_in p) (authority_in p) (client_in p))
Pends l s c (Err d) = d.number ≢ 1 → IsSaidOf l d (λ r. IsOut (login_of l r (client_seen s c)) s (revoked_status r.files) d)

-- The same at a place that is read.
abbrev pub PendsAt : LoginParts → Signed → Place → Result Pending Refusal → Type 0
PendsAt l s p result = AreTexts l → IsNameIn l.place.host.now p.host → p.unix_timestamp ≡ l.place.unix_timestamp → Pends l s p.client result

-- The same of a client whose place is seen so.
abbrev pub PendsOf : LoginParts → Signed → (Client → Client) → Result Pending Refusal → Type 0
PendsOf l s seen result = (c : Client) × IsClientOf l.place c × Pends l s (seen c) result
