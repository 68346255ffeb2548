-- What the values of a call mean.
use Rattle.std.specs.Prelude.{◌≢◌, ℕ, List, Bool, Option, map, option_map, string_bytes, Result, Ok, Err}
use Rattle.login_terms.specs.Options.{terms_of}
use Rattle.sshkey_cert.specs.Certificates.{certificate_of}
use Rattle.sshkey_cert.specs.Validity.{fingerprints_of}
use Rattle.sshkey_keys.specs.Keys.{key_of}
use Rattle.sshkey_keys.specs.Questions.{asks}
use Rattle.sshkey_keys.specs.declared.signature_question.SignatureQuestion.{SignatureQuestion}
use Rattle.sshkey_krl.specs.Revocation.{CertificateIdentity}
use Rattle.sshkey_model.specs.Verification.{Question}
use Rattle.sshkey_userauth.specs.Values.{lent}
use Rattle.user_keys.specs.declared.grant.NamedLine.{NamedLine}
use Rattle.publickey_login.specs.Sources as logins
use Rattle.publickey_login.specs.Signatures as model
use Rattle.publickey_login.specs.declared.offer.Offer.{Offer}
use Rattle.publickey_login.specs.declared.place.Place.{Place}
use Rattle.publickey_login.specs.declared.refusal.PublickeyRefusal.{PublickeyRefusal}
use Rattle.publickey_login.specs.declared.refusal.PublickeyRefusal.TheVariants.{Memory}
use Rattle.publickey_login.specs.declared.search.Sought.{Sought}
use Rattle.publickey_login.specs.declared.search.Sought.TheVariants as sought
use Rattle.publickey_login.specs.declared.signed.Signed.{Signed}
use Rattle.publickey_login.specs.declared.signed.Signed.TheVariants.{Request, ByTransport, BySshd}
use Rattle.publickey_login.specs.declared.trusted.Principals.{Principals}
use Rattle.publickey_login.specs.declared.trusted.Principals.TheVariants as principals
use Rattle.publickey_login.specs.declared.trusted.Text.{Text}
use Rattle.publickey_login.specs.declared.trusted.Text.TheVariants as text
use Rattle.publickey_login.specs.declared.trusted.Trusted.{Trusted}

-- ---- what is offered, and who has seen the signature

abbrev pub offer_of : Offer → model.Offer
offer_of o = record { user = o.user.now; algorithm = option_map lent o.algorithm; blob = o.blob.now }

abbrev pub signed_of : Signed → model.Signed
signed_of (Request session_id host_key signature) = model.Request session_id.now (option_map lent host_key) signature.now
signed_of (ByTransport flags) = model.ByTransport flags
signed_of BySshd = model.BySshd

-- Out of memory aside, Ok exactly if something or nothing is left to ask, and then with that.
abbrev pub LeavesExactly : (Option (Option Question) → Type 0) → Result (Option SignatureQuestion) PublickeyRefusal → Type 0
LeavesExactly Left (Ok q) = Left (option_map asks q)
LeavesExactly Left (Err r) = r ≢ Memory → (left : Option (Option Question)) → Left left → ⊥

-- ---- whom the server trusts

abbrev pub text_of : Text → logins.Text
text_of (text.Read b) = logins.Read b.now
text_of text.Unreadable = logins.Unreadable

abbrev pub principals_of : Principals → logins.Principals
principals_of principals.InCertificate = logins.InCertificate
principals_of (principals.Files texts) = logins.Files (map text_of texts.now)

abbrev pub trusted_of : Trusted → logins.Trusted
trusted_of t = record { authorized_keys = map text_of t.authorized_keys.now; authorities = fingerprints_of t.authorities.now; principals = principals_of t.principals; command_keys = map text_of t.command_keys.now; least_rsa_bits = t.least_rsa_bits; requirements = t.requirements }

-- ---- the login

abbrev pub login_of : Offer → Trusted → Place → (List ℕ → CertificateIdentity → Bool) → (List ℕ → Bool) → logins.Login
login_of o t p revokes revokes_key = record { offer = offer_of o; trusted = trusted_of t; client = p.client; host = p.host; time = p.unix_timestamp; revokes = revokes; revokes_key = revokes_key }

-- the place as it counts for who has seen the signature
abbrev pub place_seen : Signed → Place → Place
place_seen s p = record p { client = logins.client_seen (signed_of s) p.client }

-- the same where nobody has signed yet
abbrev pub place_known : Place → Place
place_known p = record p { client = logins.client_known p.client }

-- ---- what is sought and found

abbrev pub sought_of : Sought → logins.Sought
sought_of (sought.KeyLine k) = logins.KeyLine (key_of k.now)
sought_of (sought.AuthorityLine c) = logins.AuthorityLine (certificate_of c.now)
sought_of (sought.PrincipalLine c) = logins.PrincipalLine (certificate_of c.now)

abbrev pub found_of : NamedLine → logins.Found
found_of f = record { line = f.first.line; terms = terms_of f.first.terms; name = string_bytes f.name }
