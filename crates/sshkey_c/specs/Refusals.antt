-- The numbers of why a login by public key is refused.
use Rattle.std.specs.Prelude.{ℕ, Some}
use Rattle.login_policy.specs.declared.refusal.LoginRefusal.{LoginRefusal}
use Rattle.login_policy.specs.declared.refusal.LoginRefusal.TheVariants as policy
use Rattle.publickey_login.specs.declared.grant.Source.{Source}
use Rattle.publickey_login.specs.declared.grant.Source.TheVariants as source
use Rattle.publickey_login.specs.declared.refusal.PublickeyRefusal.{PublickeyRefusal}
use Rattle.publickey_login.specs.declared.refusal.PublickeyRefusal.TheVariants as refusal
use Rattle.sshkey_calls.specs.Numbers.{certificate_error_status, error_status, refusal_status}
use Rattle.sshkey_cert.specs.Validity.{refusal_of as first_of}
use Rattle.sshkey_userauth.specs.declared.refusal.UserauthRefusal.{UserauthRefusal}
use Rattle.sshkey_userauth.specs.declared.refusal.UserauthRefusal.TheVariants as signature
use Rattle.user_keys.specs.declared.refusal.Reason.{Reason}
use Rattle.user_keys.specs.declared.refusal.Reason.TheVariants as reasons
use Rattle.sshkey_c.specs.declared.refusal.Refusal.{Refusal}

-- no text is the reason
abbrev pub said : ℕ → Refusal
said number = record { number = number; source = 0; text = 0; line = 0 }

-- ---- by what text

abbrev pub source_number : Source → ℕ
source_number (source.AuthorizedKeys text) = 1
source_number source.Authority = 2
source_number (source.Principals text) = 3
source_number (source.Command text) = 4

abbrev pub text_number : Source → ℕ
text_number (source.AuthorizedKeys text) = text
text_number source.Authority = 0
text_number (source.Principals text) = text
text_number (source.Command text) = text

abbrev pub at_text : ℕ → Source → ℕ → Refusal
at_text number s line = record { number = number; source = source_number s; text = text_number s; line = line }

-- ---- why

abbrev pub signature_status : UserauthRefusal → ℕ
signature_status signature.SignedBytes = 80
signature_status signature.Service = 80
signature_status signature.Algorithm = 81
signature_status signature.Touch = 82
signature_status signature.Verification = 83
signature_status (signature.Key e) = error_status e
signature_status signature.Memory = 1

-- the number of a refusal, where the first is that of a certificate that is revoked
abbrev pub login_status : ℕ → LoginRefusal → ℕ
login_status of_revoked (policy.Certificate e) = certificate_error_status e
login_status of_revoked policy.NotNormalForm = 70
login_status of_revoked policy.UnacceptedKey = 59
login_status of_revoked policy.Revoked = of_revoked
login_status of_revoked (policy.Invalid w) = refusal_status (Some (first_of w))
login_status of_revoked policy.Elsewhere = 57
login_status of_revoked policy.Memory = 1

abbrev pub reason_status : Reason → ℕ
reason_status reasons.Expired = 91
reason_status reasons.MisplacedOption = 92
reason_status reasons.Elsewhere = 93
reason_status reasons.Command = 94
reason_status reasons.Principals = 95

-- where the first is the number of what is revoked
abbrev pub refusal_of : ℕ → PublickeyRefusal → Refusal
refusal_of of_revoked (refusal.NoKey e) = said (error_status e)
refusal_of of_revoked refusal.UnacceptedKey = said 59
refusal_of of_revoked refusal.Revoked = said of_revoked
refusal_of of_revoked refusal.NotListed = said 90
refusal_of of_revoked (refusal.NotAllowed s line reason) = at_text (reason_status reason) s line
refusal_of of_revoked (refusal.Unclear s line) = at_text 96 s line
refusal_of of_revoked (refusal.Unreadable s) = at_text 98 s 0
refusal_of of_revoked (refusal.Certificate r) = said (login_status of_revoked r)
refusal_of of_revoked refusal.Algorithm = said 81
refusal_of of_revoked (refusal.Signature r) = said (signature_status r)
refusal_of of_revoked (refusal.NoSignature e) = said 86
refusal_of of_revoked refusal.TooLong = said 13
refusal_of of_revoked refusal.NoFlags = said 85
refusal_of of_revoked refusal.NotSigned = said 84
refusal_of of_revoked refusal.Memory = said 1
