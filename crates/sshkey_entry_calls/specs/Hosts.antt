-- What is answered where nothing can be asked about a host.
use Rattle.std.specs.Prelude.{ℕ, ◌≡◌, ◌≢◌, ◌++◌, List, Bool, Some, Result, Ok, Err, if◌then◌else◌, ◌⊎◌, Option, None}
use Rattle.sshkey_matching.specs.declared.host.HostFault.{HostFault}
use Rattle.sshkey_matching.specs.declared.host.HostFault.TheVariants.{Address, Empty, Memory, Port}
use Rattle.std.specs.Str.{is_utf8}
use Rattle.host_keys.specs.Answers.{RefusesHostCertificate, RefusesHostKey}
use Rattle.host_keys.specs.Hosts as hosts
use Rattle.host_keys.specs.Hosts.{IsHostCertificate, IsHostKey, lines_of}
use Rattle.host_keys.specs.declared.known_by.KnownBy.{KnownBy}
use Rattle.host_keys.specs.declared.known_by.KnownBy.TheVariants.{Authority, CertifiedKey}
use Rattle.host_keys.specs.declared.refusal.HostRefusal.{HostRefusal}
use Rattle.host_keys.specs.declared.refusal.HostRefusal.TheVariants as refusal
use Rattle.sshkey_base.specs.declared.error.Error.{Error}
use Rattle.sshkey_calls.specs.Numbers.{certificate_error_status, refusal_status}
use Rattle.sshkey_calls.specs.Rooms.{TellsOf}
use Rattle.sshkey_calls.specs.Validations.{SaysWhether, Verified}
use Rattle.sshkey_cert.specs.Validity.{refusal_of}
use Rattle.sshkey_entry_calls.specs.Revocations.{AreReadOf, are_read, one_revokes, one_revokes_key}
use Rattle.sshkey_entries.specs.Fields.{filled_lines}
use Rattle.sshkey_known_hosts.specs.Hmac.{hmac_sha1}
use Rattle.sshkey_model.specs.Certificates.{certificate_at, SpellsCertificate}
use Rattle.sshkey_model.specs.Keys.{Key, SpellsKey, key_data_at}
use Rattle.sshkey_model.specs.Verification.{Question}
use Rattle.sshkey_revoked_keys.specs.declared.revoked_keys.RevokedKeys.{RevokedKeys}
use Rattle.sshkey_entry_calls.specs.declared.host_request.HostRequest.{HostRequest}
use Rattle.std.specs.Str.Lines.{lines}
use Rattle.sshkey_matching.specs.AskedHosts.{IsAsked, IsHostFault}
use Rattle.sshkey_entries.specs.HostVerdicts.{known_name}
use Rattle.sshkey_known_hosts.specs.Verdicts.{HidesEntryIn, IsNumberOfFirst}

abbrev pub host_fault_status : HostFault → ℕ
host_fault_status Port = 100
host_fault_status Empty = 101
host_fault_status Address = 102
host_fault_status Memory = 1

-- What is answered of the key or the certificate that a host shows (ssh(1), "VERIFYING HOST KEYS").

-- ---- what is known

-- the name of the host is UTF-8; the texts of known_hosts may be any bytes
abbrev pub are_texts : HostRequest → Bool
are_texts l = is_utf8 l.host.now

-- the host, by these lines, under HMAC-SHA1
abbrev pub login_with : HostRequest → List (List ℕ) → hosts.HostCheck
login_with l lines = record { hmac = hmac_sha1; lines = lines; host = l.host.now; port = l.port; time = l.unix_timestamp; least_rsa_bits = l.least_rsa_bits }

-- the lines of all the texts
abbrev pub own_lines : HostRequest → List (List ℕ)
own_lines l = lines_of l.known_hosts.now

-- and before them those of a text that is held
abbrev pub held_lines : HostRequest → List ℕ → List (List ℕ)
held_lines l held = filled_lines held ++ own_lines l

-- ---- numbers

-- What could not be read revokes everything.
abbrev pub revoked_status : Bool → ℕ
revoked_status are_read = if are_read then 50 else 58

abbrev pub host_status : Bool → HostRefusal → ℕ
host_status are_read refusal.Revoked = revoked_status are_read
host_status are_read refusal.Unreadable = 51
host_status are_read refusal.Changed = 52
host_status are_read refusal.Unknown = 53
host_status are_read refusal.UnacceptedKey = 59
host_status are_read refusal.NotNormalForm = 70
host_status are_read (refusal.Host f) = host_fault_status f
host_status are_read (refusal.Certificate e) = certificate_error_status e
host_status are_read (refusal.Invalid first) = refusal_status (Some (refusal_of first))
host_status are_read refusal.Memory = 1

abbrev pub answer_status : Bool → Result (Unit {0}) HostRefusal → ℕ
answer_status are_read (Ok x) = 0
answer_status are_read (Err r) = host_status are_read r

-- by what a host is known; 0 stands for nothing
abbrev pub known_by_number : KnownBy → ℕ
known_by_number Authority = 1
known_by_number CertifiedKey = 2

-- 0 of a host that is known, and by what; else the number of the refusal, and 0
abbrev pub TellsKnown : Bool → Result KnownBy HostRefusal → ℕ → ℕ → Type 0
TellsKnown are_read (Ok known) by n = (n ≡ 0) × (by ≡ known_by_number known)
TellsKnown are_read (Err r) by n = (n ≡ host_status are_read r) × (by ≡ 0)

-- ---- what is told

-- 0 says exactly that this holds, and another number what is wrong first; 1 is memory.
pub record IsJudged (Holds : Type 0) (IsWhy : HostRefusal → Type 0) (are_read : Bool) (n : ℕ) : Type 0 where
  pub says : SaysWhether Holds n
  pub first : n ≢ 0 → n ≢ 1 → (r : HostRefusal) × IsWhy r × (n ≡ host_status are_read r)

-- Memory aside, it is the number of the verdict on the key by these lines, by what reading the files
-- gives.
abbrev pub TellsKey : HostRequest → List (List ℕ) → Key → ℕ → Type 0
TellsKey l lines k n = n ≢ 1 → (reads : List (Result RevokedKeys Error)) × AreReadOf l.revoked.now reads × IsJudged (IsHostKey (login_with l lines) (one_revokes_key reads) k) (RefusesHostKey (login_with l lines) (one_revokes_key reads) k) (are_read reads) n

-- It is told of the key that the bytes spell.
abbrev pub TellsHostKey : HostRequest → List (List ℕ) → List ℕ → ℕ → Type 0
TellsHostKey l lines bytes n = TellsOf SpellsKey key_data_at bytes (λ k. TellsKey l lines k n) n (Unit {0})

-- 0 says exactly that the host is known, and by what; another number says what is wrong first, and
-- 1 is memory.
pub record IsJudgedBy (Holds : KnownBy → Type 0) (IsWhy : HostRefusal → Type 0) (are_read : Bool) (by n : ℕ) : Type 0 where
  pub yes_ : n ≡ 0 → (known : KnownBy) × Holds known × (by ≡ known_by_number known)
  pub no_ : n ≢ 0 → n ≢ 1 → (known : KnownBy) → Holds known → ⊥
  pub first : n ≢ 0 → n ≢ 1 → (r : HostRefusal) × IsWhy r × (n ≡ host_status are_read r)

-- the verdict on the certificate by these lines, for that verifier
abbrev pub IsJudgedCertificate : HostRequest → List (List ℕ) → (Question → Bool) → List (Result RevokedKeys Error) → List ℕ → ℕ → ℕ → Type 0
IsJudgedCertificate l lines accepts reads bytes = IsJudgedBy (IsHostCertificate (login_with l lines) accepts (one_revokes reads) (one_revokes_key reads) bytes) (RefusesHostCertificate (login_with l lines) accepts (one_revokes reads) (one_revokes_key reads) bytes) (are_read reads)

-- Memory aside, it is the number of that verdict, by what reading the files gives.
abbrev pub JudgesCertificate : HostRequest → List (List ℕ) → (Question → Bool) → List ℕ → ℕ → ℕ → Type 0
JudgesCertificate l lines accepts bytes by n = n ≢ 1 → (reads : List (Result RevokedKeys Error)) × AreReadOf l.revoked.now reads × IsJudgedCertificate l lines accepts reads bytes by n

-- The same for each verifier that says so of this certificate's question.
abbrev pub TellsCertificate : HostRequest → List (List ℕ) → List ℕ → ℕ → ℕ → ℕ → Type 0
TellsCertificate l lines bytes is_verified by n = n ≢ 1 → (reads : List (Result RevokedKeys Error)) × AreReadOf l.revoked.now reads × ((accepts : Question → Bool) → Verified accepts bytes is_verified → IsJudgedCertificate l lines accepts reads bytes by n)

-- It is told of the certificate that the bytes spell.
abbrev pub TellsHostCertificate : HostRequest → List (List ℕ) → List ℕ → ℕ → ℕ → ℕ → Type 0
TellsHostCertificate l lines bytes is_verified by n = TellsOf SpellsCertificate certificate_at bytes (λ c. TellsCertificate l lines bytes is_verified by n) n (Unit {0})

-- What is answered of the lines of a text of known_hosts that cannot be read.

-- the number of the first line of the text that is no entry and could be one for the host at the port
abbrev pub IsUnreadableLine : List ℕ → List ℕ → ℕ → Option ℕ → Type 0
IsUnreadableLine text host port = IsNumberOfFirst (HidesEntryIn hmac_sha1 (known_name host port)) (lines text)

-- 0 says that this is the number, and 3 that there is none; 1 is memory.
pub record TellsLine (text name : List ℕ) (port n number : ℕ) : Type 0 where
  pub found : n ≡ 0 → IsUnreadableLine text name port (Some number)
  pub none : n ≡ 3 → IsUnreadableLine text name port None
  pub others : n ≢ 1 → (n ≡ 0) ⊎ (n ≡ 3)

-- It is told of the host by the name that is asked; or nothing can be asked about it, for the fault
-- of that number.
abbrev pub TellsUnreadableLine : List ℕ → List ℕ → ℕ → ℕ → ℕ → Type 0
TellsUnreadableLine text host port n number = ((name : List ℕ) × IsAsked host port name × TellsLine text name port n number) ⊎ ((f : HostFault) × IsHostFault host port f × (n ≡ host_fault_status f))
