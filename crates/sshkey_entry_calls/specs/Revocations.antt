-- What several revocation files say together (sshd_config(5), "RevokedKeys", which may name several
-- since OpenSSH 10.3).
use denote.Ref.{Bor}
use Rattle.std.specs.List.{AllZip, list_all, list_any}
use Rattle.std.specs.Prelude.{◌≡◌, ◌≢◌, ℕ, List, [], ◌∷◌, ◌++◌, replicate, bytes_eq, Bool, true, false, Result, Ok, Err, IfErr, is_ok, if◌then◌else◌}
use Rattle.sshkey_base.specs.Causes.{NoMemory, cause}
use Rattle.sshkey_base.specs.declared.error.Error.{Error}
use Rattle.sshkey_entries.specs.Answers.{NeedsFirstLine}
use Rattle.sshkey_krl.specs.KrlRef.{krl_bytes}
use Rattle.sshkey_krl.specs.Krls.{krl_format, magic}
use Rattle.sshkey_krl.specs.Revocation.{CertificateIdentity}
use Rattle.sshkey_krl.specs.Revocations.{unless_read, is_certificate_revoked, is_key_revoked}
use Rattle.sshkey_model.specs.Reading.{whole, Fault}
use Rattle.sshkey_revoked_keys.specs.RevokedKeys.{ReadsKrl, ReadsRevokedKeys, begins_krl, revokes, revokes_key, NeedsLine, RevokesKey, revoked_lines}
use Rattle.sshkey_revoked_keys.specs.declared.revoked_keys.RevokedKeys.{RevokedKeys}
use Rattle.sshkey_revoked_keys.specs.declared.revoked_keys.RevokedKeys.TheVariants.{Keys, Krl}
use Rattle.sshkey_entry_calls.specs.declared.revocation_files.RevocationFiles.{RevocationFiles}
use Rattle.sshkey_calls.specs.Numbers.{fault_number}
use Rattle.sshkey_calls.specs.Revocations.{TellsRevoked}
use Rattle.sshkey_model.specs.Keys.{SpellsKey, key_data_at}
use Rattle.sshkey_model.specs.Certificates.{certificate_at, SpellsCertificate}

-- ---- what reading gives

-- What reading the file gives, for which memory was enough: a list, keys, or an error.
pub record IsReadOf (file : List ℕ) (read : Result RevokedKeys Error) : Type 0 where
  pub list : begins_krl file ≡ true → ReadsKrl (whole krl_format.read file) file read
  pub text : begins_krl file ≡ false → ReadsRevokedKeys file read
  pub some_memory : IfErr read (λ e. cause e ≢ NoMemory)

-- What reading each of the files gives, in order. No file at all is one that cannot be read.
abbrev pub AreReadOf : List (Bor (List ℕ)) → List (Result RevokedKeys Error) → Type 0
AreReadOf [] reads = (e : Error) × (reads ≡ Err e ∷ [])
AreReadOf (file ∷ files) reads = AllZip (λ it read. IsReadOf it.now read) (file ∷ files) reads

abbrev pub reads_of : RevocationFiles → List (Result RevokedKeys Error)
reads_of it = it.first ∷ it.more.items

-- ---- what is said

abbrev pub are_read : List (Result RevokedKeys Error) → Bool
are_read reads = list_all is_ok reads

-- whether a file revokes the key; one that cannot be read revokes all
abbrev pub one_revokes_key : List (Result RevokedKeys Error) → List ℕ → Bool
one_revokes_key reads key = list_any (λ read. unless_read (λ file. revokes_key file key) read) reads

-- whether a file revokes the certificate
abbrev pub one_revokes : List (Result RevokedKeys Error) → List ℕ → CertificateIdentity → Bool
one_revokes reads key asked = list_any (λ read. unless_read (λ file. revokes file key asked) read) reads

-- the list of nothing: a header, and no section
abbrev pub nothing : List ℕ
nothing = magic ++ 0 ∷ 0 ∷ 0 ∷ 1 ∷ replicate 32 0

abbrev pub is_nothing : Result RevokedKeys Error → Bool
is_nothing (Ok (Krl k)) = bytes_eq (krl_bytes k) nothing
is_nothing (Ok (Keys keys)) = false
is_nothing (Err e) = false

-- it is the only file, so no key and no certificate is revoked
abbrev pub is_only_nothing : List (Result RevokedKeys Error) → Bool
is_only_nothing [] = false
is_only_nothing (read ∷ []) = is_nothing read
is_only_nothing (read ∷ other ∷ reads) = false

-- the number of what they revoke: by a file that cannot be read, which revokes all, it is another one
abbrev pub revoked_status : List (Result RevokedKeys Error) → ℕ
revoked_status reads = if are_read reads then 56 else 58

-- ---- memory

-- It is a text whose first line revokes a key, or needs memory itself.
abbrev pub NeedsFile : List ℕ → Type 0
NeedsFile file = (begins_krl file ≡ false) × NeedsFirstLine RevokesKey NeedsLine (revoked_lines file)

-- The one file needs memory itself; several always do.
abbrev pub NeedsFiles : List (Bor (List ℕ)) → Type 0
NeedsFiles [] = ⊥
NeedsFiles (file ∷ []) = NeedsFile file.now
NeedsFiles (file ∷ other ∷ files) = Unit {0}

-- What is answered of revocation files (sshd_config(5), "RevokedKeys").

-- The bytes spell a value, and this is what is said of it.
abbrev pub IsWhether : {V : Type 0} → (V → List ℕ → Type 0) → (V → Bool) → List ℕ → Bool → Type 0
IsWhether {V} Spells says bytes answer = (v : V) × Spells v bytes × (answer ≡ says v)

-- By files that were read 0 says that the value is not revoked, and 56 that it is; other bytes have
-- their fault. 58 says that one of the files can't be read.
abbrev pub SaysByFiles : {V W : Type 0} → (V → List ℕ → Type 0) → (List ℕ → Result W Fault) → (V → Bool) → Bool → List ℕ → ℕ → Type 0
SaysByFiles Spells read revokes true bytes n = TellsRevoked (IsWhether Spells revokes bytes) n × ((met : Fault) → read bytes ≡ Err met → n ≡ fault_number met)
SaysByFiles Spells read revokes false bytes n = n ≡ 58

-- Memory aside, it says this by what reading the files gives.
abbrev pub TellsByFiles : {V W : Type 0} → (V → List ℕ → Type 0) → (List ℕ → Result W Fault) → (List (Result RevokedKeys Error) → V → Bool) → List (Bor (List ℕ)) → List ℕ → ℕ → Type 0
TellsByFiles Spells read revokes files bytes n = n ≢ 1 → (reads : List (Result RevokedKeys Error)) × AreReadOf files reads × SaysByFiles Spells read (revokes reads) (are_read reads) bytes n

abbrev pub TellsRevokedKey : List (Bor (List ℕ)) → List ℕ → ℕ → Type 0
TellsRevokedKey = TellsByFiles SpellsKey (whole key_data_at) (λ reads k. is_key_revoked (one_revokes_key reads) k)

abbrev pub TellsRevokedCertificate : List (Bor (List ℕ)) → List ℕ → ℕ → Type 0
TellsRevokedCertificate = TellsByFiles SpellsCertificate (whole certificate_at) (λ reads c. is_certificate_revoked (one_revokes reads) c)
