-- A key of a later kind in a line: OpenSSH 10.6 reads it, and nobody is let in by one here.
use Rattle.std.specs.Prelude.{◌≡◌, ℕ, List, [], ◌∷◌, ◌++◌, length, codes, ◌≢◌, ◌⊎◌, Bool, true, false, IsTrue, ◌<◌, ◌==◌, map, filter, is_ok, ◌||◌, eqb, bytes_eq, Result, Ok, Err, IsOkAnd, IsErrAnd, Vec}
use Rattle.base64.specs.Engines.{standard}
use Rattle.base64.specs.GeneralPurpose.{IsBytes, encode_of}
use Rattle.sshkey_model.specs.Parts.{flat}
use Rattle.sshkey_model.specs.Texts.{string}
use Rattle.openssh_limits.specs.Limits.{openssh_reads_key, AreReadPrincipals}
use Rattle.sshkey_model.specs.Formats.{Format}
use Rattle.sshkey_base.specs.declared.error.Error.{Error}
use Rattle.sshkey_base.specs.declared.error.Error.TheVariants.{AlgorithmUnknown, FormatEncoding, Encoding}
use Rattle.sshkey_krl.specs.Krls.{is_read_signer, magic}
use Rattle.sshkey_model.specs.Certificates.{Certificate, certificate_format, SpellsCertificate}
use Rattle.sshkey_model.specs.Keys.{Key, normal_key, key_format, SpellsKey}
use Rattle.sshkey_model.specs.Lines.{IsWithout, key_name, name_of_certificate}
use Rattle.sshkey_public.specs.Lines.{HasFaultOfWord, NeedsWord, IsNoWord, IsWordOf}
use Rattle.std.specs.List.{slice_split, Any, list_any, starts_with}
use Rattle.std.specs.Str.{IsUtf8}
use Rattle.sshkey_base.specs.declared.encoding.Error.TheVariants.{CharacterEncoding, Length}
use Rattle.sshkey_entries.specs.Fields.{is_filled, without_blanks, AreFields}
use Rattle.sshkey_model.specs.CertificateNames.{certified_from}
use Rattle.std.specs.Global.{Global}
use Rattle.sshkey_base.specs.Causes.{cause, Faulty, NoMemory}
use Rattle.sshkey_entries.specs.Answers.{AreEntries, AsksEntries, FirstIsNone}
use Rattle.sshkey_krl.specs.KrlRef.{krl_bytes, krl_of}
use Rattle.sshkey_krl.specs.Revocation as list
use Rattle.sshkey_krl.specs.Revocation.{CertificateIdentity}
use Rattle.sshkey_model.specs.Reading.{Fault}
use Rattle.sshkey_revoked_keys.specs.declared.revoked_keys.RevokedKeys.{RevokedKeys}
use Rattle.sshkey_revoked_keys.specs.declared.revoked_keys.RevokedKeys.TheVariants.{Keys, Krl}

abbrev pub later_name : List ℕ
later_name = codes "ssh-mldsa44-ed25519"

-- how many bytes such a key has after its name: 1,312 of ML-DSA-44 (FIPS 204), and 32 of Ed25519
abbrev pub later_size : ℕ
later_size = 1344

-- The blob of the key of these bytes.
abbrev pub later_blob : List ℕ → List ℕ
later_blob own = flat (string later_name) ++ flat (string own)

-- what it begins with: the name, and how many bytes follow, as strings have them
abbrev pub later_front : List ℕ
later_front = 0 ∷ 0 ∷ 0 ∷ 19 ∷ (codes "ssh-mldsa44-ed25519" ++ (0 ∷ 0 ∷ 5 ∷ 64 ∷ []))

-- The name and the word are those of such a key, and this is its blob.
pub record IsLaterKey (first word blob : List ℕ) : Type 0 where
  pub own : List ℕ
  pub named : first ≡ later_name
  pub size : length own ≡ later_size
  pub is : blob ≡ later_blob own
  pub bytes : IsBytes blob
  pub spelled : word ≡ encode_of standard blob

-- What a word of Base64 says under a name.

-- The word spells the value, and the first word is the value's name.
pub record IsNamedWord {V : Type 0} (name : V → List ℕ) (Spells : V → List ℕ → Type 0) (first word : List ℕ) (value : V) : Type 0 where
  pub named : first ≡ name value
  pub spelled : IsWordOf Spells word value

-- And OpenSSH reads the value.
pub record IsReadWord {V : Type 0} (name : V → List ℕ) (Spells : V → List ℕ → Type 0) (IsRead : V → Type 0) (first word : List ℕ) (value : V) : Type 0 where
  pub named : IsNamedWord name Spells first word value
  pub read : IsRead value

-- the fault of a word that spells no value, and `AlgorithmUnknown` of a value with another name
pub record HasNameFault {V Y : Type 0} (f : Format Y) (name : V → List ℕ) (Spells : V → List ℕ → Type 0) (first word : List ℕ) (e : Error) : Type 0 where
  pub bad_word : IsNoWord Spells word → HasFaultOfWord f word e
  pub other_name : (value : V) → IsWordOf Spells word value → first ≢ name value → e ≡ AlgorithmUnknown

-- and `FormatEncoding` of a value that OpenSSH does not read
pub record HasReadFault {V Y : Type 0} (f : Format Y) (name : V → List ℕ) (Spells : V → List ℕ → Type 0) (IsRead : V → Type 0) (first word : List ℕ) (e : Error) : Type 0 where
  pub unread : (value : V) → IsNamedWord name Spells first word value → (IsRead value → ⊥) → e ≡ FormatEncoding
  pub unnamed : ((value : V) → IsNamedWord name Spells first word value → ⊥) → HasNameFault f name Spells first word e

-- ---- what OpenSSH reads

-- a key of any size: a line with one that is too short for it is passed over, and nobody logs in by it
abbrev pub IsReadKey : Key → Type 0
IsReadKey k = IsTrue (openssh_reads_key 0 k)

-- a certificate: its key, the key that signed it, its key id and its principals
pub record IsReadCertificate (c : Certificate) : Type 0 where
  pub key : IsReadKey c.signed.key
  pub signer : IsTrue (is_read_signer c.signed.signature_key)
  pub key_id : IsWithout 0 c.signed.key_id
  pub principals : AreReadPrincipals c.signed.valid_principals

-- ---- a key, as the bytes of its normal form: under a certificate's name that of a certificate

-- a key that is read here
abbrev pub SaysOwnKey : List ℕ → List ℕ → List ℕ → Type 0
SaysOwnKey first word key = (k : Key) × IsReadWord key_name SpellsKey IsReadKey first word k × (key ≡ flat (normal_key k))

abbrev pub SaysKey : Bool → List ℕ → List ℕ → List ℕ → Type 0
SaysKey true first word key = (c : Certificate) × IsReadWord name_of_certificate SpellsCertificate IsReadCertificate first word c × (key ≡ flat (normal_key c.signed.key))
SaysKey false first word key = SaysOwnKey first word key ⊎ IsLaterKey first word key

abbrev pub HasNamedFault : Bool → List ℕ → List ℕ → Error → Type 0
HasNamedFault true = HasReadFault certificate_format name_of_certificate SpellsCertificate IsReadCertificate
HasNamedFault false = HasReadFault key_format key_name SpellsKey IsReadKey

-- Its bytes need memory, or it is a key.
abbrev pub NeedsNamedBytes : Bool → List ℕ → Type 0
NeedsNamedBytes true = NeedsWord certificate_format
NeedsNamedBytes false = NeedsWord key_format

abbrev pub NeedsKey : Bool → List ℕ → List ℕ → Type 0
NeedsKey certified first word = ((key : List ℕ) × SaysKey certified first word key) ⊎ NeedsNamedBytes certified word

-- The lines of a revocation file that is a text (sshd_config(5), "RevokedKeys"; sshd(8),
-- "AUTHORIZED_KEYS FILE FORMAT"): a key or a certificate a line, between spaces and tabs.

abbrev pub is_line_feed : ℕ → Bool
is_line_feed c = c == 10

-- what stands between line feeds, without the blanks at its front, but for what is empty then, and
-- comments
unfoldable pub revoked_lines : List ℕ → List (List ℕ)
revoked_lines text = filter is_filled (map without_blanks (slice_split is_line_feed text))

-- The line begins with the name and the word, with blanks between.
pub record BeginsWithWord (line name word : List ℕ) : Type 0 where
  pub rest : List ℕ
  pub fields : AreFields line name word rest

-- whether it is the name of an algorithm in certificates
abbrev pub is_certified_name : List ℕ → Bool
is_certified_name name = is_ok (certified_from name)

-- The line is a key, or a certificate of it. The key is the bytes of its normal form.
pub record RevokesKey (line key : List ℕ) : Type 0 where
  pub name : List ℕ
  pub word : List ℕ
  pub begins : BeginsWithWord line name word
  pub says : SaysKey (is_certified_name name) name word key

-- ---- refusals

-- `Length` where the word is missing, `CharacterEncoding` where it or the name is no UTF-8, and else
-- the fault of the word or the name
pub record HasLineFault (line : List ℕ) (e : Error) : Type 0 where
  pub no_word : (name : List ℕ) → BeginsWithWord line name [] → e ≡ Encoding Length
  pub no_text : (name word : List ℕ) → BeginsWithWord line name word → 0 < length word → ¬ (IsUtf8 name × IsUtf8 word) → e ≡ Encoding CharacterEncoding
  pub no_key : (name word : List ℕ) → BeginsWithWord line name word → 0 < length word → IsUtf8 name × IsUtf8 word → HasNamedFault (is_certified_name name) name word e

-- The bytes of the word need memory.
pub record NeedsLine (line : List ℕ) : Type 0 where
  pub name : List ℕ
  pub word : List ℕ
  pub begins : BeginsWithWord line name word
  pub needed : NeedsNamedBytes (is_certified_name name) word

-- Reading the line needs memory: it revokes a key, or its word needs some.
abbrev pub NeedsEntry : List ℕ → Type 0
NeedsEntry line = ((key : List ℕ) × RevokesKey line key) ⊎ NeedsLine line

-- What a revocation file says (sshd_config(5), "RevokedKeys"), and what it revokes.

-- ---- what a file says

-- whether it is a key revocation list, and no text
abbrev pub begins_krl : List ℕ → Bool
begins_krl bytes = starts_with eqb bytes magic

-- the list that the bytes spell
abbrev pub IsKrl : List ℕ → RevokedKeys → Type 0
IsKrl bytes (Krl k) = krl_bytes k ≡ bytes
IsKrl bytes (Keys keys) = ⊥

-- the keys that the lines revoke, in order
abbrev pub AreKeys : List ℕ → RevokedKeys → Type 0
AreKeys text (Krl k) = ⊥
AreKeys text (Keys keys) = AreEntries (λ key. key.items) RevokesKey (revoked_lines text) keys.items

-- A line of the text revokes the key.
abbrev pub HasLineOf : List ℕ → List ℕ → Type 0
HasLineOf text key = Any (λ line. RevokesKey line key) (revoked_lines text)

-- ---- what it revokes

abbrev pub has_key : {Z : Type 0} → List (Vec ℕ Z) → List ℕ → Bool
has_key keys key = list_any (λ it. bytes_eq it.items key) keys

-- the keys of its lines
abbrev pub revokes_key : RevokedKeys → List ℕ → Bool
revokes_key (Krl k) key = list.revokes_key (krl_of k) key
revokes_key (Keys keys) key = has_key keys.items key

-- a certificate by its key, or by the key that signed it
abbrev pub revokes : RevokedKeys → List ℕ → CertificateIdentity → Bool
revokes (Krl k) key identity = list.revokes (krl_of k) key identity
revokes (Keys keys) key identity = has_key keys.items key || has_key keys.items identity.signer

-- ---- answers of the reader

-- the list if its reader takes the bytes, and else that reader's fault; it takes no memory
abbrev pub ReadsKrl : Result list.Krl Fault → List ℕ → Result RevokedKeys Error → Type 0
ReadsKrl (Ok k) bytes r = IsOkAnd r (IsKrl bytes)
ReadsKrl (Err fault) bytes r = IsErrAnd r (λ e. cause e ≡ Faulty fault)

-- the keys of all lines; or the first line that revokes none has that fault
abbrev pub ReadsRevokedKeys : List ℕ → Result RevokedKeys Error → Type 0
ReadsRevokedKeys text (Ok file) = AreKeys text file
ReadsRevokedKeys text (Err e) = cause e ≢ NoMemory → FirstIsNone {X = Vec ℕ Global} (λ key. key.items) RevokesKey HasLineFault (revoked_lines text) e

-- Memory was refused only where the first line revokes a key, or needs memory itself.
abbrev pub AsksText : List ℕ → Result RevokedKeys Error → Type 0
AsksText text = AsksEntries RevokesKey NeedsLine (revoked_lines text)
