-- What is answered of a line of a key file or of a certificate file.
use Rattle.std.specs.Prelude.{◌≡◌, ◌≢◌, ◌⊎◌, ℕ, ◌<◌, ◌==◌, if◌then◌else◌, List, ◌++◌, length}
use Rattle.sshkey_base.specs.declared.error.Error.{Error}
use Rattle.sshkey_model.specs.Lines.{IsLine, key_name, name_of_certificate}
use Rattle.sshkey_model.specs.Keys.{key_format, SpellsKey}
use Rattle.sshkey_public.specs.Lines.{HasFaultOfLine, NeedsValue}
use Rattle.sshkey_model.specs.Certificates.{certificate_format, SpellsCertificate}
use Rattle.sshkey_calls.specs.Numbers.{error_status}
use Rattle.sshkey_calls.specs.Rooms.{GivesValue, IsPlaced}
use Rattle.sshkey_calls.specs.declared.line.Line.{Line}

-- What a line holds: 1 for a key or 2 for a certificate, its bytes, and the comment.
pub record Content : Type 0 where
  pub kind : ℕ
  pub blob : List ℕ
  pub comment : List ℕ

abbrev pub content_of : ℕ → List ℕ → List ℕ → Content
content_of kind blob comment = record { kind = kind; blob = blob; comment = comment }

-- the text is the line of a value that the blob spells, with that comment
abbrev pub IsLineWith : {V : Type 0} → (V → List ℕ) → (V → List ℕ → Type 0) → List ℕ → Content → Type 0
IsLineWith {V} name Spells text x = (v : V) × Spells v x.blob × IsLine text (name v) x.blob x.comment

-- the text is the line of a key or of a certificate, and that is what it holds
abbrev pub HoldsContent : List ℕ → Content → Type 0
HoldsContent text x = ((x.kind ≡ 1) × IsLineWith key_name SpellsKey text x) ⊎ ((x.kind ≡ 2) × IsLineWith name_of_certificate SpellsCertificate text x)

-- Memory may be asked for: by the bytes of the second word, as those of a key or of a certificate,
-- or for what the line holds.
abbrev pub NeedsLine : List ℕ → Type 0
NeedsLine text = NeedsValue key_format text ⊎ (NeedsValue certificate_format text ⊎ ((x : Content) × HoldsContent text x))

-- ---- in the room

-- the blob, and after it the comment
abbrev pub line_bytes : Content → List ℕ
line_bytes x = x.blob ++ x.comment

-- The answer says where each of them is, how many bytes they take, and what the blob is.
pub record ArePlaced (x : Content) (line : Line) : Type 0 where
  pub kind : line.kind ≡ x.kind
  pub blob : IsPlaced 0 x.blob line.blob
  pub comment : IsPlaced (length x.blob) x.comment line.comment
  pub length : line.length ≡ length (line_bytes x)

-- What a call answers that looks for the one content that `Wanted` tells. Where there is none, the
-- number is from 10 to 29.
pub record ReadsContent (Wanted : Content → Type 0) (n : ℕ) (was line : Line) (before after : List ℕ) : Type 0 where
  pub gives : GivesValue Wanted line_bytes ArePlaced (λ (a : Line). a.length) n was line before after
  pub fault : n ≢ 0 → n ≢ 1 → n ≢ 2 → (9 < n) × (n < 30)

-- ---- what is wrong with a line of neither

-- the number is that of a fault that the text has as the line of a key
abbrev pub NumbersKeyFault : List ℕ → ℕ → Type 0
NumbersKeyFault text n = (e : Error) × HasFaultOfLine key_format key_name SpellsKey text e × (n ≡ error_status e)

-- or as the line of a certificate
abbrev pub NumbersCertificateFault : List ℕ → ℕ → Type 0
NumbersCertificateFault text n = (e : Error) × HasFaultOfLine certificate_format name_of_certificate SpellsCertificate text e × (n ≡ error_status e)

-- the fault as a certificate's line, but where that is 12, for a name that no certificate has, the
-- one as a key's. (A key may have the name of a certificate: as a key of private use.)
abbrev pub fault_of_either : ℕ → ℕ → ℕ
fault_of_either of_key of_certificate = if of_certificate == 12 then of_key else of_certificate

-- Every number but 0, 1 and 2 is that of such a fault.
abbrev pub TellsLineFault : List ℕ → ℕ → Type 0
TellsLineFault text n = n ≢ 0 → n ≢ 1 → n ≢ 2 → (of_key : ℕ) × (of_certificate : ℕ) × NumbersKeyFault text of_key × NumbersCertificateFault text of_certificate × (n ≡ fault_of_either of_key of_certificate)
