-- Signatures (RFC 4253, section 6.6; RFC 5656, section 3.1.2; RFC 8332, section 3; RFC 8709,
-- section 6; PROTOCOL.u2f).
use Rattle.std.specs.Prelude.{◌≡◌, ℕ, suc, ◌-◌, ◌<◌, ◌≤◌, List, ◌++◌, length, take, drop, Bool, true, false, Option, Some, None, Result, ok_or, Ok, Err, IsOk, IsOkAnd, ◌⊎◌, nat_lt, ◌==◌, if◌then◌else◌}
use Rattle.sshkey_model.specs.Parts.{Parts, bytes, ◌&◌, flat, Fits}
use Rattle.sshkey_model.specs.Reading.{Fault, Length, Crypto, ◌>>=◌, Front, Whole, string_at, bytes_at, checked_at}
use Rattle.sshkey_model.specs.Grammar.{Spells}
use Rattle.sshkey_model.specs.Formats.{Format}
use Rattle.sshkey_model.specs.Needs.{NeedsString}
use Rattle.sshkey_model.specs.Overruns.{OverrunsString}
use Rattle.sshkey_model.specs.Terms.{called, known_as, tested}
use Rattle.sshkey_model.specs.Texts.{string}
use Rattle.sshkey_model.specs.Names.{Nistp256, Algorithm, IsAlgorithm, algorithm, name_format}
use Rattle.sshkey_model.specs.Mpints.{IsMpint, mpint_from, positive_part}
use Rattle.sshkey_model.specs.Points.{field_size}

-- ---- an ECDSA signature: r and s

abbrev pub has_part : ℕ → Option (List ℕ) → Bool
has_part size None = false
has_part size (Some p) = nat_lt (length p) (suc size)

-- a positive number of at most `size` bytes
abbrev pub IsComponent : ℕ → List ℕ → Type 0
IsComponent size r = IsMpint r × (has_part size (positive_part r) ≡ true)

pub record IsEcdsaBlob (size : ℕ) (blob : List ℕ) : Type 0 where
  pub r : List ℕ
  pub s : List ℕ
  pub r_is : IsComponent size r
  pub s_is : IsComponent size s
  pub fits : Fits (string r & string s)
  pub shape : blob ≡ flat (string r & string s)

-- ---- all kinds

-- The blob of a security key's signature ends with its flags, one byte, and its counter, four.
pub record Signature : Type 0 where
  pub algorithm : Algorithm
  pub blob : List ℕ

abbrev pub without_trailer : List ℕ → List ℕ
without_trailer blob = take (length blob - 5) blob

abbrev pub trailer : List ℕ → List ℕ
trailer blob = drop (length blob - 5) blob

-- These five bytes follow the string.
abbrev pub has_trailer : Algorithm → Bool
has_trailer Algorithm.SkEcdsa = true
has_trailer Algorithm.SkEd25519 = true
has_trailer _ = false

abbrev pub signature_blob : Algorithm → List ℕ → Parts
signature_blob a blob = if has_trailer a then string (without_trailer blob) & bytes (trailer blob) else string blob

abbrev pub signature : Signature → Parts
signature g = algorithm g.algorithm & signature_blob g.algorithm g.blob

abbrev pub IsSignatureBlob : Algorithm → List ℕ → Type 0
IsSignatureBlob Algorithm.Dsa blob = length blob ≡ 40
IsSignatureBlob (Algorithm.Ecdsa c) blob = IsEcdsaBlob (field_size c) blob
IsSignatureBlob Algorithm.Ed25519 blob = length blob ≡ 64
IsSignatureBlob (Algorithm.Rsa None) blob = ⊥
IsSignatureBlob (Algorithm.Rsa (Some h)) blob = Unit {0}
IsSignatureBlob Algorithm.SkEcdsa blob = (5 ≤ length blob) × IsEcdsaBlob (field_size Nistp256) (without_trailer blob)
IsSignatureBlob Algorithm.SkEd25519 blob = length blob ≡ 69
IsSignatureBlob (Algorithm.Other n) blob = 0 < length blob

abbrev pub IsSignature : Signature → Type 0
IsSignature g = IsAlgorithm g.algorithm × IsSignatureBlob g.algorithm g.blob

-- ---- reading

-- the positive number of these bytes
abbrev pub positive_from : Whole (List ℕ)
positive_from b = mpint_from b >>= λ r. ok_or (positive_part r) Crypto

-- what follows a positive number of at most `size` bytes
abbrev pub after_component : ℕ → Whole (List ℕ)
after_component size b = do
  x ← string_at b
  p ← positive_from x.0
  if nat_lt (length p) (suc size) then Ok x.1 else Err Length

-- r, and s, each judged as it comes, and nothing after
unfoldable pub ecdsa_blob_from : ℕ → Whole (List ℕ)
ecdsa_blob_from size b = do
  r ← after_component size b
  s ← after_component size r
  if length s == 0 then Ok b else Err Length

abbrev pub sized_from : ℕ → Whole (List ℕ)
sized_from n b = if length b == n then Ok b else Err Length

abbrev pub some_from : Whole (List ℕ)
some_from b = if nat_lt 0 (length b) then Ok b else Err Length

abbrev pub none_from : Whole (List ℕ)
none_from b = Err Length

-- what stands in the string
abbrev pub string_from : Algorithm → Whole (List ℕ)
string_from Algorithm.Dsa b = sized_from 40 b
string_from (Algorithm.Ecdsa c) b = ecdsa_blob_from (field_size c) b
string_from Algorithm.Ed25519 b = sized_from 64 b
string_from (Algorithm.Rsa None) b = none_from b
string_from (Algorithm.Rsa (Some h)) b = Ok b
string_from Algorithm.SkEcdsa b = ecdsa_blob_from (field_size Nistp256) b
string_from Algorithm.SkEd25519 b = sized_from 64 b
string_from (Algorithm.Other n) b = some_from b

-- The string and the trailer are read before the string is judged.
abbrev pub trailed_at : Whole (List ℕ) → Front (List ℕ)
trailed_at judge b = do
  x ← string_at b
  t ← bytes_at 5 x.1
  blob ← judge x.0
  Ok (blob ++ t.0, t.1)

abbrev pub signature_blob_at : Algorithm → Front (List ℕ)
signature_blob_at a = if has_trailer a then trailed_at (string_from a) else checked_at (string_from a) string_at

-- The length of one of the two numbers passes.
abbrev pub OverrunsComponents : ℕ → List ℕ → Type 0
OverrunsComponents size b = OverrunsString b 0 ⊎ IsOkAnd (after_component size b) (λ r. OverrunsString r 0)

-- So it does in the string of an ECDSA signature. In other strings no length stands.
abbrev pub OverrunsNumbers : Algorithm → List ℕ → Type 0
OverrunsNumbers (Algorithm.Ecdsa c) b = OverrunsComponents (field_size c) b
OverrunsNumbers Algorithm.SkEcdsa b = OverrunsComponents (field_size Nistp256) b
OverrunsNumbers _ b = ⊥

-- The length of the string passes; or the string is all there, with n bytes after it, and a length
-- in it passes.
abbrev pub OverrunsInside : (List ℕ → Type 0) → ℕ → List ℕ → ℕ → Type 0
OverrunsInside inside n b m = OverrunsString b m ⊎ IsOkAnd (string_at b) (λ x. IsOk (bytes_at n x.1) × inside x.0)

-- the same of what follows that name, with a security key's five bytes after the string
abbrev pub OverrunsBlob : Algorithm → List ℕ → ℕ → Type 0
OverrunsBlob a = OverrunsInside (OverrunsNumbers a) (if has_trailer a then 5 else 0)

-- ---- as formats: the name, and then the string, with a trailer after it for security keys

abbrev pub blob_format : Algorithm → Format (List ℕ)
blob_format a = record { Spells = Spells (IsSignatureBlob a) (signature_blob a); read = signature_blob_at a; delimited_at = signature_blob_at a; needs = NeedsString; overruns = OverrunsBlob a }

-- the signature under that name
abbrev pub signature_with : Algorithm → List ℕ → Result Signature Fault
signature_with a blob = Ok (record { algorithm = a; blob = blob })

abbrev pub signature_under : Algorithm → Format Signature
signature_under a = tested (signature_with a) (blob_format a)

-- the bytes spell the signature
abbrev pub SpellsSignature : Signature → List ℕ → Type 0
SpellsSignature = Spells IsSignature signature

unfoldable pub signature_at : Front Signature
signature_at = (called name_format signature_under).read

abbrev pub signature_format : Format Signature
signature_format = known_as (called name_format signature_under) SpellsSignature signature_at
