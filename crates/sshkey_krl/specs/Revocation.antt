-- Serial numbers of certificates in a key revocation list (PROTOCOL.krl): one by one, a range, or
-- the bits of a number.
use Rattle.std.specs.Prelude.{ℕ, zero, suc, ◌+◌, ◌*◌, ◌-◌, ◌/◌, ◌%◌, ◌^◌, List, [], ◌∷◌, length, Bool, false, not, ◌&&◌, ◌||◌, ◌==◌, nat_le, nat_lt, if◌then◌else◌, Result, Ok, Err, ◌++◌, take, true, bytes_eq}
use Rattle.std.specs.Int.{w8, bit_at, leading_zeros}
use Rattle.std.specs.List.{list_any, slice_index}
use Rattle.sshkey_model.specs.Reading.{Fault, FormatEncoding}
use Rattle.sha1.specs.Sha1.{sha1}
use Rattle.sha2.specs.Sha256.{sha256}
use Rattle.sshkey_model.specs.Certificates.{Certificate}
use Rattle.sshkey_model.specs.Keys.{Key, normal_key}
use Rattle.sshkey_model.specs.Parts.{flat}

pub data Serials : Type 0 where
  Listed : List ℕ → Serials
  Range : ℕ → ℕ → Serials
  Bitmap : ℕ → List ℕ → Serials

-- whether the number of those bytes, most significant first, has a one at that place, counted from
-- its last bit
abbrev pub has_bit : List ℕ → ℕ → Bool
has_bit bytes place = nat_lt (place / 8) (length bytes) && bit_at (slice_index bytes (length bytes - 1 - place / 8)) (place % 8) == 1

-- The serials have the number: it is one of them, it lies in the range, both ends included, or its
-- bit is a one, where the last bit stands for the first number.
abbrev pub has_serial : ℕ → Serials → Bool
has_serial n (Listed ns) = list_any (λ m. m == n) ns
has_serial n (Range lo hi) = nat_le lo n && nat_le n hi
has_serial n (Bitmap first bytes) = nat_le first n && has_bit bytes (n - first)

-- ---- what may stand in a list

-- a number that a certificate may have
abbrev pub serial_from : ℕ → Result ℕ Fault
serial_from n = if n == 0 then Err FormatEncoding else Ok n

abbrev pub range_from : ℕ × ℕ → Result Serials Fault
range_from r = if r.0 == 0 || nat_lt r.1 r.0 then Err FormatEncoding else Ok (Range r.0 r.1)

-- the bytes after leading zeros
unfoldable pub significant : List ℕ → List ℕ
significant [] = []
significant (zero ∷ bytes) = significant bytes
significant (suc n ∷ bytes) = suc n ∷ bytes

-- how many bits the number of those bytes has, if the first is not zero
abbrev pub bit_len : List ℕ → ℕ
bit_len [] = 0
bit_len (byte ∷ bytes) = 8 * length bytes + (8 - leading_zeros w8 byte)

-- The first bit is a one.
abbrev pub is_negative : List ℕ → Bool
is_negative [] = false
is_negative (byte ∷ bytes) = nat_lt 127 byte

-- The number has at most 2,048 bytes without zeros in front, and all its bits are for numbers below 2^64.
abbrev pub fits : ℕ → List ℕ → Bool
fits first number = nat_le (length number) 2048 && nat_le (first + bit_len number) (2 ^ 64)

-- The bytes are a number that is not negative, at most 2,049 of them, and its bits are for numbers from
-- 1 to 2^64 - 1.
abbrev pub is_bitmap : ℕ → List ℕ → Bool
is_bitmap first bytes = nat_le (length bytes) 2049 && not (is_negative bytes) && fits first (significant bytes) && not (first == 0 && has_bit bytes 0)

abbrev pub bitmap_from : ℕ × List ℕ → Result Serials Fault
bitmap_from b = if is_bitmap b.0 b.1 then Ok (Bitmap b.0 b.1) else Err FormatEncoding

-- What a key revocation list says (OpenSSH's PROTOCOL.krl), and what it revokes.

-- whose certificates are revoked: everybody's, or those that the key has signed
pub data Authority : Type 0 where
  Everybody : Authority
  Signer : Key → Authority

pub data Part : Type 0 where
  Numbers : Serials → Part
  KeyIds : List (List ℕ) → Part

-- the bytes of keys, digests of them by SHA-1 and by SHA-256, or parts about certificates
pub data Section : Type 0 where
  Certificates : Authority → List Part → Section
  Keys Sha1s Sha256s : List (List ℕ) → Section

pub record Krl : Type 0 where
  pub number : ℕ
  pub date : ℕ
  pub flags : ℕ
  pub reserved : List ℕ
  pub comment : List ℕ
  pub sections : List Section

-- ---- keys

-- The section has the key's bytes, or their digest.
abbrev pub has_key : List ℕ → Section → Bool
has_key bytes (Certificates authority parts) = false
has_key bytes (Keys keys) = list_any (bytes_eq bytes) keys
has_key bytes (Sha1s digests) = list_any (bytes_eq (sha1 bytes)) digests
has_key bytes (Sha256s digests) = list_any (bytes_eq (sha256 bytes)) digests

-- The list has the key whose normal form these bytes are.
abbrev pub revokes_key : Krl → List ℕ → Bool
revokes_key krl key = list_any (has_key key) krl.sections

-- ---- certificates

-- the bytes without a zero byte at their end, which OpenSSH does not count as part of a text
abbrev pub without_zero : List ℕ → List ℕ
without_zero b = if slice_index b (length b - 1) == 0 then take (length b - 1) b else b

-- what a list asks of a certificate beside its key: who signed it, as the bytes of the key's normal
-- form, its serial number and its key id, without a zero byte at its end
pub record CertificateIdentity : Type 0 where
  pub signer : List ℕ
  pub serial : ℕ
  pub key_id : List ℕ

abbrev pub certificate_identity : List ℕ → ℕ → List ℕ → CertificateIdentity
certificate_identity signer serial key_id = record { signer = signer; serial = serial; key_id = without_zero key_id }

-- The section is about the authority's certificates.
abbrev pub is_by : List ℕ → Authority → Bool
is_by signer Everybody = true
is_by signer (Signer key) = bytes_eq signer (flat (normal_key key))

-- The number 0, which stands for none, is never revoked.
abbrev pub has_certificate : CertificateIdentity → Part → Bool
has_certificate identity (Numbers serials) = not (identity.serial == 0) && has_serial identity.serial serials
has_certificate identity (KeyIds ids) = list_any (bytes_eq identity.key_id) ids

abbrev pub lists : CertificateIdentity → Section → Bool
lists identity (Certificates authority parts) = is_by identity.signer authority && list_any (has_certificate identity) parts
lists identity (Keys keys) = false
lists identity (Sha1s digests) = false
lists identity (Sha256s digests) = false

-- The list revokes a certificate of the key, which the signer's key signed: either key, or the serial
-- number or the key id among the certificates of the signer. Keys are the bytes of their normal form.
abbrev pub revokes : Krl → List ℕ → CertificateIdentity → Bool
revokes krl key identity = revokes_key krl key || (revokes_key krl identity.signer || list_any (lists identity) krl.sections)

-- The same of a certificate. Nothing else in it is asked.
abbrev pub certificate_identity_of : Certificate → CertificateIdentity
certificate_identity_of c = certificate_identity (flat (normal_key c.signed.signature_key)) c.signed.serial c.signed.key_id

abbrev pub revokes_certificate : Krl → Certificate → Bool
revokes_certificate krl c = revokes krl (flat (normal_key c.signed.key)) (certificate_identity_of c)

-- ---- lists that are made

-- a list without sections
abbrev pub begun : ℕ → ℕ → List ℕ → Krl
begun number date comment = record { number = number; date = date; flags = 0; reserved = []; comment = comment; sections = [] }

-- the list with one section more
abbrev pub with_section : Krl → Section → Krl
with_section k s = record { number = k.number; date = k.date; flags = k.flags; reserved = k.reserved; comment = k.comment; sections = k.sections ++ s ∷ [] }

-- ---- two lists

-- the first list with the sections of both
abbrev pub joined : Krl → Krl → Krl
joined k l = record { number = k.number; date = k.date; flags = k.flags; reserved = k.reserved; comment = k.comment; sections = k.sections ++ l.sections }
