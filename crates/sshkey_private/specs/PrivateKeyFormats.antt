-- What stands before the private part of a key (PROTOCOL.key): the terms that it is read as, and what
-- the opening means that was read.
use Rattle.std.specs.Prelude.{ℕ, List, Result, Ok, Err, ◌==◌, if◌then◌else◌, length, Option, Some, None, ◌≡◌, ◌++◌, true, ◌+◌, ◌%◌, ◌<◌}
use Rattle.sshkey_model.specs.Reading.{Fault, Length, Front, Crypto, PublicKey, TrailingKeyData, ◌>>=◌, checked_at}
use Rattle.sshkey_model.specs.Keys.{Key, key_format, key}
use Rattle.sshkey_model.specs.KeyDerivation.{Cipher, Kdf, NoCipher, NoKdf, Bcrypt, block_size, cipher, kdf}
use Rattle.sshkey_model.specs.PrivateKeys.{private_key_magic, UnencryptedKey, PrivateKey, Unencrypted, Encrypted, may_precede, key_cipher, key_kdf, public_key, rising, private_part, content, PrivateKeyChoices, HasPrivateKeyPlaces}
use Rattle.sshkey_model.specs.Formats.{Format}
use Rattle.sshkey_model.specs.Leaves.{number32_format}
use Rattle.sshkey_model.specs.Terms.{◌then◌, boxed, literal_format, tested, read_as, called}
use Rattle.sshkey_keys.specs.Keys.{key_of}
use Rattle.sshkey_ciphers.specs.Ciphers.{cipher_of, kdf_of}
use Rattle.sshkey_ciphers.specs.Formats.{cipher_format, kdf_format, sealed_format}
use Rattle.sshkey_private.specs.declared.opening.Opening as code
use Rattle.sshkey_private.specs.declared.opening.Magic.{Magic}
use Rattle.sshkey_private.specs.declared.opening.One.{One}
use Rattle.sshkey_model.specs.Needs.{NoNeed, NeedsString}
use Rattle.sshkey_model.specs.Overruns.{NoOverrun, OverrunsString}
use Rattle.sshkey_private.specs.PrivateParts.{part_format}
use Rattle.std.specs.Int.{w32}
use Rattle.sshkey_model.specs.Parts.{Parts, bytes, number, box, ◌&◌, flat}
use Rattle.sshkey_model.specs.KeyPairs.{KeyPairChoices}

pub record Opening : Type 0 where
  pub cipher : Cipher
  pub kdf : Kdf
  pub public : Key

abbrev pub opening_of : code.Opening → Opening
opening_of o = record { cipher = cipher_of o.cipher; kdf = kdf_of o.kdf; public = key_of o.public }

abbrev pub magic_of : Magic → List ℕ
magic_of m = m.0

abbrev pub one_of : One → ℕ
one_of n = n.0

-- ---- as a format

abbrev pub magic_format : Format (List ℕ)
magic_format = literal_format private_key_magic

-- the number of keys, which is 1
abbrev pub one_key : ℕ → Result ℕ Fault
one_key n = if n == 1 then Ok n else Err Length

abbrev pub one_format : Format ℕ
one_format = tested one_key number32_format

-- the magic bytes, the cipher and the key derivation
abbrev pub sealing_format : Format (List ℕ × (Cipher × Kdf))
sealing_format = magic_format then cipher_format then kdf_format

abbrev pub OpeningParts : Type 0
OpeningParts = (List ℕ × (Cipher × Kdf)) × (ℕ × Key)

-- and after them the number of keys and the public key
abbrev pub opening_parts : Format OpeningParts
opening_parts = sealing_format then one_format then boxed key_format

abbrev pub opening_with : OpeningParts → Opening
opening_with a = record { cipher = a.0.1.0; kdf = a.0.1.1; public = a.1.1 }

abbrev pub opening_of_parts : OpeningParts → Result Opening Fault
opening_of_parts a = Ok (opening_with a)

unfoldable pub opening_at : Front Opening
opening_at = (tested opening_of_parts opening_parts).read

abbrev pub opening_format : Format Opening
opening_format = read_as (tested opening_of_parts opening_parts) opening_at

-- A private key file (PROTOCOL.key): the terms that it is read as, with a limit on the padding, and
-- where it needs memory or has lengths.

-- ---- not encrypted

-- the key of that part; a part that is encrypted is none
abbrev pub key_of_part : Option UnencryptedKey → Result PrivateKey Fault
key_of_part (Some k) = Ok (Unencrypted k)
key_of_part None = Err PublicKey

unfoldable pub unencrypted_below : ℕ → Key → Front PrivateKey
unencrypted_below limit public = (tested key_of_part (part_format limit public)).read

abbrev pub unencrypted_format : ℕ → Key → Format PrivateKey
unencrypted_format limit public = read_as (tested key_of_part (part_format limit public)) (unencrypted_below limit public)

-- ---- encrypted

abbrev pub sealed_with : Cipher → Kdf → Key → List ℕ → List ℕ → PrivateKey
sealed_with c k public ciphertext tag = Encrypted (record { cipher = c; kdf = k; public = public; ciphertext = ciphertext; tag = tag })

abbrev pub encrypted_format : Cipher → Kdf → Key → Format PrivateKey
encrypted_format c k public = tested (λ a. Ok (sealed_with c k public a.0 a.1)) (sealed_format c)

-- ---- the private part

-- nothing is read, and this fault is met
abbrev pub refused_format : {A : Type 0} → Fault → Format A
refused_format fault = record {
  Spells = λ x b. ⊥;
  read = λ b. Err fault;
  delimited_at = λ b. Err fault;
  needs = NoNeed;
  overruns = NoOverrun;
}

-- A key derivation without a cipher is refused.
abbrev pub content_term : ℕ → Cipher → Kdf → Key → Format PrivateKey
content_term limit NoCipher NoKdf public = unencrypted_format limit public
content_term limit NoCipher (Bcrypt o) public = refused_format Crypto
content_term limit c k public = encrypted_format c k public

-- what the part of a key that is not encrypted needs, or a ciphertext of one byte or more
abbrev pub NeedsContent : Cipher → Kdf → Key → List ℕ → ℕ → Type 0
NeedsContent NoCipher NoKdf public = (part_format 8 public).needs
NeedsContent NoCipher (Bcrypt o) public = NoNeed
NeedsContent c k public = NeedsString

-- a length of the part of a key that is not encrypted passes, or that of a ciphertext
abbrev pub OverrunsContent : Cipher → Kdf → Key → List ℕ → ℕ → Type 0
OverrunsContent NoCipher NoKdf public = (part_format 8 public).overruns
OverrunsContent NoCipher (Bcrypt o) public = NoOverrun
OverrunsContent c k public = OverrunsString

-- What it needs, and where its lengths pass, does not depend on the limit.
abbrev pub content_format : ℕ → Opening → Format PrivateKey
content_format limit h = record {
  Spells = (content_term limit h.cipher h.kdf h.public).Spells;
  read = (content_term limit h.cipher h.kdf h.public).read;
  delimited_at = (content_term limit h.cipher h.kdf h.public).delimited_at;
  needs = NeedsContent h.cipher h.kdf h.public;
  overruns = OverrunsContent h.cipher h.kdf h.public;
}

-- ---- the whole file

-- the opening, and the private part that it calls for
abbrev pub file_format : ℕ → Format PrivateKey
file_format limit = called opening_format (content_format limit)

-- what stands before the private part, or that part
abbrev pub NeedsPrivateKey : List ℕ → ℕ → Type 0
NeedsPrivateKey = (file_format 8).needs

-- a length of the opening, or after it one of the private part
abbrev pub OverrunsPrivateKey : List ℕ → ℕ → Type 0
OverrunsPrivateKey = (file_format 8).overruns

-- ---- in the steps of the calls that read it

-- nothing may follow an encrypted key
abbrev pub last_of : PrivateKey × List ℕ → Result (PrivateKey × List ℕ) Fault
last_of x = if may_precede x.0 x.1 then Ok x else Err (TrailingKeyData (length x.1))

unfoldable pub last_encrypted_at : Cipher → Kdf → Key → Front PrivateKey
last_encrypted_at c k public b = do
  sealed ← (sealed_format c).read b
  last_of (sealed_with c k public sealed.0.0 sealed.0.1, sealed.1)

abbrev pub last_content_at : ℕ → Cipher → Kdf → Key → Front PrivateKey
last_content_at limit NoCipher NoKdf public b = unencrypted_below limit public b
last_content_at limit NoCipher (Bcrypt o) public b = Err Crypto
last_content_at limit c k public b = last_encrypted_at c k public b

unfoldable pub steps_at : ℕ → Front PrivateKey
steps_at limit b = do
  h ← opening_at b
  last_content_at limit h.0.cipher h.0.kdf h.0.public h.1

-- The formats of private keys, which nothing may follow if they are encrypted: with the padding
-- that is written, and with more.

-- the key, where it is not encrypted
abbrev pub not_encrypted : PrivateKey → Result PrivateKey Fault
not_encrypted (Unencrypted k) = Ok (Unencrypted k)
not_encrypted (Encrypted k) = Err (TrailingKeyData 0)

-- of the keys that a reader takes, those that end by themselves: they are not encrypted
abbrev pub delimited_by : Front PrivateKey → Front PrivateKey
delimited_by = checked_at not_encrypted

-- What is read from the front is a key that may stand before the rest, and each such key is read.
pub record IsDecoder (Spells : PrivateKey → List ℕ → Type 0) (read : Front PrivateKey) : Type 0 where
  pub takes : (b : List ℕ) (k : PrivateKey) (rest : List ℕ) → read b ≡ Ok (k, rest) → (front : List ℕ) × Spells k front × (b ≡ front ++ rest) × (may_precede k rest ≡ true)
  pub again : (k : PrivateKey) (front rest : List ℕ) → Spells k front → may_precede k rest ≡ true → read (front ++ rest) ≡ Ok (k, rest)

abbrev pub SpellsFile : ℕ → PrivateKey → List ℕ → Type 0
SpellsFile limit = (file_format limit).Spells

abbrev pub private_key_below : ℕ → Format PrivateKey
private_key_below limit = record {
  Spells = SpellsFile limit;
  read = steps_at limit;
  delimited_at = delimited_by (steps_at limit);
  needs = (file_format limit).needs;
  overruns = (file_format limit).overruns;
}

-- ---- with fewer than eight bytes of padding, as it is written

abbrev pub private_key_format : Format PrivateKey
private_key_format = private_key_below 8

-- the bytes spell the private key
abbrev pub SpellsPrivateKey : PrivateKey → List ℕ → Type 0
SpellsPrivateKey = private_key_format.Spells

abbrev pub private_value_at : Front PrivateKey
private_value_at = private_key_format.read

-- ---- with up to 255: other programs pad to 16 bytes, or by a whole block more

abbrev pub padded_key_format : Format PrivateKey
padded_key_format = private_key_below 256

-- the bytes spell the private key, with any such padding
abbrev pub SpellsPaddedKey : PrivateKey → List ℕ → Type 0
SpellsPaddedKey = padded_key_format.Spells

abbrev pub padded_value_at : Front PrivateKey
padded_value_at = padded_key_format.read

-- How private keys are spelled that may end in more padding than is written (PROTOCOL.key).

-- the choices of a private key, and how many bytes of padding follow its comment
pub record PaddedChoices : Type 0 where
  pub key : PrivateKeyChoices
  pub padding : ℕ

-- the checkint twice, the pair, the comment and `n` bytes 01, 02, 03 and so on, in a string; or the
-- ciphertext and its tag
abbrev pub padded_content : PrivateKey → KeyPairChoices → ℕ → Parts
padded_content (Unencrypted k) s n = box (private_part k s & bytes (rising 1 n))
padded_content (Encrypted k) s n = content (Encrypted k) s

-- magic, cipher, key derivation, one key, the public key, and that
abbrev pub padded_private_key : PrivateKey → PaddedChoices → Parts
padded_private_key k s = bytes private_key_magic & cipher (key_cipher k) & kdf (key_kdf k) & number w32 1 & box (key (public_key k) s.key.outer) & padded_content k s.key.pair s.padding

-- whole blocks, with fewer bytes of padding than the limit; none are counted of a ciphertext
abbrev pub HasPadding : ℕ → PrivateKey → KeyPairChoices → ℕ → Type 0
HasPadding limit (Unencrypted k) s n = ((length (flat (private_part k s)) + n) % block_size NoCipher ≡ 0) × (n < limit)
HasPadding limit (Encrypted k) s n = n ≡ 0

abbrev pub HasPlacesBelow : ℕ → PrivateKey → PaddedChoices → Type 0
HasPlacesBelow limit k s = HasPrivateKeyPlaces k s.key × HasPadding limit k s.key.pair s.padding

-- with at most 255 bytes of padding
abbrev pub HasPaddedPlaces : PrivateKey → PaddedChoices → Type 0
HasPaddedPlaces = HasPlacesBelow 256
