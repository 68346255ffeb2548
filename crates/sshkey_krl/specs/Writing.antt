-- The name of RSA before the body of a key (RFC 4253, section 6.6).
use Rattle.std.specs.Prelude.{ℕ, List, ◌∷◌, codes, ◌≡◌, ◌⊎◌, ◌==◌, Bool, true, [], ◌++◌, Result, Ok, Err, Option, None, Some}
use Rattle.std.specs.List.{list_any}
use Rattle.std.specs.Int.{w8, w32, w64}
use Rattle.sshkey_base.specs.declared.encoding.Error.TheVariants as encoding
use Rattle.sshkey_base.specs.declared.error.Error.{Error}
use Rattle.sshkey_base.specs.declared.error.Error.TheVariants as wide
use Rattle.sshkey_model.specs.Keys.{IsKey, normal_key}
use Rattle.sshkey_model.specs.Parts.{Parts, BoxesFit, Fits, number, box, each, flat, ◌&◌}
use Rattle.sshkey_model.specs.Texts.{string}
use Rattle.sshkey_krl.specs.Revocation.{Authority, Everybody, Signer, Certificates, Part, Section, begun, with_section}
use Rattle.sshkey_krl.specs.Krls.{is_read_signer, krl_in}
use denote.Ref.{Bor}
use Rattle.sshkey_base.specs.declared.error.Error.TheVariants.{FormatEncoding}
use Rattle.sshkey_keys.specs.Keys.{key_of}
use Rattle.sshkey_keys.specs.declared.key_data.KeyData.{KeyData}
use Rattle.sshkey_krl.specs.Revocation as model
use Rattle.sshkey_krl.specs.declared.krl.Krl.{Krl}

-- the string `ssh-rsa`
abbrev pub ssh_rsa : List ℕ
ssh_rsa = 0 ∷ 0 ∷ 0 ∷ 7 ∷ codes "ssh-rsa"

-- How what is revoked is written: each time one section more, of one part (PROTOCOL.krl).

-- A number or a byte of them is 0, which no list may have there.
abbrev pub has_zero : List ℕ → Bool
has_zero xs = list_any (λ x. x == 0) xs

-- The key is well-formed, where one is given.
abbrev pub IsWellFormedAuthority : Authority → Type 0
IsWellFormedAuthority Everybody = Unit {0}
IsWellFormedAuthority (Signer key) = IsKey key

-- OpenSSH reads the key, where one is given. No list may name another.
abbrev pub is_read_authority : Authority → Bool
is_read_authority Everybody = true
is_read_authority (Signer key) = is_read_signer key

-- what stands before the sections, where nothing is flagged or reserved; the magic is a number here
abbrev pub header : ℕ → ℕ → List ℕ → Parts
header version date comment = (number w64 0x5353484b524c0a00 & number w32 1) & (number w64 version & number w64 date) & number w64 0 & string [] & string comment

-- what a number calls for, in a string
abbrev pub framed : ℕ → Parts → Parts
framed n body = number w8 n & box body

-- a section of the one key, whose parts are given
abbrev pub key_section : Parts → Parts
key_section key = framed 2 (box key)

-- sections of the one digest
abbrev pub sha1_section : List ℕ → Parts
sha1_section digest = framed 3 (string digest)

abbrev pub sha256_section : List ℕ → Parts
sha256_section digest = framed 5 (string digest)

abbrev pub authority_string : Authority → Parts
authority_string Everybody = string []
authority_string (Signer key) = box (normal_key key)

-- a section of the one part about certificates of the authority
abbrev pub certificates_section : Authority → Parts → Parts
certificates_section authority part = framed 1 (authority_string authority & string [] & part)

abbrev pub serials_part : List ℕ → Parts
serials_part serials = framed 0x20 (each (number w64) serials)

abbrev pub range_part : ℕ → ℕ → Parts
range_part first last = framed 0x21 (number w64 first & number w64 last)

abbrev pub key_id_part : List ℕ → Parts
key_id_part key_id = framed 0x23 (string key_id)

-- A string in the parts is too long, or memory ran out.
abbrev pub RefusesToWrite : Parts → Error → Type 0
RefusesToWrite p e = ((BoxesFit p → ⊥) × (e ≡ wide.Encoding encoding.Length)) ⊎ (BoxesFit p × (e ≡ wide.Memory))

-- The bytes of the parts are added; or none are, where they are too long or memory ran out.
abbrev pub Appends : Parts → List ℕ → Result (Unit {0}) Error → List ℕ → Type 0
Appends p before (Ok _) after = Fits p × (after ≡ before ++ flat p)
Appends p before (Err e) after = RefusesToWrite p e × (after ≡ before)

-- What contracts see of a list that owns its bytes, and what its calls answer.

-- the bytes that spell it
abbrev pub krl_bytes : Krl → List ℕ
krl_bytes k = k.bytes.items

-- the list that they spell
abbrev pub krl_of : Krl → model.Krl
krl_of k = krl_in k.bytes.items

-- the key whose certificates are meant; everybody's where there is none
abbrev pub authority_of : Option (Bor KeyData) → Authority
authority_of None = Everybody
authority_of (Some key) = Signer (key_of key.now)

-- A list without sections, unless the comment is too long or memory ran out.
abbrev pub BeginsList : ℕ → ℕ → List ℕ → Result Krl Error → Type 0
BeginsList version date comment (Ok k) = (krl_of k ≡ begun version date comment) × (krl_bytes k ≡ flat (header version date comment))
BeginsList version date comment (Err e) = RefusesToWrite (header version date comment) e

-- The bytes spell the list before with one section more, which follows the others as these parts.
-- Or they are as they were, if a string in the parts is too long or memory ran out.
abbrev pub Adds : Section → Parts → List ℕ → Result (Unit {0}) Error → List ℕ → Type 0
Adds section parts before (Ok _) after = (krl_in after ≡ with_section (krl_in before) section) × (after ≡ before ++ flat parts)
Adds section parts before (Err e) after = RefusesToWrite parts e × (after ≡ before)

-- The same of a section of the one part.
abbrev pub AddsPart : Option (Bor KeyData) → Part → Parts → List ℕ → Result (Unit {0}) Error → List ℕ → Type 0
AddsPart authority part parts = Adds (Certificates (authority_of authority) (part ∷ [])) (certificates_section (authority_of authority) parts)

-- They are as they were, since no list may have what was to be added.
abbrev pub Rejects : List ℕ → Result (Unit {0}) Error → List ℕ → Type 0
Rejects before r after = (r ≡ Err FormatEncoding) × (after ≡ before)
