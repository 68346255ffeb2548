-- The fields of a key of a kind that is not read here: a later kind of OpenSSH's, as
-- `ssh-mldsa44-ed25519`, or a former one. The bytes of a key begin with the name of its kind too
-- (RFC 4253, section 6.6).
use Rattle.std.specs.Prelude.{◌≡◌, ◌⊎◌, ◌<◌, ◌≤◌, ℕ, List, ◌++◌, length, map, codes, EachIndex, slice_index, Option, None, Some, Bool, true, not, ◌&&◌, ◌==◌, nat_lt}
use Rattle.std.specs.Char.{to_ascii_lowercase}
use Rattle.std.specs.Str.{IsUtf8}
use Rattle.base64.specs.Engines.{standard}
use Rattle.base64.specs.GeneralPurpose.{encode_of, IsBytes}
use Rattle.sshkey_model.specs.Names.{algorithm_name, algorithms, named}
use Rattle.sshkey_model.specs.Parts.{flat}
use Rattle.sshkey_model.specs.Texts.{string}
use Rattle.sshkey_entries.specs.Fields.{AreNoKeyFields, AreFields}
use Rattle.sshkey_entries.specs.KnownHosts.{at_sign, comma}
use denote.Ref.{Bor}

-- printable ASCII without space, comma and at sign (RFC 4251, section 6)
abbrev pub is_name_character : ℕ → Bool
is_name_character c = nat_lt 0x20 c && nat_lt c 0x7f && not (c == comma) && not (c == at_sign)

abbrev pub HasNameCharacters : List ℕ → Type 0
HasNameCharacters name = EachIndex name (λ i. is_name_character (slice_index name i) ≡ true)

-- the short name of a kind, in letters of either case: OpenSSH before 9.9 also read keys whose bytes
-- begin with one
abbrev pub IsShortName : List ℕ → Type 0
IsShortName name =
    let small = map to_ascii_lowercase name in
    (small ≡ codes "rsa") ⊎ (small ≡ codes "dsa") ⊎ (small ≡ codes "ecdsa") ⊎ (small ≡ codes "ed25519") ⊎ (small ≡ codes "ecdsa-sk") ⊎ (small ≡ codes "ed25519-sk") ⊎ (small ≡ codes "xmss")

-- A name without an at sign, with which no key begins that is read here or that OpenSSH takes for
-- such a key.
pub record IsOtherName (name : List ℕ) : Type 0 where
  pub some : 0 < length name
  pub short : length name ≤ 64
  pub characters : HasNameCharacters name
  pub not_fixed : named algorithm_name algorithms name ≡ None
  pub not_short : ¬ IsShortName name

-- The word is Base64 of bytes that begin with the name, as a string.
pub record SpellsName (name word : List ℕ) : Type 0 where
  pub blob : List ℕ
  pub rest : List ℕ
  pub bytes : IsBytes blob
  pub begins : blob ≡ flat (string name) ++ rest
  pub is : word ≡ encode_of standard blob

-- The text is such a name, Base64 of bytes that begin with it, and what follows.
pub record AreFieldsUnder (IsName : List ℕ → Type 0) (text : List ℕ) : Type 0 where
  pub name : List ℕ
  pub word : List ℕ
  pub rest : List ℕ
  pub fields : AreFields text name word rest
  pub named : IsName name
  pub spelled : SpellsName name word

abbrev pub AreOtherKeyFields : List ℕ → Type 0
AreOtherKeyFields = AreFieldsUnder IsOtherName

-- ---- former kinds

-- XMSS and its certificates, which OpenSSH had up to 10.0 (sshkey.c). Built without them, it passed
-- over such a name. It read no key of another kind under one.
abbrev pub IsFormerName : List ℕ → Type 0
IsFormerName name = (name ≡ codes "ssh-xmss@openssh.com") ⊎ (name ≡ codes "ssh-xmss-cert-v01@openssh.com")

abbrev pub AreFormerKeyFields : List ℕ → Type 0
AreFormerKeyFields = AreFieldsUnder IsFormerName

-- The fields of a key that is not read here. Under a former name some keys are read, as keys of a
-- kind of private use.
abbrev pub AreForeignKeyFields : List ℕ → Type 0
AreForeignKeyFields text = AreOtherKeyFields text ⊎ (AreFormerKeyFields text × AreNoKeyFields text)

-- ---- how they are read

-- The name and the word in the text; or one of them is no UTF-8.
abbrev pub TellsFields : List ℕ → Option (Bor (List ℕ) × Bor (List ℕ)) → Type 0
TellsFields text (Some x) = (rest : List ℕ) × AreFields text x.0.now x.1.now rest
TellsFields text None = (name word rest : List ℕ) → AreFields text name word rest → IsUtf8 name → IsUtf8 word → ⊥
