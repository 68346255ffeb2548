-- What the options of a line say together (sshd(8), "AUTHORIZED_KEYS FILE FORMAT").
use Rattle.std.specs.Prelude.{ℕ, List, ◌≡◌, ◌≢◌, ◌⊎◌, Bool, ◌==◌, IsSome, codes, drop, slice_index}
use Rattle.sshkey_entries.specs.OptionItems.{MaySay, Says}
use Rattle.login_terms.specs.Options.{Adds, MayBe, Terms, no_terms}
use Rattle.std.specs.List.{before_first}
use Rattle.std.specs.Str.{IsUtf8}
use Rattle.sshkey_entries.specs.AuthorizedKeys.{AuthorizedKey}
use Rattle.sshkey_entries.specs.Entries.{IsNoEntry, hash_sign}
use Rattle.sshkey_entries.specs.Fields.{without_blanks, EndsOptions, is_blank}
use Rattle.sshkey_entries.specs.OpenSshLines.{IsAuthorizedLine}
use Rattle.sshkey_entries.specs.OtherKeys.{IsShortName}
use Rattle.sshkey_model.specs.Keys.{Key}
use Rattle.sshkey_model.specs.Lines.{key_name}
use Rattle.sshkey_model.specs.Names.{algorithm_name, algorithms, named}
use Rattle.user_keys.specs.Spellings.{MaySpell, own_part}

-- The text is options that say this.
abbrev pub AreTerms : List ℕ → Terms → Type 0
AreTerms = Says Adds no_terms

-- sshd may read the options of the text, as what cannot be told.
abbrev pub MayBeTerms : List ℕ → Type 0
MayBeTerms = MaySay Adds MayBe no_terms

-- Which key a line of authorized_keys is for, and on which terms (sshd(8), "AUTHORIZED_KEYS FILE
-- FORMAT").

abbrev pub is_zero : ℕ → Bool
is_zero c = c == 0

-- the line up to its first zero byte, where sshd takes it to end
abbrev pub before_zero : List ℕ → List ℕ
before_zero line = before_first is_zero line

-- ---- entries

-- The text is that entry. One that is no UTF-8 is none.
pub record IsTextEntry (text : List ℕ) (entry : AuthorizedKey) : Type 0 where
  pub utf8 : IsUtf8 text
  pub read : IsAuthorizedLine text entry

-- The entry is of the key, as that of an authority or of none, on those terms.
pub record IsEntryFor (authority : Bool) (key : Key) (entry : AuthorizedKey) (t : Terms) : Type 0 where
  pub own_key : entry.key ≡ key
  pub said : AreTerms entry.options t
  pub of_authority : t.is_authority ≡ authority

-- sshd may take it for one of the key: it is, with options that sshd may read; or it is of another
-- with the same part, since sshd takes an application to end at a zero byte.
abbrev pub MayBeEntryFor : Key → AuthorizedKey → Type 0
MayBeEntryFor key entry = ((entry.key ≡ key) × MayBeTerms entry.options) ⊎ ((entry.key ≢ key) × (own_part entry.key ≡ own_part key))

-- ---- names of keys

-- A name by which OpenSSH reads a key since 8.3 or 10.4, and no key is read here.
abbrev pub IsLaterName : List ℕ → Type 0
IsLaterName word = (word ≡ codes "webauthn-sk-ecdsa-sha2-nistp256@openssh.com") ⊎ (word ≡ codes "ssh-mldsa44-ed25519")

-- Some version of OpenSSH takes the key, or one of another kind, to begin with the word (sshkey.c).
-- What begins with a certificate's name lets no key in, nor is it an authority.
abbrev pub IsNameFor : Key → List ℕ → Type 0
IsNameFor key word = (word ≡ key_name key) ⊎ IsSome (named algorithm_name algorithms word) ⊎ IsLaterName word ⊎ IsShortName word

abbrev pub BeginsWithName : Key → List ℕ → Type 0
BeginsWithName key text = IsNameFor key (before_first is_blank text)

-- Such a name stands where sshd looks for a key: at the front of the text, or behind its options.
abbrev pub HasName : Key → List ℕ → Type 0
HasName key text = BeginsWithName key text ⊎ ((place : ℕ) × EndsOptions text place × BeginsWithName key (without_blanks (drop place text)))

-- ---- lines

abbrev pub IsFor : Bool → Key → List ℕ → Terms → Type 0
IsFor authority key line t = (entry : AuthorizedKey) × IsTextEntry (before_zero line) entry × IsEntryFor authority key entry t

-- It is no entry, as one that is no UTF-8, nor a comment, and the key may be spelled in it, behind a
-- name if it is UTF-8.
pub record IsOddlySpelled (key : Key) (line : List ℕ) : Type 0 where
  pub no_comment : slice_index (without_blanks (before_zero line)) 0 ≢ hash_sign
  pub no_entry : IsNoEntry IsTextEntry (before_zero line)
  pub spelled : MaySpell (own_part key) (before_zero line)
  pub has_name : IsUtf8 (before_zero line) → HasName key (without_blanks (before_zero line))

-- sshd may take the line for one of the key.
abbrev pub MayBeFor : Key → List ℕ → Type 0
MayBeFor key line = ((entry : AuthorizedKey) × IsTextEntry (before_zero line) entry × MayBeEntryFor key entry) ⊎ IsOddlySpelled key line

-- Which lines of authorized_keys are none of a key's (sshd(8), "AUTHORIZED_KEYS FILE FORMAT").

-- The line is for the key on no terms, as that of an authority or of none, and sshd cannot take it
-- for one that is.
pub record IsPassedOver (key : Key) (line : List ℕ) : Type 0 where
  pub no_line : (authority : Bool) (t : Terms) → IsFor authority key line t → ⊥
  pub not_taken : MayBeFor key line → ⊥
