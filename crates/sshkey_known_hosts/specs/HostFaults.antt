-- Why a text is that of no hosts, and a line no entry of known_hosts.
use Rattle.std.specs.Prelude.{◌≡◌, ◌≢◌, ◌⊎◌, ℕ, List, [], ◌∷◌, ◌++◌, length, Option}
use Rattle.base64.specs.Engines.{standard}
use Rattle.base64.specs.GeneralPurpose.{encode_of, IsBytes}
use Rattle.sshkey_base.specs.declared.encoding.Error.TheVariants.{Base64, Length}
use Rattle.sshkey_base.specs.declared.error.Error.{Error}
use Rattle.sshkey_base.specs.declared.error.Error.TheVariants.{Encoding, FormatEncoding, Memory}
use Rattle.sshkey_model.specs.Keys.{key_format, SpellsKey}
use Rattle.sshkey_model.specs.Lines.{space, key_name, IsWithout}
use Rattle.sshkey_public.specs.Lines.{HasFaultOfLine}
use Rattle.sshkey_entries.specs.Entries.{IsNoEntry}
use Rattle.sshkey_entries.specs.KnownHosts.{Hosts, Marker, IsHosts, IsMarked, bar, hashed_mark, hashed_text}

-- The word is that of no bytes.
abbrev pub IsNoBase64 : List ℕ → Type 0
IsNoBase64 word = (b : List ℕ) → IsBytes b → word ≡ encode_of standard b → ⊥

-- the mark, and no bar after it
abbrev pub HasNoBar : List ℕ → Type 0
HasNoBar text = (rest : List ℕ) × (text ≡ hashed_mark ++ rest) × IsWithout bar rest

-- Neither patterns stand in it, nor two words after the mark.
abbrev pub HasNoParts : List ℕ → Type 0
HasNoParts text = (text ≡ []) ⊎ HasNoBar text

-- the mark and two words, one of them no Base64
pub record HasNoBase64 (text : List ℕ) : Type 0 where
  pub salt : List ℕ
  pub hash : List ℕ
  pub is : text ≡ hashed_mark ++ (salt ++ (bar ∷ hash))
  pub one_word : IsWithout bar salt
  pub none : IsNoBase64 salt ⊎ IsNoBase64 hash

-- a hashed name, but of another size
pub record HasOtherSize (text : List ℕ) : Type 0 where
  pub salt : List ℕ
  pub hash : List ℕ
  pub is : text ≡ hashed_text salt hash
  pub salt_bytes : IsBytes salt
  pub hash_bytes : IsBytes hash
  pub size : length hash ≢ 20

-- For each error, where a text is refused with it: only parts of hosts need memory.
abbrev pub RefusesHosts : List ℕ → Error → Type 0
RefusesHosts text FormatEncoding = HasNoParts text
RefusesHosts text (Encoding Base64) = HasNoBase64 text
RefusesHosts text (Encoding Length) = HasOtherSize text
RefusesHosts text Memory = HasNoParts text → ⊥
RefusesHosts text _ = ⊥

-- `FormatEncoding` for another marker and for a space that is missing after the hosts, then the
-- fault of the hosts, and then that of the key's line.
pub record HasFault (line : List ℕ) (e : Error) : Type 0 where
  pub no_marker : ((m : Option Marker) (rest : List ℕ) → IsMarked m line rest → ⊥) → e ≡ FormatEncoding
  pub no_space : (m : Option Marker) (rest : List ℕ) → IsMarked m line rest → IsWithout space rest → e ≡ FormatEncoding
  pub no_hosts : (m : Option Marker) (hosts rest : List ℕ) → IsMarked m line (hosts ++ (space ∷ rest)) → IsWithout space hosts → IsNoEntry IsHosts hosts → RefusesHosts hosts e
  pub no_key : (m : Option Marker) (hosts rest : List ℕ) (h : Hosts) → IsMarked m line (hosts ++ (space ∷ rest)) → IsWithout space hosts → IsHosts hosts h → HasFaultOfLine key_format key_name SpellsKey rest e

-- ---- memory

-- Reading the line needs memory: after a marker or none, parts of hosts stand before a space.
pub record NeedsLine (line : List ℕ) : Type 0 where
  pub marker : Option Marker
  pub hosts : List ℕ
  pub rest : List ℕ
  pub is : IsMarked marker line (hosts ++ (space ∷ rest))
  pub one_word : IsWithout space hosts
  pub some : HasNoParts hosts → ⊥
