-- The values of options of authorized_keys (sshd(8), "AUTHORIZED_KEYS FILE FORMAT"), and those that
-- sshd may read, as what depends on its version or its machine.
use Rattle.std.specs.Prelude.{◌≡◌, ◌≢◌, ◌⊎◌, ℕ, ◌+◌, ◌^◌, ◌<◌, List, ◌∷◌, ◌++◌, nat_le, Bool, ◌&&◌, ◌||◌, ◌==◌, IsTrue, Option, Some, None, codes, length, map, string_bytes}
use Rattle.std.specs.Char.{is_ascii_alphanumeric, to_ascii_lowercase}
use Rattle.std.specs.List.{list_all, list_any}
use Rattle.std.specs.Net.Grammar.{IsNumber}
use Rattle.sshkey_model.specs.Lines.{IsWithout}
use Rattle.sshkey_matching.specs.Times.{HasTimeForm, IsTimeText}
use Rattle.sshkey_matching.specs.declared.times.Span.{Span}
use Rattle.login_terms.specs.declared.permits.Permit.{Permit}
use denote.Ref.{Bor}

-- ---- numbers

-- No digits write the text, but of a number from 2^32 on.
abbrev pub IsNoNumber : List ℕ → Type 0
IsNoNumber text = (n : ℕ) → IsNumber 10 text n → n < 2 ^ 32 → ⊥

-- ---- times

-- what isspace(3) holds of
abbrev pub is_space : ℕ → Bool
is_space c = c == 0x20 || (nat_le 0x09 c && nat_le c 0x0d)

-- strptime(3) passes over white space in front of a number. Of times up to the start of 1970 in
-- some zone OpenSSH 10.6 takes those before it for ones that are never over, and 9.2 refuses them.
abbrev pub MayBeTime : List ℕ → Type 0
MayBeTime text = ((s : Span) → IsTimeText text s → ⊥) × (HasTimeForm text ⊎ IsTrue (list_any is_space text))

-- ---- variables

abbrev pub equals_sign : ℕ
equals_sign = 0x3d

abbrev pub is_variable_character : ℕ → Bool
is_variable_character c = is_ascii_alphanumeric c || (c == 0x5f)

abbrev pub IsVariableName : List ℕ → Type 0
IsVariableName name = (0 < length name) × IsTrue (list_all is_variable_character name)

-- The text is a name of letters, digits and `_`, one at least, `=` and a value.
pub record IsVariable (text name : List ℕ) : Type 0 where
  pub value : List ℕ
  pub is : text ≡ name ++ (equals_sign ∷ value)
  pub up_to : IsWithout equals_sign name
  pub name_is : IsVariableName name

-- ---- hosts and ports

pub record HostAndPort : Type 0 where
  pub host : List ℕ
  pub port : Option ℕ

abbrev pub permit_of : Permit → HostAndPort
permit_of p = record { host = string_bytes p.host; port = p.port }

abbrev pub colon : ℕ
colon = 0x3a

abbrev pub slash : ℕ
slash = 0x2f

abbrev pub opening_bracket : ℕ
opening_bracket = 0x5b

abbrev pub closing_bracket : ℕ
closing_bracket = 0x5d

-- `*` is any port, and digits write one from 1 on.
abbrev pub IsPort : List ℕ → Option ℕ → Type 0
IsPort text None = text ≡ codes "*"
IsPort text (Some n) = (text ≢ codes "*") × IsNumber 10 text n × (0 < n) × (n < 65536)

-- Any other text may be the name of a service, or a number after spaces or a sign.
abbrev pub MayBePort : List ℕ → Type 0
MayBePort text = (text ≢ codes "*") × IsNoNumber text

abbrev pub IsHostAndPort : List ℕ → List ℕ → HostAndPort → Type 0
IsHostAndPort host port p = (p.host ≡ host) × IsPort port p.port

-- The host ends at the first colon.
pub record IsPlainHost (text host port : List ℕ) : Type 0 where
  pub is : text ≡ host ++ (colon ∷ port)
  pub one_host : IsWithout colon host

-- It ends at the first `]`, and a colon follows.
pub record IsInBrackets (inside host port : List ℕ) : Type 0 where
  pub is : inside ≡ host ++ (closing_bracket ∷ colon ∷ port)
  pub one_host : IsWithout closing_bracket host

-- A text is a host in brackets or without, of less than 1,025 bytes with them, and a port.
abbrev pub SplitsHost : List ℕ → List ℕ × List ℕ → Type 0
SplitsHost text p = ((inside : List ℕ) × (text ≡ opening_bracket ∷ inside) × IsInBrackets inside p.0 p.1 × (length p.0 + 2 < 1025))
    ⊎ (((inside : List ℕ) → text ≢ opening_bracket ∷ inside) × IsPlainHost text p.0 p.1 × (length p.0 < 1025))

-- A slash may stand in place of the colon.
abbrev pub IsPermitOpen : List ℕ → HostAndPort → Type 0
IsPermitOpen text p = IsWithout slash text × ((x : List ℕ × List ℕ) × SplitsHost text x × IsHostAndPort x.0 x.1 p)

abbrev pub MayBePermit : List ℕ → Type 0
MayBePermit text = (IsWithout slash text → ⊥) ⊎ ((x : List ℕ × List ℕ) × SplitsHost text x × MayBePort x.1)

-- The same; or a port alone, at any address.
abbrev pub IsPermitListen : List ℕ → HostAndPort → Type 0
IsPermitListen text p = ((IsWithout colon text → ⊥) × IsPermitOpen text p) ⊎ (IsWithout colon text × IsHostAndPort (codes "*") text p)

abbrev pub MayBeListen : List ℕ → Type 0
MayBeListen text = ((IsWithout colon text → ⊥) × MayBePermit text) ⊎ (IsWithout colon text × MayBePort text)

abbrev pub parts_of : Bor (List ℕ) × Bor (List ℕ) → List ℕ × List ℕ
parts_of x = (x.0.now, x.1.now)

-- ---- devices

abbrev pub any_tunnel : ℕ
any_tunnel = 0x7fffffff

abbrev pub IsAny : List ℕ → Type 0
IsAny text = map to_ascii_lowercase text ≡ codes "any"

-- Any device, letters in either case; or the number of one.
abbrev pub IsTunnel : List ℕ → ℕ → Type 0
IsTunnel text n = (IsAny text × (n ≡ any_tunnel)) ⊎ ((IsAny text → ⊥) × IsNumber 10 text n × (n < 0x7ffffffe))

-- A number may stand after spaces or a sign.
abbrev pub MayBeTunnel : List ℕ → Type 0
MayBeTunnel text = (IsAny text → ⊥) × IsNoNumber text
