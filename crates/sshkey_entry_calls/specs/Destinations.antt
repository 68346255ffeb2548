-- A host and a port, as a user types them: `[host]:port`, `host:port` (known_hosts of sshd(8); RFC
-- 3986, section 3.2), or a host alone.
use Rattle.std.specs.Prelude.{◌≡◌, ◌≢◌, ◌⊎◌, ℕ, ◌^◌, ◌<◌, List, [], ◌∷◌, ◌++◌, Option, Some, None}
use Rattle.std.specs.Net.Grammar.{IsNumber}
use Rattle.sshkey_model.specs.Lines.{IsWithout}
use denote.Ref.{Bor}
use Rattle.sshkey_calls.specs.Rooms.{bytes_of, IsPartOf}
use Rattle.sshkey_entry_calls.specs.declared.destination.HostAndPort.{HostAndPort}

pub record Destination : Type 0 where
  pub host : List ℕ
  pub port : Option ℕ

abbrev pub destination_of : Bor (List ℕ) × Option ℕ → Destination
destination_of x = record { host = x.0.now; port = x.1 }

abbrev pub colon : ℕ
colon = 0x3a

abbrev pub opening_bracket : ℕ
opening_bracket = 0x5b

abbrev pub closing_bracket : ℕ
closing_bracket = 0x5d

-- No digits write the text, but of a number from 2^32 on.
abbrev pub IsNoNumber : List ℕ → Type 0
IsNoNumber text = (n : ℕ) → IsNumber 10 text n → n < 2 ^ 32 → ⊥

-- digits write it
abbrev pub IsPort : List ℕ → ℕ → Type 0
IsPort text n = IsNumber 10 text n × (0 < n) × (n < 65536)

-- A closing bracket is the end, or a colon follows it and a port.
abbrev pub IsAfter : List ℕ → Option ℕ → Type 0
IsAfter after None = after ≡ []
IsAfter after (Some n) = (port : List ℕ) × (after ≡ colon ∷ port) × IsPort port n

-- In brackets the host ends at the first `]`.
pub record IsInBrackets (inside : List ℕ) (d : Destination) : Type 0 where
  pub after : List ℕ
  pub is : inside ≡ d.host ++ (closing_bracket ∷ after)
  pub one_host : IsWithout closing_bracket d.host
  pub port_is : IsAfter after d.port

-- One colon, and no second one, stands between them.
pub record HasOneColon (text host port : List ℕ) : Type 0 where
  pub is : text ≡ host ++ (colon ∷ port)
  pub before : IsWithout colon host
  pub behind : IsWithout colon port

abbrev pub IsPlainWith : List ℕ → List ℕ → Option ℕ → Type 0
IsPlainWith text host None = (host ≡ text) × ((x : List ℕ × List ℕ) → HasOneColon text x.0 x.1 → ⊥)
IsPlainWith text host (Some n) = (port : List ℕ) × HasOneColon text host port × IsPort port n

-- Without brackets the one colon of a text stands before a port, and a text with none, or with
-- several as an address of IPv6, is a host alone.
abbrev pub IsPlain : List ℕ → Destination → Type 0
IsPlain text d = IsPlainWith text d.host d.port

abbrev pub IsDestination : List ℕ → Destination → Type 0
IsDestination text d = ((inside : List ℕ) × (text ≡ opening_bracket ∷ inside) × IsInBrackets inside d)
    ⊎ (((inside : List ℕ) → text ≢ opening_bracket ∷ inside) × IsPlain text d)

-- What is answered of a host and its port.

-- 0 for a port that does not stand there
abbrev pub IsPortOf : Option ℕ → ℕ → Type 0
IsPortOf None n = n ≡ 0
IsPortOf (Some p) n = n ≡ p

-- 0 and the host and the port of the text, or 15 where it has none.
pub record TellsDestination (text : List ℕ) (n : ℕ) (answer : HostAndPort) : Type 0 where
  pub found : n ≡ 0 → (d : Destination) × IsDestination text d × (bytes_of answer.host text ≡ d.host) × IsPortOf d.port answer.port
  pub within : n ≡ 0 → IsPartOf answer.host text
  pub none : n ≡ 15 → (d : Destination) → IsDestination text d → ⊥
  pub others : (n ≡ 0) ⊎ (n ≡ 15)

abbrev pub BeginsHost : List ℕ → ℕ → Type 0
BeginsHost text n = ((inside : List ℕ) × (text ≡ opening_bracket ∷ inside) × (n ≡ 1)) ⊎ (((inside : List ℕ) → text ≡ opening_bracket ∷ inside → ⊥) × (n ≡ 0))
