-- What ssh(1) asks known_hosts and a host's certificate about, where a user typed a host and a port.
-- It reads each address by getaddrinfo(3) with AI_NUMERICHOST, and asks about its text, as
-- getnameinfo(3) with NI_NUMERICHOST and inet_ntop(3) write it.
use Rattle.std.specs.Prelude.{◌≡◌, ◌≢◌, ◌⊎◌, ℕ, List, [], true, false, string_bytes}
use Rattle.std.specs.Net.Grammar.{IsIpText}
use Rattle.std.specs.Net.Text.{ip_text}
use Rattle.std.specs.declared.net.ip_addr.IpAddr.{IpAddr}
use Rattle.std.specs.declared.net.ip_addr.IpAddr.TheVariants.{V4, V6}
use Rattle.sshkey_matching.specs.FromLists.{IsIpv4Compatible, is_like_address}
use Rattle.sshkey_matching.specs.declared.host.AskedHost.{AskedHost}
use Rattle.sshkey_matching.specs.declared.host.AskedHost.TheVariants.{Name, Address as Written}
use Rattle.sshkey_matching.specs.declared.host.HostFault.{HostFault}
use Rattle.sshkey_matching.specs.declared.host.HostFault.TheVariants.{Address, Empty, Memory, Port}

-- The text of RFC 5952 is the one that inet_ntop(3) writes.
abbrev pub HasOneText : IpAddr → Type 0
HasOneText (V4 a) = Unit {0}
HasOneText (V6 a) = ¬ IsIpv4Compatible a

-- The text of the address that the host writes.
pub record IsTextOf (host name : List ℕ) : Type 0 where
  pub address : IpAddr
  pub written : IsIpText host address
  pub one : HasOneText address
  pub text : name ≡ ip_text address

-- The host is like no address, and asked as it stands; or it is like one, and its text is asked.
abbrev pub IsAskedFor : List ℕ → List ℕ → Type 0
IsAskedFor host name = ((is_like_address host ≡ false) × (name ≡ host)) ⊎ ((is_like_address host ≡ true) × IsTextOf host name)

-- There are a port and a host, and that name is asked.
pub record IsAsked (host : List ℕ) (port : ℕ) (name : List ℕ) : Type 0 where
  pub some_port : port ≢ 0
  pub some_host : host ≢ []
  pub asked : IsAskedFor host name

-- What is wrong first; or memory ran out, which only what is like an address needs.
abbrev pub IsHostFault : List ℕ → ℕ → HostFault → Type 0
IsHostFault host port Port = port ≡ 0
IsHostFault host port Empty = (port ≢ 0) × (host ≡ [])
IsHostFault host port Address = (port ≢ 0) × (host ≢ []) × ((name : List ℕ) → IsAskedFor host name → ⊥)
IsHostFault host port Memory = is_like_address host ≡ true

abbrev pub asked_name : AskedHost → List ℕ
asked_name (Name name) = name.now
asked_name (Written text) = string_bytes text
