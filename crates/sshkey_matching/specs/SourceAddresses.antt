-- What a network is, and which addresses are in it (RFC 4291, 2.3; RFC 4632, 3.1).
use Rattle.std.specs.Prelude.{◌≡◌, ◌⊎◌, ◌≤◌, ◌-◌, ◌/◌, ◌%◌, ◌^◌, ℕ, List, ◌++◌, codes, length, ◌↔◌, [], ◌∷◌, Bool, IsTrue, Result, Ok, Err, Option, Some, None}
use Rattle.std.specs.Net.Addr.{ipv4_bits, ipv6_bits, IsCanonicalOf, IsWithinAt, ipv6_segments}
use Rattle.std.specs.Net.Grammar.{IsIpText, IsNumber}
use Rattle.std.specs.declared.net.ip_addr.IpAddr.{IpAddr}
use Rattle.std.specs.declared.net.ip_addr.IpAddr.TheVariants.{V4, V6}
use Rattle.std.specs.List.{All, Any, slice_split}
use Rattle.sshkey_matching.specs.Patterns.{is_comma}
use Rattle.sshkey_matching.specs.declared.malformed.Malformed.{Malformed}
use denote.Ref.{Bor}

-- An address is a number of 32 bits, or of 128.
abbrev pub width : IpAddr → ℕ
width (V4 a) = 32
width (V6 a) = 128

abbrev pub number : IpAddr → ℕ
number (V4 a) = ipv4_bits a
number (V6 a) = ipv6_bits a

-- The address and how many of its bits count: all; or after a `/` as many as one to three decimal
-- digits say.
abbrev pub WritesNetwork : List ℕ → IpAddr → ℕ → Type 0
WritesNetwork text a counted = (IsIpText text a × (counted ≡ width a)) ⊎ ((front : List ℕ) × (digits : List ℕ) × (text ≡ front ++ codes "/" ++ digits) × IsIpText front a × IsNumber 10 digits counted × (length digits ≤ 3))

-- It counts no more bits than there are, and the others are 0.
abbrev pub IsWhole : IpAddr → ℕ → Type 0
IsWhole a counted = (counted ≤ width a) × (number a % 2 ^ (width a - counted) ≡ 0)

-- The text is a network: it counts no more bits than there are, and the others are 0.
pub record IsNetwork (text : List ℕ) (a : IpAddr) (counted : ℕ) : Type 0 where
  pub written : WritesNetwork text a counted
  pub fits : counted ≤ width a
  pub rest : number a % 2 ^ (width a - counted) ≡ 0

-- The address is one of the network's: of the same width, with the same bits where they count.
pub record IsAmong (network : IpAddr) (counted : ℕ) (address : IpAddr) : Type 0 where
  pub same_width : width address ≡ width network
  pub same_bits : number address / 2 ^ (width network - counted) ≡ number network / 2 ^ (width network - counted)

-- The text is a network; and one that has the address.
abbrev pub IsSomeNetwork : List ℕ → Type 0
IsSomeNetwork text = (a : IpAddr) × (counted : ℕ) × IsNetwork text a counted

abbrev pub Covers : List ℕ → IpAddr → Type 0
Covers text address = (a : IpAddr) × (counted : ℕ) × IsNetwork text a counted × IsAmong a counted address

-- Where a certificate lets its holder come from (PROTOCOL.certkeys, "source-address").

-- the pieces between the commas
abbrev pub pieces : List ℕ → List (List ℕ)
pieces list = slice_split is_comma list

-- sshd sees a client at `::ffff:10.1.2.3` as 10.1.2.3, and each other one as it is.
abbrev pub IsSeenAs : IpAddr → IpAddr → Type 0
IsSeenAs (V4 a) seen = seen ≡ V4 a
IsSeenAs (V6 a) seen = IsCanonicalOf a seen

-- sshd sees an address of one link alone, fe80::/10, with a scope, and so in no network.
abbrev pub IsLinkLocal : IpAddr → Type 0
IsLinkLocal (V4 a) = ⊥
IsLinkLocal (V6 a) = IsWithinAt (ipv6_segments a) 0 0xfe80 0xfebf

-- A list is well-formed if each of its pieces is a network, and has an address if one of them does.
abbrev pub IsNetworks : List ℕ → Type 0
IsNetworks list = All IsSomeNetwork (pieces list)

abbrev pub Has : List ℕ → IpAddr → Type 0
Has list address = Any (λ piece. Covers piece address) (pieces list)

abbrev pub FindsAddress : List ℕ → IpAddr → Option Bool → Type 0
FindsAddress list address None = IsNetworks list → ⊥
FindsAddress list address (Some has) = IsNetworks list × (IsTrue has ↔ Has list address)

-- The client's address, as sshd sees it, is in the list.
pub record ComesFrom (list : List ℕ) (address : IpAddr) : Type 0 where
  pub seen : IpAddr
  pub is : IsSeenAs address seen
  pub wide : ¬ IsLinkLocal seen
  pub has : Has list seen

-- `Err` exactly if the list is not well-formed, and else whether the client comes from there.
abbrev pub DecidesSource : List ℕ → IpAddr → Result Bool Malformed → Type 0
DecidesSource list address (Ok allows) = IsNetworks list × (IsTrue allows ↔ ComesFrom list address)
DecidesSource list address (Err e) = IsNetworks list → ⊥

-- From anywhere without a list; and by one from where it says, if it is well-formed.
abbrev pub MayComeFrom : Option (Bor (List ℕ)) → IpAddr → Type 0
MayComeFrom None address = Unit {0}
MayComeFrom (Some list) address = IsNetworks list.now × ComesFrom list.now address

-- the first piece, and what follows its comma, if there is one
abbrev pub pieces_of : Option (Bor (List ℕ)) → List (List ℕ)
pieces_of None = []
pieces_of (Some rest) = pieces rest.now

abbrev pub SplitsPiece : List ℕ → List ℕ → Option (Bor (List ℕ)) → Type 0
SplitsPiece list piece rest = pieces list ≡ piece ∷ pieces_of rest
