-- Which patterns nobody could take for an address.
use Rattle.std.specs.Prelude.{◌<◌, ◌==◌, ◌||◌, ◌&&◌, not, ℕ, List, Bool, IsTrue, length, slice_index, nat_le, ◌≡◌, ◌≢◌, ◌⊎◌, ◌↔◌, ◌^◌, false, Result, Ok, Err, Option, Some, None}
use Rattle.std.specs.List.{list_any, list_all, All, Any}
use Rattle.std.specs.Char.{to_ascii_lowercase}
use Rattle.std.specs.Net.Grammar.{IsIpText}
use Rattle.std.specs.Net.Text.{ip_text}
use Rattle.std.specs.Net.Addr.{IsIpv4Mapped, ipv6_bits, ipv6_segments}
use Rattle.std.specs.declared.net.ip_addr.IpAddr.{IpAddr}
use Rattle.std.specs.declared.net.ipv6_addr.Ipv6Addr.{Ipv6Addr}
use Rattle.std.specs.declared.net.ip_addr.IpAddr.TheVariants.{V4, V6}
use Rattle.sshkey_matching.specs.Patterns.{Matches, exclamation_mark, unmarked}
use Rattle.sshkey_matching.specs.SourceAddresses.{IsSomeNetwork, Covers, pieces, IsLinkLocal, IsSeenAs}
use Rattle.sshkey_matching.specs.declared.from.FromFault.{FromFault}
use Rattle.sshkey_matching.specs.declared.from.FromFault.TheVariants.{Address, Host, List as Pieces, Memory}
use denote.Ref.{Bor}

abbrev pub has : ℕ → List ℕ → Bool
has c text = list_any (λ x. x == c) text

-- It holds a `*` or a `?`.
abbrev pub is_wild : List ℕ → Bool
is_wild text = has 0x2a text || has 0x3f text

abbrev pub is_digit : ℕ → Bool
is_digit c = nat_le 0x30 c && nat_le c 0x39

-- a digit, a dot, one of the letters a to f, or x, in either case
abbrev pub is_number_character : ℕ → Bool
is_number_character c = is_digit c || (c == 0x2e) || (nat_le 0x61 c && nat_le c 0x66) || (nat_le 0x41 c && nat_le c 0x46) || (c == 0x78) || (c == 0x58)

-- inet_aton(3) may take it for a number, or for several with dots between.
abbrev pub is_like_number : List ℕ → Bool
is_like_number text = is_digit (slice_index text 0) && list_all is_number_character text

-- It holds a colon, or is like a number.
abbrev pub is_like_address : List ℕ → Bool
is_like_address text = has 0x3a text || is_like_number text

abbrev pub is_letter : ℕ → Bool
is_letter c = (nat_le 0x61 c && nat_le c 0x7a) || (nat_le 0x41 c && nat_le c 0x5a)

-- a letter, a digit, a hyphen, a dot, an underscore or a colon, as names and addresses have, `*` or `?`
abbrev pub is_pattern_character : ℕ → Bool
is_pattern_character c = is_letter c || is_digit c || (c == 0x2d) || (c == 0x2e) || (c == 0x5f) || (c == 0x3a) || (c == 0x2a) || (c == 0x3f)

-- It is not empty, shorter than 1,023 bytes, and of these characters. It holds a `*` or a `?`; or it
-- is like no address.
pub record IsPlainPattern (text : List ℕ) : Type 0 where
  pub some : 0 < length text
  pub short : length text < 1023
  pub characters : IsTrue (list_all is_pattern_character text)
  pub no_address : IsTrue (is_wild text || not (is_like_address text))

-- Where a line of authorized_keys lets its key's holder come from (sshd(8), "from=").

-- A client as sshd sees it: its address, the text of that, and its host's name, or the text again.
pub record Client : Type 0 where
  pub address : IpAddr
  pub text : List ℕ
  pub host : List ℕ

-- Each piece, a `!` in front aside, is a network or a pattern that nobody could take for an address.
abbrev pub IsFromPattern : List ℕ → Type 0
IsFromPattern pattern = IsSomeNetwork pattern ⊎ IsPlainPattern pattern

abbrev pub IsFromPiece : List ℕ → Type 0
IsFromPiece piece = IsFromPattern (unmarked piece)

-- The piece is for a client: it is a network with its address, or a pattern that the address's text
-- matches, or its host's name, letters in either case.
abbrev pub IsFor : Client → List ℕ → Type 0
IsFor c pattern = Covers pattern c.address ⊎ (Matches (λ x. x) pattern c.text ⊎ Matches to_ascii_lowercase pattern c.host)

abbrev pub Names : Client → List ℕ → Type 0
Names c piece = (slice_index piece 0 ≢ exclamation_mark) × IsFor c piece

abbrev pub Refuses : Client → List ℕ → Type 0
Refuses c piece = (slice_index piece 0 ≡ exclamation_mark) × IsFor c (unmarked piece)

-- One piece names the client, and none refuses it.
pub record LetsFrom (list : List ℕ) (c : Client) : Type 0 where
  pub named : Any (Names c) (pieces list)
  pub unrefused : ¬ Any (Refuses c) (pieces list)

-- An address of ::/96 that is neither `::` nor `::1`, an IPv4 address in disguise (RFC 4291, 2.5.5.1):
-- getnameinfo(3) writes it as `::10.1.2.3`, and RFC 5952 as `::a01:203`.
abbrev pub IsIpv4Compatible : Ipv6Addr → Type 0
IsIpv4Compatible a = (1 < ipv6_bits a) × (ipv6_bits a < 2 ^ 32)

-- sshd sees an IPv4 client as one, and writes the scope of an address of one link alone, with which
-- it is none here. The others have one text.
abbrev pub IsSeen : IpAddr → Type 0
IsSeen (V4 a) = Unit {0}
IsSeen (V6 a) = ¬ IsIpv4Mapped (ipv6_segments a) × ¬ IsLinkLocal (V6 a) × ¬ IsIpv4Compatible a

abbrev pub IsClientText : List ℕ → IpAddr → Type 0
IsClientText text a = IsIpText text a × IsSeen a

abbrev pub IsSomeClientText : List ℕ → Type 0
IsSomeClientText text = (a : IpAddr) × IsClientText text a

-- A host's name is like no address: sshd passes over such a name.
abbrev pub IsHostName : Option (Bor (List ℕ)) → Type 0
IsHostName None = Unit {0}
IsHostName (Some host) = is_like_address host.now ≡ false

abbrev pub host_of : List ℕ → Option (Bor (List ℕ)) → List ℕ
host_of text None = text
host_of text (Some host) = host.now

abbrev pub DecidesPieces : List ℕ → Client → Option Bool → Type 0
DecidesPieces list c None = All IsFromPiece (pieces list) → ⊥
DecidesPieces list c (Some lets) = All IsFromPiece (pieces list) × (IsTrue lets ↔ LetsFrom list c)

-- Whether the list lets the client in, if its text and its host's name are such and the list is
-- well-formed. What fails first of these three is the fault.
abbrev pub DecidesFrom : List ℕ → Option (Bor (List ℕ)) → List ℕ → Result Bool FromFault → Type 0
DecidesFrom list host text (Ok lets) = IsHostName host × All IsFromPiece (pieces list) × ((a : IpAddr) × IsClientText text a × (IsTrue lets ↔ LetsFrom list (record { address = a; text = text; host = host_of text host })))
DecidesFrom list host text (Err Address) = IsSomeClientText text → ⊥
DecidesFrom list host text (Err Host) = IsSomeClientText text × (IsHostName host → ⊥)
DecidesFrom list host text (Err Pieces) = IsSomeClientText text × IsHostName host × (All IsFromPiece (pieces list) → ⊥)
DecidesFrom list host text (Err Memory) = ⊥

-- Memory ran out; or it is decided for the text of the address as sshd sees it (RFC 5952).
abbrev pub DecidesFromAt : List ℕ → Option (Bor (List ℕ)) → IpAddr → Result Bool FromFault → Type 0
DecidesFromAt list host address r = (r ≡ Err Memory) ⊎ ((seen : IpAddr) × IsSeenAs address seen × DecidesFrom list host (ip_text seen) r)
