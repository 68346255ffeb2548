-- Worked examples, on both sides of each edge: of addrmatch.c, addr.c, match.c and canohost.c of
-- OpenSSH, where this is not stricter.
use Rattle.std.specs.Prelude.{◌≡◌, ℕ, List, [], ◌∷◌, ◌++◌, Bool, true, false, Option, Some, None, option_map, Result, Ok, Err, codes, replicate}
use Rattle.std.specs.List.{All, list_all, list_any}
use Rattle.std.specs.declared.net.ip_addr.IpAddr.{IpAddr}
use Rattle.std.specs.declared.net.ip_addr.IpAddr.TheVariants.{V4, V6}
use Rattle.sshkey_matching.specs.FromLists.{DecidesFrom, DecidesFromAt, is_like_address, is_pattern_character}
use Rattle.sshkey_matching.specs.SourceAddresses.{MayComeFrom}
use Rattle.sshkey_matching.specs.declared.from.FromFault.{FromFault}
use Rattle.sshkey_matching.specs.declared.from.FromFault.TheVariants.{Address, Host, List as Pieces}
use denote.Ref.{Bor}

abbrev pub lent : List ℕ → Bor (List ℕ)
lent text = record { ref_ptr = (0, 0); now = text }

abbrev ipv4 : ℕ → ℕ → ℕ → ℕ → IpAddr
ipv4 a b c d = V4 (record { octets = a ∷ b ∷ c ∷ d ∷ [] })

-- by its first segments and its last two: those between are 0
abbrev pub ipv6 : ℕ → ℕ → ℕ → ℕ → IpAddr
ipv6 a b y z = V6 (record { segments = a ∷ b ∷ 0 ∷ 0 ∷ 0 ∷ 0 ∷ y ∷ z ∷ [] })

-- ::ffff:10.1.2.3
abbrev pub mapped : IpAddr
mapped = V6 (record { segments = 0 ∷ 0 ∷ 0 ∷ 0 ∷ 0 ∷ 0xffff ∷ 0x0a01 ∷ 0x0203 ∷ [] })

-- ---- what is like an address

-- what inet_aton(3) may read, and what a colon stands in
abbrev like_addresses : List (List ℕ)
like_addresses = codes "127.1" ∷ codes "0x7f000001" ∷ codes "0X7F.1" ∷ codes "010.1" ∷ codes "9" ∷ codes "0" ∷ codes "1a.fF" ∷ codes "fe80:" ∷ codes "host:a" ∷ []

abbrev unlike_addresses : List (List ℕ)
unlike_addresses = [] ∷ codes "1e100.net" ∷ codes "a.1" ∷ codes ".1" ∷ codes "f" ∷ codes "0x7g" ∷ codes "0X7G" ∷ codes "10.1-2" ∷ codes "/1" ∷ []

abbrev pub Likeness : Type 0
Likeness = (list_all is_like_address like_addresses ≡ true) × (list_any is_like_address unlike_addresses ≡ false)

-- Of all characters, those that patterns may have.
abbrev pub Characters : Type 0
Characters = (list_all is_pattern_character (codes "*-.0123456789:?ABCDEFGHIJKLMNOPQRSTUVWXYZ_abcdefghijklmnopqrstuvwxyz") ≡ true)
    × (list_any is_pattern_character (codes " !\"#$%&'()+,/;<=>@[\\]^`{|}~" ++ (0 ∷ 9 ∷ 10 ∷ 13 ∷ 0x7f ∷ 0x80 ∷ 0xff ∷ [])) ≡ false)

-- ---- source-address

-- a list, if there is one, and a client's address
abbrev pub Source : Type 0
Source = Option (List ℕ) × IpAddr

abbrev pub AllComeFrom : List Source → Type 0
AllComeFrom rows = All (λ r. MayComeFrom (option_map lent r.0) r.1) rows

abbrev pub NoneComeFrom : List Source → Type 0
NoneComeFrom rows = All (λ r. ¬ MayComeFrom (option_map lent r.0) r.1) rows

-- which bits count
abbrev pub sources : List Source
sources =
    (None, ipv4 10 1 2 3)
    ∷ (Some (codes "10.0.0.0/8"), ipv4 10 255 255 255)
    ∷ (Some (codes "10.128.0.0/9"), ipv4 10 128 0 1)
    ∷ (Some (codes "10.0.0.2/31"), ipv4 10 0 0 3)
    ∷ (Some (codes "10.0.0.1/32"), ipv4 10 0 0 1)
    ∷ (Some (codes "10.0.0.1"), ipv4 10 0 0 1)
    ∷ (Some (codes "0.0.0.0/0"), ipv4 255 0 0 1)
    ∷ (Some (codes "10.0.0.0/008"), ipv4 10 1 2 3)
    ∷ (Some (codes "192.168.0.0/16,10.0.0.0/8"), ipv4 10 1 2 3)
    ∷ (Some (codes "10.0.0.0/8,2001:db8::/32"), ipv6 0x2001 0xdb8 0 1)
    ∷ (Some (codes "2001:db8::2/127"), ipv6 0x2001 0xdb8 0 3)
    ∷ (Some (codes "2001:DB8::1"), ipv6 0x2001 0xdb8 0 1)
    ∷ (Some (codes "::/0"), ipv6 0x2001 0xdb8 0 1)
    ∷ (Some (codes "::/0"), ipv6 0xfec0 0 0 1)
    ∷ (Some (codes "::/0"), ipv6 0xfe7f 0 0 1)
    ∷ (Some (codes "10.0.0.0/8"), mapped)
    ∷ []

-- An address outside, or of the other family; one of one link alone; and no list of networks.
abbrev pub others : List Source
others =
    (Some (codes "10.0.0.0/8"), ipv4 11 0 0 0)
    ∷ (Some (codes "10.128.0.0/9"), ipv4 10 127 255 255)
    ∷ (Some (codes "10.0.0.2/31"), ipv4 10 0 0 1)
    ∷ (Some (codes "10.0.0.1/32"), ipv4 10 0 0 0)
    ∷ (Some (codes "10.0.0.1"), ipv4 10 0 0 2)
    ∷ (Some (codes "2001:db8::2/127"), ipv6 0x2001 0xdb8 0 4)
    ∷ (Some (codes "0.0.0.0/0"), ipv6 0 0 0 1)
    ∷ (Some (codes "::/0"), ipv4 10 1 2 3)
    ∷ (Some (codes "::ffff:0:0/96"), mapped)
    ∷ (Some (codes "fe80::/10"), ipv6 0xfe80 0 0 1)
    ∷ (Some (codes "::/0"), ipv6 0xfebf 0xffff 0 1)
    ∷ (Some [], ipv4 10 1 2 3)
    ∷ (Some (codes "10.0.0.0/8,"), ipv4 10 1 2 3)
    ∷ (Some (codes "10.0.0.0/8,10.128.0.0/8"), ipv4 10 1 2 3)
    ∷ (Some (codes "10.0.0.0/8,10.0.0.1/31"), ipv4 10 1 2 3)
    ∷ (Some (codes "10.0.0.0/8,10.0.0.0/33"), ipv4 10 1 2 3)
    ∷ (Some (codes "10.0.0.0/8,2001:db8::1/127"), ipv4 10 1 2 3)
    ∷ (Some (codes "10.0.0.0/8,::/129"), ipv4 10 1 2 3)
    ∷ (Some (codes "10.0.0.0/8,*"), ipv4 10 1 2 3)
    ∷ (Some (codes "!11.0.0.0/8,10.0.0.0/8"), ipv4 10 1 2 3)
    ∷ (Some (codes "10.0.0.0/0008"), ipv4 10 1 2 3)
    ∷ (Some (codes "10.0.0.0/"), ipv4 10 0 0 0)
    ∷ (Some (codes "10.0.0.0/+8"), ipv4 10 1 2 3)
    ∷ (Some (codes "010.0.0.0/8"), ipv4 10 1 2 3)
    ∷ (Some (codes "10.1"), ipv4 10 0 0 1)
    ∷ []

abbrev pub Sources : Type 0
Sources = AllComeFrom sources × NoneComeFrom others

-- ---- from

-- a list, a host's name if there is one, the text of a client's address, and what is decided
abbrev pub Row : Type 0
Row = List ℕ × Option (List ℕ) × List ℕ × Result Bool FromFault

abbrev pub AllDecided : List Row → Type 0
AllDecided rows = All (λ r. DecidesFrom r.0 (option_map lent r.1) r.2 r.3) rows

-- One piece is for the client, and none with a mark is, in any order. An address's text is matched
-- letter by letter, and a host's name in either case.
abbrev pub clients : List Row
clients =
    (codes "10.0.0.0/8", None, codes "10.1.2.3", Ok true)
    ∷ (codes "10.0.0.0/8", None, codes "11.1.2.3", Ok false)
    ∷ (codes "10.0.0.0/8", None, codes "2001:db8::1", Ok false)
    ∷ (codes "2001:db8::/32", None, codes "2001:db8:ffff::1", Ok true)
    ∷ (codes "2001:db8::/32", None, codes "2001:db9::1", Ok false)
    ∷ (codes "!10.1.2.3,10.0.0.0/8", None, codes "10.1.2.3", Ok false)
    ∷ (codes "!10.1.2.3,10.0.0.0/8", None, codes "10.1.2.4", Ok true)
    ∷ (codes "10.0.0.0/8,!10.1.2.3", None, codes "10.1.2.3", Ok false)
    ∷ (codes "!10.0.0.0/8,*", None, codes "10.1.2.3", Ok false)
    ∷ (codes "!10.0.0.0/8,*", None, codes "11.1.2.3", Ok true)
    ∷ (codes "!10.1.2.3", None, codes "10.1.2.4", Ok false)
    ∷ (codes "10.1.2.?", None, codes "10.1.2.3", Ok true)
    ∷ (codes "10.1.2.?", None, codes "10.1.2.33", Ok false)
    ∷ (codes "10.1.2.?", Some (codes "host.example"), codes "10.1.2.3", Ok true)
    ∷ (codes "*.example.com", Some (codes "Host.EXAMPLE.com"), codes "10.1.2.3", Ok true)
    ∷ (codes "*.Example.COM", Some (codes "host.example.com"), codes "10.1.2.3", Ok true)
    ∷ (codes "*.example.com", None, codes "10.1.2.3", Ok false)
    ∷ (codes "!EVIL.example,*", Some (codes "evil.example"), codes "10.1.2.3", Ok false)
    ∷ (codes "!EVIL.example,*", Some (codes "good.example"), codes "10.1.2.3", Ok true)
    ∷ (codes "2001:DB8:*", Some (codes "host.example"), codes "2001:db8::1", Ok false)
    ∷ (codes "2001:db8:*", Some (codes "host.example"), codes "2001:db8::1", Ok true)
    ∷ (codes "2001:DB8:*", None, codes "2001:db8::1", Ok true)
    ∷ []

abbrev pub Clients : Type 0
Clients = AllDecided clients

-- Addresses that have one text, and others. Their fault is told first.
abbrev pub texts : List Row
texts =
    (codes "*", None, codes "10.1.2.3", Ok true)
    ∷ (codes "*", None, codes "::", Ok true)
    ∷ (codes "*", None, codes "::1", Ok true)
    ∷ (codes "*", None, codes "::2", Err Address)
    ∷ (codes "*", None, codes "::a01:203", Err Address)
    ∷ (codes "*", None, codes "::ffff:ffff", Err Address)
    ∷ (codes "*", None, codes "::1:0:0", Ok true)
    ∷ (codes "*", None, codes "::ffff:10.1.2.3", Err Address)
    ∷ (codes "*", None, codes "::fffe:10.1.2.3", Ok true)
    ∷ (codes "*", None, codes "fe7f::1", Ok true)
    ∷ (codes "*", None, codes "fe80::1", Err Address)
    ∷ (codes "*", None, codes "febf::1", Err Address)
    ∷ (codes "*", None, codes "fec0::1", Ok true)
    ∷ (codes "*", None, codes "fec0::1%eth0", Err Address)
    ∷ (codes "*", None, codes "10.1.2", Err Address)
    ∷ (codes "*", None, codes "host.example", Err Address)
    ∷ (codes "*", None, [], Err Address)
    ∷ ([], Some (codes "10.1"), codes "fe80::1", Err Address)
    ∷ []

abbrev pub Texts : Type 0
Texts = AllDecided texts

-- A name like an address is none; and that is told before a malformed list.
abbrev pub hosts : List Row
hosts =
    (codes "*", Some (codes "10.1"), codes "10.1.2.3", Err Host)
    ∷ (codes "*", Some (codes "0x7f000001"), codes "10.1.2.3", Err Host)
    ∷ (codes "*", Some (codes "fe80:"), codes "10.1.2.3", Err Host)
    ∷ ([], Some (codes "10.1"), codes "10.1.2.3", Err Host)
    ∷ (codes "*", Some (codes "1e100.net"), codes "10.1.2.3", Ok true)
    ∷ []

abbrev pub Hosts : Type 0
Hosts = AllDecided hosts

-- Networks and patterns; and lists with what is neither, wherever it stands.
abbrev pub lists : List Row
lists =
    ([], None, codes "10.1.2.3", Err Pieces)
    ∷ (codes "*,", None, codes "10.1.2.3", Err Pieces)
    ∷ (codes "*,,*", None, codes "10.1.2.3", Err Pieces)
    ∷ (codes "*,!", None, codes "10.1.2.3", Err Pieces)
    ∷ (codes "!!a,*", None, codes "10.1.2.3", Err Pieces)
    ∷ (codes "*,10.0.0.0/33", None, codes "10.1.2.3", Err Pieces)
    ∷ (codes "*,!10.0.0.0/129", None, codes "10.1.2.3", Err Pieces)
    ∷ (codes "10.128.0.0/8,*", None, codes "10.1.2.3", Err Pieces)
    ∷ (codes "10.128.0.0/9,*", None, codes "10.1.2.3", Ok true)
    ∷ (codes "!10.1.2.3 ,*", None, codes "10.1.2.3", Err Pieces)
    ∷ (codes "*,10.1", None, codes "10.1.2.3", Err Pieces)
    ∷ (codes "*,010.0.0.0/8", None, codes "10.1.2.3", Err Pieces)
    ∷ (codes "*,0x7f000001", None, codes "10.1.2.3", Err Pieces)
    ∷ (codes "*,0x7g", None, codes "10.1.2.3", Ok true)
    ∷ (codes "*,fe80::1%eth0", None, codes "10.1.2.3", Err Pieces)
    ∷ (codes "*,fe80:", None, codes "10.1.2.3", Err Pieces)
    ∷ (codes "*,fe80:*", None, codes "10.1.2.3", Ok true)
    ∷ (codes "*,fe80:?", None, codes "10.1.2.3", Ok true)
    ∷ (codes "*,10.0.0.0/0008", None, codes "10.1.2.3", Err Pieces)
    ∷ (codes "*,10.0.0.0/008", None, codes "10.1.2.3", Ok true)
    ∷ (codes "*," ++ replicate 1022 0x68, None, codes "10.1.2.3", Ok true)
    ∷ (codes "*," ++ replicate 1023 0x68, None, codes "10.1.2.3", Err Pieces)
    ∷ []

abbrev pub Lists : Type 0
Lists = AllDecided lists

-- sshd sees ::ffff:10.1.2.3 as 10.1.2.3
abbrev pub Seen : Type 0
Seen = DecidesFromAt (codes "10.1.2.?") None mapped (Ok true)
    × DecidesFromAt (codes "::ffff:*") None mapped (Ok false)
    × DecidesFromAt (codes "*") None (ipv6 0xfe80 0 0 1) (Err Address)
