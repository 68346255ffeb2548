-- Every fiftieth of the questions that OpenSSH's own code answered (checks/asked/addresses), as
-- checks/asked/address_examples.py draws them.
use Rattle.std.specs.Prelude.{ℕ, List, [], ◌∷◌, Bool, true, false, Option, Some, None, option_map, Ok, codes}
use Rattle.std.specs.List.{All}
use Rattle.std.specs.declared.net.ip_addr.IpAddr.TheVariants.{V4, V6}
use Rattle.sshkey_matching.specs.AddressExamples.{AllComeFrom, NoneComeFrom, Source, lent}
use Rattle.sshkey_matching.specs.FromLists.{DecidesFrom}

-- a list, a host's name if there is one, and the text of a client's address
abbrev pub Question : Type 0
Question = List ℕ × Option (List ℕ) × List ℕ

abbrev pub NoneDecided : Bool → List Question → Type 0
NoneDecided lets rows = All (λ r. ¬ DecidesFrom r.0 (option_map lent r.1) r.2 (Ok lets)) rows

abbrev pub refused : List Question
refused =
    (codes "0177.00.00.01/33,0x7f.0x0.0x0.0x9/1", None, codes "127.0.0.1")
    ∷ (codes "127.0.0.129/ 127,!0177.010.00.01/33", None, codes "127.0.0.1")
    ∷ (codes "host.e*ample.org", None, codes "127.0.0.1")
    ∷ (codes "!::/8,host.example.xrg", None, codes "::1")
    ∷ (codes "host.*xample.org", None, codes "fec0::1")
    ∷ (codes "hxst.example.org,!2000::/9,2001:db*::1,2001:db8:*1", Some (codes "host.example.org"), codes "2001:db8::1")
    ∷ (codes "0.0.0.0/0127,0x0.0x0.0x0.0x0/32,0.0.0.0/127,!0.0.0.0/128", Some (codes "face.b00c"), codes "0.0.0.0")
    ∷ (codes "::/8,/:100::,!::/127,::", Some (codes "face.b00c"), codes "::")
    ∷ (codes "!ffff:ffff::/32", None, codes "ffff:ffff:ffff:ffff:ffff:ffff:ffff:ffff")
    ∷ (codes "255.255.255.255/64", Some (codes "host.example.org"), codes "255.255.255.255")
    ∷ []

abbrev pub let_in : List Question
let_in =
    (codes "1:2::/33,1:2:3:4:5:6:7:8/128,::/1,!1x2:3:4:5:6:7:8", Some (codes "host.example.org"), codes "1:2:3:4:5:6:7:8")
    ∷ (codes "0.0.0.0/ 0,*", Some (codes "face.b00c"), codes "0.0.0.10")
    ∷ (codes "8.1.2.3,host.e*ample.org,host.exampl*7.org,010.01.02.02/31", Some (codes "9f.be"), codes "8.1.2.3")
    ∷ (codes ":?,2000::/0033", None, codes "::")
    ∷ (codes "!host.xample.?rg,::/8", Some (codes "face.b00c"), codes "::")
    ∷ (codes "::/9,64:ff9b::a01:20x,64:ff9b::a01:20*", Some (codes "face.b00c"), codes "64:ff9b::a01:203")
    ∷ (codes "0.0.0.14/32,0.0.0.10/31", Some (codes "face.b00c"), codes "0.0.0.10")
    ∷ (codes "2000::/8", Some (codes "host.example.org"), codes "2001:db8::1")
    ∷ (codes "!fe84::1,*", None, codes "fe80::1")
    ∷ (codes "::2,0:200::/64,*", None, codes "::2")
    ∷ []

abbrev pub kept_out : List Source
kept_out =
    (Some (codes "127.0.0.1,119.0.0.1/31,0.0.0.0/1,127.0/008"), V4 (record { octets = 127 ∷ 0 ∷ 0 ∷ 1 ∷ [] }))
    ∷ (Some (codes "127.0.64.1/32,127.0.0.1/0012,127.32.0.1"), V4 (record { octets = 127 ∷ 0 ∷ 0 ∷ 1 ∷ [] }))
    ∷ (Some (codes "0000:0000:0040:0000:0000:0000:0000:0002/ 127,::2/24,::2:0:2"), V6 (record { segments = 0 ∷ 0 ∷ 0 ∷ 0 ∷ 0 ∷ 0 ∷ 0 ∷ 2 ∷ [] }))
    ∷ (Some (codes "::102:304%lo/9,::/24"), V6 (record { segments = 0 ∷ 0 ∷ 0 ∷ 0 ∷ 0 ∷ 0 ∷ 258 ∷ 772 ∷ [] }))
    ∷ (Some (codes "10.1.2.3/127"), V4 (record { octets = 10 ∷ 1 ∷ 2 ∷ 3 ∷ [] }))
    ∷ (Some (codes "::102:304%lo/0127"), V6 (record { segments = 0 ∷ 0 ∷ 0 ∷ 0 ∷ 0 ∷ 0 ∷ 258 ∷ 772 ∷ [] }))
    ∷ (Some (codes "10.1.2.3/127,0x8.0x1.0x2.0x0/24"), V4 (record { octets = 10 ∷ 1 ∷ 2 ∷ 3 ∷ [] }))
    ∷ (Some (codes "::/ 64,::10:102:304/31"), V6 (record { segments = 0 ∷ 0 ∷ 0 ∷ 0 ∷ 0 ∷ 0 ∷ 258 ∷ 772 ∷ [] }))
    ∷ (Some (codes "10.3.2.3/ 33,10.1.2.3/064"), V4 (record { octets = 10 ∷ 1 ∷ 2 ∷ 3 ∷ [] }))
    ∷ (Some (codes "::/64 ,::2"), V6 (record { segments = 0 ∷ 0 ∷ 0 ∷ 0 ∷ 0 ∷ 0 ∷ 0 ∷ 2 ∷ [] }))
    ∷ (Some (codes "1.0.0.66/31 ,1.0.0.34/ 64"), V4 (record { octets = 1 ∷ 0 ∷ 0 ∷ 2 ∷ [] }))
    ∷ []

abbrev pub came : List Source
came =
    (Some (codes "::/33,::1/128,::/1,::/33"), V6 (record { segments = 0 ∷ 0 ∷ 0 ∷ 0 ∷ 0 ∷ 0 ∷ 0 ∷ 1 ∷ [] }))
    ∷ (Some (codes "::/64,::/1"), V6 (record { segments = 0 ∷ 0 ∷ 0 ∷ 0 ∷ 0 ∷ 0 ∷ 0 ∷ 1 ∷ [] }))
    ∷ (Some (codes "1:2::/33,1:2:3:4:5:6:7:8/128,::/1,1:2::/33"), V6 (record { segments = 1 ∷ 2 ∷ 3 ∷ 4 ∷ 5 ∷ 6 ∷ 7 ∷ 8 ∷ [] }))
    ∷ (Some (codes "::/0"), V6 (record { segments = 8193 ∷ 3512 ∷ 0 ∷ 0 ∷ 0 ∷ 0 ∷ 0 ∷ 1 ∷ [] }))
    ∷ (Some (codes "::/31"), V6 (record { segments = 0 ∷ 0 ∷ 0 ∷ 0 ∷ 0 ∷ 0 ∷ 258 ∷ 772 ∷ [] }))
    ∷ (Some (codes "::/1"), V6 (record { segments = 0 ∷ 0 ∷ 0 ∷ 0 ∷ 0 ∷ 0 ∷ 0 ∷ 0 ∷ [] }))
    ∷ (Some (codes "1:2::/32,1:2:3:4:5:6:7:8,1:2:3:4:5:6:7:8/128,1:2::/31"), V6 (record { segments = 1 ∷ 2 ∷ 3 ∷ 4 ∷ 5 ∷ 6 ∷ 7 ∷ 8 ∷ [] }))
    ∷ (Some (codes "fec0::/81"), V6 (record { segments = 65216 ∷ 0 ∷ 0 ∷ 0 ∷ 0 ∷ 0 ∷ 0 ∷ 1 ∷ [] }))
    ∷ (Some (codes "ff80::/9,ffff:ff00::/24"), V6 (record { segments = 65535 ∷ 65535 ∷ 65535 ∷ 65535 ∷ 65535 ∷ 65535 ∷ 65535 ∷ 65535 ∷ [] }))
    ∷ []

-- What OpenSSH refuses is not let in, and what it lets in is not refused, but for a fault.
abbrev pub Asked : Type 0
Asked = NoneDecided true refused × NoneDecided false let_in × NoneComeFrom kept_out × AllComeFrom came
