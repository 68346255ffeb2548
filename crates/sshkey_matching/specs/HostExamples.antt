-- Worked examples: what ssh(1) asks about a host that a user typed, as getaddrinfo(3) with
-- AI_NUMERICHOST reads it and inet_ntop(3) writes it.
use Rattle.std.specs.Prelude.{ℕ, List, [], ◌∷◌, codes}
use Rattle.std.specs.List.{All}
use Rattle.sshkey_matching.specs.AskedHosts.{HasOneText, IsAsked, IsHostFault, IsTextOf}
use Rattle.sshkey_matching.specs.AddressExamples.{ipv6}
use Rattle.sshkey_matching.specs.declared.host.HostFault.TheVariants.{Address, Empty, Memory, Port}

-- `::` and `::1` have one text, and other addresses of ::/96 have two. A host that writes no address
-- has none.
abbrev pub OneText : Type 0
OneText = HasOneText (ipv6 0 0 0 0) × HasOneText (ipv6 0 0 0 1) × ¬ HasOneText (ipv6 0 0 0 2) × ¬ HasOneText (ipv6 0 0 0xffff 0xffff) × HasOneText (ipv6 0xfd00 0 0 1)
    × IsTextOf (codes "0:0::1") (codes "::1") × ((name : List ℕ) → IsTextOf (codes "::2") name → ⊥) × ((name : List ℕ) → IsTextOf (codes "127.1") name → ⊥)

-- what is asked under one name
abbrev pub names : List (List ℕ × List ℕ)
names =
    (codes "host.example", codes "host.example")
    ∷ (codes "Host", codes "Host")
    ∷ (codes "1e100.net", codes "1e100.net")
    ∷ (codes "10.1.2.3", codes "10.1.2.3")
    ∷ (codes "::", codes "::")
    ∷ (codes "0:0::1", codes "::1")
    ∷ (codes "FD00:0::1", codes "fd00::1")
    ∷ (codes "::ffff:10.1.2.3", codes "::ffff:10.1.2.3")
    ∷ []

-- what is like an address, and is none that has one text
abbrev pub unasked : List (List ℕ)
unasked = codes "127.1" ∷ codes "0x7f.1" ∷ codes "010.1.2.3" ∷ codes "fe80::1%eth0" ∷ codes "[::1]" ∷ codes "::10.1.2.3" ∷ codes "::a01:203" ∷ codes "::2" ∷ []

-- A name is asked as it was typed, and an address in its one text.
abbrev pub AskedNames : Type 0
AskedNames = All (λ r. IsAsked r.0 22 r.1) names
    × ¬ IsAsked (codes "host.example") 0 (codes "host.example") × ¬ IsAsked [] 22 [] × ¬ IsAsked (codes "FD00:0::1") 22 (codes "FD00:0::1") × ¬ IsAsked (codes "Host") 22 (codes "host")

-- The port is judged first, and an address last; a name needs no memory.
abbrev pub HostFaults : Type 0
HostFaults = All (λ host. IsHostFault host 22 Address) unasked
    × IsHostFault (codes "host") 0 Port × IsHostFault [] 0 Port × IsHostFault [] 22 Empty × IsHostFault (codes "::1") 22 Memory
    × ¬ IsHostFault (codes "host") 22 Port × ¬ IsHostFault [] 0 Empty × ¬ IsHostFault (codes "host") 22 Empty
    × ¬ IsHostFault (codes "127.1") 0 Address × ¬ IsHostFault (codes "10.1.2.3") 22 Address × ¬ IsHostFault (codes "host") 22 Memory
