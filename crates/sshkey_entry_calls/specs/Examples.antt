-- Worked examples: which host and which port a text names, on both sides of each edge (RFC 3986,
-- section 3.2; OpenSSH's misc.c, hpdelim2 and a2port).
use Rattle.std.specs.Prelude.{◌≡◌, [], ◌∷◌, Some, None, codes}
use Rattle.sshkey_entry_calls.specs.Destinations.{IsDestination, IsPort, closing_bracket, colon, opening_bracket}

abbrev pub Marks : Type 0
Marks = codes ":[]" ≡ colon ∷ opening_bracket ∷ closing_bracket ∷ []

abbrev pub Ports : Type 0
Ports = IsPort (codes "22") 22 × IsPort (codes "022") 22 × IsPort (codes "1") 1 × IsPort (codes "65535") 65535
    × ¬ IsPort (codes "0") 0 × ¬ IsPort (codes "65536") 65536 × ¬ IsPort [] 0 × ¬ IsPort (codes "2x") 2 × ¬ IsPort (codes "22") 2

-- The host in brackets ends at the first `]`.
abbrev pub Bracketed : Type 0
Bracketed = IsDestination (codes "[::1]:22") (record { host = codes "::1"; port = Some 22 })
    × IsDestination (codes "[::1]") (record { host = codes "::1"; port = None })
    × IsDestination (codes "[h]:22") (record { host = codes "h"; port = Some 22 })
    × ¬ IsDestination (codes "[a]b]:22") (record { host = codes "a]b"; port = Some 22 })
    × ¬ IsDestination (codes "[h]") (record { host = codes "[h]"; port = None })
    × ¬ IsDestination (codes "[h]:22") (record { host = codes "[h]"; port = Some 22 })

abbrev pub WithPort : Type 0
WithPort = IsDestination (codes "h:22") (record { host = codes "h"; port = Some 22 })
    × IsDestination (codes ":22") (record { host = []; port = Some 22 })
    × ¬ IsDestination (codes "h:22") (record { host = codes "h:22"; port = None })
    × ¬ IsDestination (codes "h:22") (record { host = codes "h"; port = None })

-- A text without a colon, or with two.
abbrev pub Alone : Type 0
Alone = IsDestination (codes "h") (record { host = codes "h"; port = None })
    × IsDestination (codes "::1") (record { host = codes "::1"; port = None })
    × IsDestination (codes "a::22") (record { host = codes "a::22"; port = None })
    × ¬ IsDestination (codes "a::22") (record { host = codes "a:"; port = Some 22 })

-- What follows a bracket or the one colon is a port.
abbrev pub NoDestinations : Type 0
NoDestinations = ¬ IsDestination (codes "[h]22") (record { host = codes "h"; port = Some 22 })
    × ¬ IsDestination (codes "[h]x") (record { host = codes "h"; port = None })
    × ¬ IsDestination (codes "[h") (record { host = codes "h"; port = None })
    × ¬ IsDestination (codes "h:") (record { host = codes "h"; port = None })
    × ¬ IsDestination (codes "h:ssh") (record { host = codes "h"; port = None })
