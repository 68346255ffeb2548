-- What a server asks once a client is let in (sshd(8), "permitopen", "permitlisten" and "command";
-- RFC 4254, sections 6.5 and 7), as channels.c and session.c of OpenSSH answer it.
use Rattle.std.specs.Prelude.{◌≡◌, ◌⊎◌, ◌<◌, ℕ, List, [], Option, Some, None, IsTrue, codes, map}
use Rattle.std.specs.Char.{to_ascii_lowercase}
use Rattle.std.specs.List.{Any}
use Rattle.sshkey_matching.specs.Patterns.{fold_of, Matches}
use Rattle.sshkey_matching.specs.declared.pattern.LetterCase.TheVariants.{Sensitive}
use Rattle.login_terms.specs.Options.{Terms}
use Rattle.login_terms.specs.Values.{HostAndPort}

-- ---- one host and port of the option, and those that the client asks for

-- Any port, or this one.
abbrev pub IsPortOf : Option ℕ → ℕ → Type 0
IsPortOf None port = Unit {0}
IsPortOf (Some named) port = named ≡ port

-- Any host is `*`, and another is the one that is asked for, byte by byte.
abbrev pub Opens : List ℕ → Option ℕ → List ℕ → ℕ → Type 0
Opens named named_port host port = IsPortOf named_port port × ((named ≡ codes "*") ⊎ (named ≡ host))

-- The host is a pattern (ssh_config(5), "PATTERNS"), which the one that is asked for matches in
-- small letters: a pattern with a capital letter matches none.
abbrev pub Listens : List ℕ → Option ℕ → List ℕ → ℕ → Type 0
Listens named named_port host port = IsPortOf named_port port × Matches (fold_of Sensitive) named (map to_ascii_lowercase host)

-- no capital letter
abbrev pub IsSmall : ℕ → Type 0
IsSmall c = to_ascii_lowercase c ≡ c

-- ---- ports

-- The option does not stand in the line, or one that does is for it.
abbrev pub IsNamed : (HostAndPort → Type 0) → List HostAndPort → Type 0
IsNamed IsFor named = (named ≡ []) ⊎ Any IsFor named

-- Forwarding is permitted, there is such a port, and the option allows it.
abbrev pub MayOpen : Terms → List ℕ → ℕ → Type 0
MayOpen t host port = IsTrue t.permissions.port_forwarding × (port < 65536) × IsNamed (λ p. Opens p.host p.port host port) t.permit_open

abbrev pub MayListen : Terms → List ℕ → ℕ → Type 0
MayListen t host port = IsTrue t.permissions.port_forwarding × (port < 65536) × IsNamed (λ p. Listens p.host p.port host port) t.permit_listen

-- ---- commands

abbrev pub first_of : Option (List ℕ) → Option (List ℕ) → Option (List ℕ)
first_of (Some command) asked = Some command
first_of None asked = asked

-- The line's command, which may be empty, or else what the client asks for: a command, or a shell.
abbrev pub runs : Terms → Option (List ℕ) → Option (List ℕ)
runs t asked = first_of t.command asked
