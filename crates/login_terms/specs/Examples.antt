-- Worked examples, on both sides of each edge: what OpenSSH's auth-options.c and misc.c read.
use Rattle.std.specs.Prelude.{◌≡◌, ℕ, List, [], ◌∷◌, ◌++◌, length, true, false, Option, Some, None, codes, replicate}
use Rattle.std.specs.List.{Any}
use Rattle.login_terms.specs.Options.{Adds, AddsValue, MayBe, Terms, earlier, no_terms, AddsWord, MayBeValue, MayBeWord}
use Rattle.login_terms.specs.Values.{IsPermitListen, IsPermitOpen, IsPort, IsTunnel, IsVariable, MayBePermit, MayBePort, MayBeTime, MayBeTunnel, is_variable_character, IsInBrackets, IsNoNumber, IsPlainHost, IsVariableName, SplitsHost, any_tunnel, closing_bracket, colon, equals_sign, opening_bracket, slash, HostAndPort}
use Rattle.login_terms.specs.declared.permissions.Permissions.{Permissions}
use Rattle.login_terms.specs.declared.words.Word.TheVariants as word
use Rattle.login_terms.specs.declared.words.Flag.TheVariants as flag
use Rattle.login_terms.specs.Questions.{MayListen, MayOpen, runs}

-- An option says this of a line and nothing else; or sshd refuses a line with it.
abbrev pub Says : List ℕ → Option (List ℕ) → Terms → Terms → Type 0
Says name value s t = Adds name value s t × ((u : Terms) → Adds name value s u → u ≡ t)

abbrev pub Refuses : List ℕ → Option (List ℕ) → Terms → Type 0
Refuses name value s = ((t : Terms) → Adds name value s t → ⊥) × ¬ MayBe name value

abbrev pub permitted : Permissions → Terms
permitted p = record { is_authority = false; command = None; principals = None; from = None; expires = None; environment = []; permit_open = []; permit_listen = []; tunnel = None; permissions = p; touch_required = true; verify_required = false }

abbrev pub all_but_pty : Permissions
all_but_pty = record { port_forwarding = true; agent_forwarding = true; x11_forwarding = true; pty = false; user_rc = true; tunnels = true }

abbrev pub only_pty : Permissions
only_pty = record { port_forwarding = false; agent_forwarding = false; x11_forwarding = false; pty = true; user_rc = false; tunnels = false }

abbrev pub all : Permissions
all = record only_pty { port_forwarding = true; agent_forwarding = true; x11_forwarding = true; user_rc = true; tunnels = true }

abbrev pub restricted : Terms
restricted = permitted (record only_pty { pty = false })

-- Without options all is permitted, and a security key has to be touched.
abbrev pub Beginning : Type 0
Beginning = no_terms ≡ permitted all

-- what each takes away, letters in either case
abbrev pub Taken : Type 0
Taken = Says (codes "no-port-forwarding") None no_terms (permitted (record all { port_forwarding = false }))
    × Says (codes "no-agent-forwarding") None no_terms (permitted (record all { agent_forwarding = false }))
    × Says (codes "no-X11-forwarding") None no_terms (permitted (record all { x11_forwarding = false }))
    × Says (codes "no-pty") None no_terms (permitted all_but_pty)
    × Says (codes "NO-USER-RC") None no_terms (permitted (record all { user_rc = false }))
    × Says (codes "no-touch-required") None no_terms (record (permitted all) { touch_required = false })
    × Says (codes "no-verify-required") None (record no_terms { verify_required = true }) (permitted all)
    × Says (codes "restrict") None no_terms restricted

-- what each permits or asks for, and what `restrict` leaves of what was asked for
abbrev pub Given : Type 0
Given = Says (codes "port-forwarding") None restricted (permitted (record only_pty { port_forwarding = true; pty = false }))
    × Says (codes "agent-forwarding") None restricted (permitted (record only_pty { agent_forwarding = true; pty = false }))
    × Says (codes "x11-forwarding") None restricted (permitted (record only_pty { x11_forwarding = true; pty = false }))
    × Says (codes "pty") None restricted (permitted only_pty)
    × Says (codes "user-rc") None restricted (permitted (record only_pty { user_rc = true; pty = false }))
    × Says (codes "touch-required") None (record restricted { touch_required = false }) restricted
    × Says (codes "verify-required") None restricted (record restricted { verify_required = true })
    × Says (codes "cert-authority") None restricted (record restricted { is_authority = true })
    × Says (codes "restrict") None (record no_terms { touch_required = false; verify_required = true }) (record restricted { touch_required = false; verify_required = true })

-- A flag that stands again says nothing more, and of `pty` and `no-pty` the last counts.
abbrev pub Again : Type 0
Again = Says (codes "restrict") None restricted restricted
    × Says (codes "pty") None (permitted only_pty) (permitted only_pty)
    × Says (codes "no-pty") None (permitted only_pty) restricted
    × Says (codes "cert-authority") None (record no_terms { is_authority = true }) (record no_terms { is_authority = true })

-- `command`, `principals` and `from` stand once.
abbrev pub Once : Type 0
Once = Says (codes "command") (Some (codes "ls")) no_terms (record no_terms { command = Some (codes "ls") })
    × Says (codes "principals") (Some (codes "a")) no_terms (record no_terms { principals = Some (codes "a") })
    × Says (codes "from") (Some (codes "::1")) no_terms (record no_terms { from = Some (codes "::1") })
    × Refuses (codes "command") (Some (codes "ls")) (record no_terms { command = Some (codes "id") })
    × Refuses (codes "principals") (Some (codes "a")) (record no_terms { principals = Some (codes "b") })
    × Refuses (codes "from") (Some (codes "::1")) (record no_terms { from = Some (codes "::1") })

-- Others, one without its value, and a flag with one.
abbrev pub NoOptions : Type 0
NoOptions = Refuses (codes "no-restrict") None no_terms × Refuses (codes "no-cert-authority") None no_terms × Refuses (codes "permit-pty") None no_terms
    × Refuses (codes "command") None no_terms × Refuses (codes "expiry-time") None no_terms × Refuses (codes "tunnel") None no_terms
    × Refuses (codes "pty") (Some []) no_terms × Refuses (codes "restrict") (Some []) no_terms

-- of two times the earlier, whichever stands first
abbrev pub Earlier : Type 0
Earlier = (earlier None (record { first = 10; last = 30 }) ≡ record { first = 10; last = 30 })
    × (earlier (Some (record { first = 10; last = 30 })) (record { first = 5; last = 40 }) ≡ record { first = 5; last = 30 })
    × (earlier (Some (record { first = 5; last = 40 })) (record { first = 10; last = 30 }) ≡ record { first = 5; last = 30 })

-- a space, a tab, a line feed, VT, FF and CR in front of a number; and no other byte
abbrev pub White : Type 0
White = MayBeTime (codes "2030 1 1Z") × MayBeTime (codes "2030" ++ (0x09 ∷ codes "1Z")) × MayBeTime (codes "2030" ++ (0x0a ∷ codes "1Z"))
    × MayBeTime (codes "2030" ++ (0x0b ∷ codes "1Z")) × MayBeTime (codes "2030" ++ (0x0c ∷ codes "1Z")) × MayBeTime (codes "2030" ++ (0x0d ∷ codes "1Z"))
    × ¬ MayBeTime (codes "2030" ++ (0x08 ∷ codes "1Z")) × ¬ MayBeTime (codes "2030" ++ (0x0e ∷ codes "1Z")) × ¬ MayBeTime (codes "2030" ++ (0x1c ∷ codes "1Z"))
    × ¬ MayBeTime (codes "20301301Z") × ¬ MayBeTime (codes "2030") × ¬ MayBeTime []

-- Times up to the start of 1970 in some zone: 10.6 lets in by those before it, and 9.2 does not.
abbrev pub BeforeEpoch : Type 0
BeforeEpoch = MayBeTime (codes "19700101") × MayBeTime (codes "19700101140000") × MayBeTime (codes "19691231235959Z") × MayBeTime (codes "19000101utc")
    × ¬ MayBeTime (codes "19700101140001") × ¬ MayBeTime (codes "19700101000001Z")

-- Letters, digits and `_` name a variable.
abbrev pub Characters : Type 0
Characters = (is_variable_character 0x30 ≡ true) × (is_variable_character 0x39 ≡ true) × (is_variable_character 0x41 ≡ true) × (is_variable_character 0x5a ≡ true)
    × (is_variable_character 0x61 ≡ true) × (is_variable_character 0x7a ≡ true) × (is_variable_character 0x5f ≡ true)
    × (is_variable_character 0x2f ≡ false) × (is_variable_character 0x3a ≡ false) × (is_variable_character 0x40 ≡ false) × (is_variable_character 0x5b ≡ false)
    × (is_variable_character 0x60 ≡ false) × (is_variable_character 0x7b ≡ false) × (is_variable_character 0x2d ≡ false) × (is_variable_character 0xc3 ≡ false)

-- Of two variables of a name the first counts; of 1,025 none more is read.
abbrev pub Variables : Type 0
Variables = ((s : Terms) → length s.environment ≡ 1024 → Any (λ v. IsVariable v (codes "A")) s.environment → AddsValue word.Environment (codes "A=b") s s)
    × ((s t : Terms) → length s.environment ≡ 1025 → AddsValue word.Environment (codes "A=b") s t → ⊥)

-- Hosts are read up to the 4,097th.
abbrev pub Hosts : Type 0
Hosts = IsPermitOpen (codes "h:80") (record { host = codes "h"; port = Some 80 }) × IsPermitOpen (codes "[::1]:*") (record { host = codes "::1"; port = None })
    × IsPermitListen (codes "80") (record { host = codes "*"; port = Some 80 }) × MayBePermit (codes "h/80")
    × ((s : Terms) → length s.permit_open ≡ 4096 → AddsValue word.PermitOpen (codes "h:80") s (record s { permit_open = s.permit_open ++ (record { host = codes "h"; port = Some 80 } ∷ []) }))
    × ((s t : Terms) → length s.permit_open ≡ 4097 → AddsValue word.PermitOpen (codes "h:80") s t → ⊥)
    × ((s : Terms) → length s.permit_listen ≡ 4096 → AddsValue word.PermitListen (codes "80") s (record s { permit_listen = s.permit_listen ++ (record { host = codes "*"; port = Some 80 } ∷ []) }))
    × ((s t : Terms) → length s.permit_listen ≡ 4097 → AddsValue word.PermitListen (codes "80") s t → ⊥)

-- which list a host is put into
abbrev pub Permits : Type 0
Permits = Adds (codes "permitopen") (Some (codes "h:80")) no_terms (record no_terms { permit_open = record { host = codes "h"; port = Some 80 } ∷ [] })
    × Adds (codes "permitlisten") (Some (codes "80")) no_terms (record no_terms { permit_listen = record { host = codes "*"; port = Some 80 } ∷ [] })

-- From 1 to 65,535, or any; what is no number may be the name of a service.
abbrev pub Ports : Type 0
Ports = IsPort (codes "1") (Some 1) × IsPort (codes "65535") (Some 65535) × IsPort (codes "*") None × IsPort (codes "080") (Some 80)
    × ¬ IsPort (codes "0") (Some 0) × ¬ IsPort (codes "65536") (Some 65536)
    × MayBePort (codes "ssh") × MayBePort (codes "+80") × MayBePort [] × ¬ MayBePort (codes "0") × ¬ MayBePort (codes "65536") × ¬ MayBePort (codes "*")

-- up to 0x7ffffffd, or any; of two the last
abbrev pub Devices : Type 0
Devices = IsTunnel (codes "0") 0 × IsTunnel (codes "2147483645") 2147483645 × IsTunnel (codes "aNy") 0x7fffffff
    × ¬ IsTunnel (codes "2147483646") 2147483646 × ¬ IsTunnel (codes "2147483647") 2147483647
    × MayBeTunnel [] × MayBeTunnel (codes "-1") × MayBeTunnel (codes "1:2") × ¬ MayBeTunnel (codes "any") × ¬ MayBeTunnel (codes "2147483646")
    × Adds (codes "tunnel") (Some (codes "1")) (record no_terms { tunnel = Some 0 }) (record no_terms { tunnel = Some 1 })

-- Worked examples: how values of options are taken apart, on both sides of each edge (OpenSSH's misc.c,
-- hpdelim2 and a2port; auth-options.c, handle_permit and the variables of sshauthopt_parse); and which
-- options have a value.

-- the characters as ASCII has them, and SSH_TUNID_ANY
abbrev pub Marks : Type 0
Marks = (codes ":/[]=" ≡ colon ∷ slash ∷ opening_bracket ∷ closing_bracket ∷ equals_sign ∷ []) × (any_tunnel ≡ 0x7fffffff)

-- What strtonum(3) reads of digits alone, and what may be the name of a service or has a sign.
abbrev pub NoNumbers : Type 0
NoNumbers = IsNoNumber [] × IsNoNumber (codes "ssh") × IsNoNumber (codes "+80") × IsNoNumber (codes "8o") × IsNoNumber (codes "4294967296")
    × ¬ IsNoNumber (codes "0") × ¬ IsNoNumber (codes "080") × ¬ IsNoNumber (codes "4294967295")

-- A variable's name has a character, and ends at the first `=`.
abbrev pub VariableNames : Type 0
VariableNames = IsVariableName (codes "A") × IsVariableName (codes "_a1") × ¬ IsVariableName [] × ¬ IsVariableName (codes "A-B") × ¬ IsVariableName (codes "A ")
    × IsVariable (codes "A=") (codes "A") × IsVariable (codes "A=b=c") (codes "A") × ¬ IsVariable (codes "A=b=c") (codes "A=b")
    × ¬ IsVariable (codes "=b") [] × ¬ IsVariable (codes "A") (codes "A")

-- A host without brackets ends at the first colon, and one in brackets at the first `]`, which a
-- colon follows.
abbrev pub HostEnds : Type 0
HostEnds = IsPlainHost (codes "h:80") (codes "h") (codes "80") × IsPlainHost (codes "a:b:80") (codes "a") (codes "b:80") × IsPlainHost (codes ":80") [] (codes "80")
    × ¬ IsPlainHost (codes "a:b:80") (codes "a:b") (codes "80") × ¬ IsPlainHost (codes "h/80") (codes "h") (codes "80")
    × IsInBrackets (codes "::1]:80") (codes "::1") (codes "80") × IsInBrackets (codes "a]:b]:80") (codes "a") (codes "b]:80")
    × ¬ IsInBrackets (codes "a]:b]:80") (codes "a]:b") (codes "80") × ¬ IsInBrackets (codes "::1]80") (codes "::1") (codes "80") × ¬ IsInBrackets (codes "::1:80") (codes "::1") (codes "80")

-- `[` in front makes a host one in brackets, and it has 1,024 bytes with them at most (NI_MAXHOST).
abbrev pub SplitHosts : Type 0
SplitHosts = SplitsHost (codes "[::1]:80") (codes "::1", codes "80") × SplitsHost (codes "h:80") (codes "h", codes "80")
    × ¬ SplitsHost (codes "[::1]:80") (codes "[", codes ":1]:80") × ¬ SplitsHost (codes "::1]:80") (codes "::1", codes "80") × ¬ SplitsHost (codes "[a:80") (codes "[a", codes "80")
    × SplitsHost (replicate 1024 0x61 ++ codes ":80") (replicate 1024 0x61, codes "80") × ¬ SplitsHost (replicate 1025 0x61 ++ codes ":80") (replicate 1025 0x61, codes "80")
    × SplitsHost (codes "[" ++ replicate 1022 0x61 ++ codes "]:80") (replicate 1022 0x61, codes "80") × ¬ SplitsHost (codes "[" ++ replicate 1023 0x61 ++ codes "]:80") (replicate 1023 0x61, codes "80")

-- Times, hosts, ports and devices may be read by some sshd, and by no version anything else: neither a
-- command, nor names, nor a variable without a `=`.
abbrev pub MayBeValues : Type 0
MayBeValues = MayBeValue word.ExpiryTime (codes "2030 1 1Z") × MayBeValue word.PermitOpen (codes "h/80") × MayBeValue word.PermitListen (codes "ssh") × MayBeValue word.Tunnel (codes "+1")
    × ¬ MayBeValue word.ExpiryTime (codes "2030") × ¬ MayBeValue word.PermitListen (codes "0") × ¬ MayBeValue word.Tunnel (codes "any")
    × ¬ MayBeValue word.Command (codes "ls") × ¬ MayBeValue word.Principals (codes "a") × ¬ MayBeValue word.From (codes "10.1") × ¬ MayBeValue word.Environment (codes "A")
    × ¬ MayBeValue (word.Allow flag.Pty) [] × ¬ MayBeValue (word.Deny flag.Pty) [] × ¬ MayBeValue word.Restrict [] × ¬ MayBeValue word.CertAuthority []

-- A flag has no value, and another option has one.
abbrev pub WordValues : Type 0
WordValues = AddsWord word.CertAuthority None no_terms (record no_terms { is_authority = true }) × AddsWord word.Command (Some (codes "ls")) no_terms (record no_terms { command = Some (codes "ls") })
    × ((t : Terms) → AddsWord word.CertAuthority (Some []) no_terms t → ⊥) × ((t : Terms) → AddsWord word.Command None no_terms t → ⊥)
    × MayBeWord word.Tunnel (Some (codes "+1")) × ¬ MayBeWord word.Tunnel None

-- Worked examples, on both sides of each edge: what channels.c and session.c of OpenSSH answer.

abbrev pub at : List ℕ → Option ℕ → HostAndPort
at host port = record { host = host; port = port }

abbrev pub opening : List ℕ → Option ℕ → Terms
opening host port = record no_terms { permit_open = at host port ∷ [] }

abbrev pub listening : List ℕ → Option ℕ → Terms
listening host port = record no_terms { permit_listen = at host port ∷ [] }

-- Without the option anything; with it what it names alone, each byte of a host; and nothing where
-- forwarding is forbidden, whatever is named. Ports end at 65,535.
abbrev pub Opened : Type 0
Opened = MayOpen no_terms (codes "db") 22 × MayOpen no_terms [] 0 × MayOpen no_terms (codes "db") 65535 × ¬ MayOpen no_terms (codes "db") 65536
    × ¬ MayOpen restricted (codes "db") 22 × ¬ MayOpen (record restricted { permit_open = at (codes "db") (Some 5432) ∷ [] }) (codes "db") 5432
    × MayOpen (opening (codes "db") (Some 5432)) (codes "db") 5432 × ¬ MayOpen (opening (codes "db") (Some 5432)) (codes "db") 5433
    × ¬ MayOpen (opening (codes "db") (Some 5432)) (codes "DB") 5432 × ¬ MayOpen (opening (codes "db") (Some 5432)) (codes "db.") 5432
    × MayOpen (opening (codes "*") (Some 80)) (codes "::1") 80 × ¬ MayOpen (opening (codes "*") (Some 80)) (codes "::1") 81
    × MayOpen (opening (codes "db") None) (codes "db") 22 × ¬ MayOpen (opening (codes "db") None) (codes "db") 65536
    × ¬ MayOpen (opening (codes "d?") None) (codes "db") 22 × ¬ MayOpen (opening (codes "*b") None) (codes "db") 22
    × MayOpen (record no_terms { permit_open = at (codes "a") (Some 1) ∷ at (codes "b") (Some 2) ∷ [] }) (codes "b") 2
    × ¬ MayOpen (record no_terms { permit_open = at (codes "a") (Some 1) ∷ at (codes "b") (Some 2) ∷ [] }) (codes "a") 2
    × MayOpen (listening (codes "a") (Some 1)) (codes "b") 2

-- The same, where hosts are patterns, which are compared with small letters.
abbrev pub Listened : Type 0
Listened = MayListen no_terms (codes "localhost") 8080 × MayListen no_terms [] 0 × MayListen no_terms [] 65535 × ¬ MayListen no_terms [] 65536
    × ¬ MayListen restricted [] 8080 × ¬ MayListen (record restricted { permit_listen = at (codes "*") None ∷ [] }) [] 8080
    × MayListen (listening (codes "localhost") (Some 8080)) (codes "localhost") 8080 × MayListen (listening (codes "localhost") (Some 8080)) (codes "LocalHost") 8080
    × ¬ MayListen (listening (codes "Localhost") (Some 8080)) (codes "Localhost") 8080 × ¬ MayListen (listening (codes "localhost") (Some 8080)) [] 8080
    × ¬ MayListen (listening (codes "localhost") (Some 8080)) (codes "127.0.0.1") 8080 × ¬ MayListen (listening (codes "localhost") (Some 8080)) (codes "localhost") 8081
    × MayListen (listening (codes "*") (Some 8080)) [] 8080 × MayListen (listening (codes "*.0.0.?") None) (codes "127.0.0.1") 0 × ¬ MayListen (listening (codes "*.0.0.?") None) (codes "::1") 0
    × ¬ MayListen (listening (codes "*") (Some 8080)) [] 0 × MayListen (opening (codes "a") (Some 1)) (codes "b") 2

-- A command that is empty is one, and whatever is asked for goes without it.
abbrev pub Commands : Type 0
Commands = (runs no_terms (Some (codes "ls")) ≡ Some (codes "ls")) × (runs no_terms None ≡ None)
    × (runs (record no_terms { command = Some (codes "date") }) (Some (codes "ls")) ≡ Some (codes "date"))
    × (runs (record no_terms { command = Some (codes "date") }) None ≡ Some (codes "date"))
    × (runs (record no_terms { command = Some [] }) (Some (codes "ls")) ≡ Some []) × (runs (record no_terms { command = Some [] }) None ≡ Some [])
