-- The names of options (sshd(8), "AUTHORIZED_KEYS FILE FORMAT").
use Rattle.std.specs.Prelude.{ℕ, List, [], ◌∷◌, codes, ◌≡◌, ◌⊎◌, ◌<◌, ◌++◌, Bool, true, false, Option, Some, None, length, map, min, option_map, string_bytes}
use Rattle.login_terms.specs.declared.words.Flag.TheVariants as flag
use Rattle.login_terms.specs.declared.words.Word.{Word}
use Rattle.login_terms.specs.declared.words.Word.TheVariants as word
use Rattle.std.specs.List.{Any}
use Rattle.sshkey_matching.specs.Times.{IsTimeText}
use Rattle.sshkey_matching.specs.declared.times.Span.{Span}
use Rattle.login_terms.specs.Values.{HostAndPort, IsPermitListen, IsPermitOpen, IsTunnel, IsVariable, MayBeListen, MayBePermit, MayBeTime, MayBeTunnel, permit_of}
use Rattle.sshkey_entries.specs.OptionItems.{Names}
use Rattle.login_terms.specs.declared.permissions.Permissions.{Permissions}
use Rattle.login_terms.specs.declared.terms.Terms as code
use Rattle.login_terms.specs.declared.words.Flag.{Flag}

-- `no-` in front of a flag turns it off
abbrev pub words : List (List ℕ × Word)
words = (codes "port-forwarding", word.Allow flag.PortForwarding) ∷
    (codes "agent-forwarding", word.Allow flag.AgentForwarding) ∷
    (codes "x11-forwarding", word.Allow flag.X11Forwarding) ∷
    (codes "pty", word.Allow flag.Pty) ∷
    (codes "user-rc", word.Allow flag.UserRc) ∷
    (codes "touch-required", word.Allow flag.TouchRequired) ∷
    (codes "verify-required", word.Allow flag.VerifyRequired) ∷
    (codes "no-port-forwarding", word.Deny flag.PortForwarding) ∷
    (codes "no-agent-forwarding", word.Deny flag.AgentForwarding) ∷
    (codes "no-x11-forwarding", word.Deny flag.X11Forwarding) ∷
    (codes "no-pty", word.Deny flag.Pty) ∷
    (codes "no-user-rc", word.Deny flag.UserRc) ∷
    (codes "no-touch-required", word.Deny flag.TouchRequired) ∷
    (codes "no-verify-required", word.Deny flag.VerifyRequired) ∷
    (codes "restrict", word.Restrict) ∷
    (codes "cert-authority", word.CertAuthority) ∷
    (codes "command", word.Command) ∷
    (codes "principals", word.Principals) ∷
    (codes "from", word.From) ∷
    (codes "expiry-time", word.ExpiryTime) ∷
    (codes "environment", word.Environment) ∷
    (codes "permitopen", word.PermitOpen) ∷
    (codes "permitlisten", word.PermitListen) ∷
    (codes "tunnel", word.Tunnel) ∷
    []

-- What the options of a line of authorized_keys say (sshd(8), "AUTHORIZED_KEYS FILE FORMAT"). Where
-- versions of OpenSSH differ the strictest counts.

pub record Terms : Type 0 where
  pub is_authority : Bool
  pub command : Option (List ℕ)
  pub principals : Option (List ℕ)
  pub from : Option (List ℕ)
  pub expires : Option Span
  pub environment : List (List ℕ)
  pub permit_open : List HostAndPort
  pub permit_listen : List HostAndPort
  pub tunnel : Option ℕ
  pub permissions : Permissions
  pub touch_required : Bool
  pub verify_required : Bool

abbrev pub all_permitted : Permissions
all_permitted = record { port_forwarding = true; agent_forwarding = true; x11_forwarding = true; pty = true; user_rc = true; tunnels = true }

abbrev pub none_permitted : Permissions
none_permitted = record { port_forwarding = false; agent_forwarding = false; x11_forwarding = false; pty = false; user_rc = false; tunnels = false }

abbrev pub no_terms : Terms
no_terms = record { is_authority = false; command = None; principals = None; from = None; expires = None; environment = []; permit_open = []; permit_listen = []; tunnel = None; permissions = all_permitted; touch_required = true; verify_required = false }

abbrev pub terms_of : code.Terms → Terms
terms_of t = record { is_authority = t.is_authority; command = option_map string_bytes t.command; principals = option_map string_bytes t.principals; from = option_map string_bytes t.from; expires = t.expires; environment = map string_bytes t.environment.items; permit_open = map permit_of t.permit_open.items; permit_listen = map permit_of t.permit_listen.items; tunnel = t.tunnel; permissions = t.permissions; touch_required = t.touch_required; verify_required = t.verify_required }

-- ---- an option without a value

abbrev pub with_flag : Flag → Bool → Terms → Terms
with_flag flag.PortForwarding b s = record s { permissions = record s.permissions { port_forwarding = b } }
with_flag flag.AgentForwarding b s = record s { permissions = record s.permissions { agent_forwarding = b } }
with_flag flag.X11Forwarding b s = record s { permissions = record s.permissions { x11_forwarding = b } }
with_flag flag.Pty b s = record s { permissions = record s.permissions { pty = b } }
with_flag flag.UserRc b s = record s { permissions = record s.permissions { user_rc = b } }
with_flag flag.TouchRequired b s = record s { touch_required = b }
with_flag flag.VerifyRequired b s = record s { verify_required = b }

-- The last of a flag counts. `restrict` turns off all but touch and verification, and tunnels for
-- good.
abbrev pub AddsAlone : Word → Terms → Terms → Type 0
AddsAlone (word.Allow f) s t = t ≡ with_flag f true s
AddsAlone (word.Deny f) s t = t ≡ with_flag f false s
AddsAlone word.Restrict s t = t ≡ record s { permissions = none_permitted }
AddsAlone word.CertAuthority s t = t ≡ record s { is_authority = true }
AddsAlone word.Command s t = ⊥
AddsAlone word.Principals s t = ⊥
AddsAlone word.From s t = ⊥
AddsAlone word.ExpiryTime s t = ⊥
AddsAlone word.Environment s t = ⊥
AddsAlone word.PermitOpen s t = ⊥
AddsAlone word.PermitListen s t = ⊥
AddsAlone word.Tunnel s t = ⊥

-- ---- an option with a value

-- of two times the earlier
abbrev pub earlier : Option Span → Span → Span
earlier None s = s
earlier (Some r) s = record { first = min r.first s.first; last = min r.last s.last }

-- Of variables of one name the first counts.
abbrev pub AddsVariable : List ℕ → List (List ℕ) → List (List ℕ) → Type 0
AddsVariable v old new = (name : List ℕ) × IsVariable v name × ((Any (λ w. IsVariable w name) old × (new ≡ old)) ⊎ ((Any (λ w. IsVariable w name) old → ⊥) × (new ≡ old ++ (v ∷ []))))

-- `command`, `principals` and `from` stand once. Of times the earliest counts, and of tunnels the
-- last. sshd reads 1,025 variables at most, and 4,097 hosts of each kind.
abbrev pub AddsValue : Word → List ℕ → Terms → Terms → Type 0
AddsValue word.Command v s t = (s.command ≡ None) × (t ≡ record s { command = Some v })
AddsValue word.Principals v s t = (s.principals ≡ None) × (t ≡ record s { principals = Some v })
AddsValue word.From v s t = (s.from ≡ None) × (t ≡ record s { from = Some v })
AddsValue word.ExpiryTime v s t = (n : Span) × IsTimeText v n × (t ≡ record s { expires = Some (earlier s.expires n) })
AddsValue word.Environment v s t = (length s.environment < 1025) × ((e : List (List ℕ)) × AddsVariable v s.environment e × (t ≡ record s { environment = e }))
AddsValue word.PermitOpen v s t = (length s.permit_open < 4097) × ((p : HostAndPort) × IsPermitOpen v p × (t ≡ record s { permit_open = s.permit_open ++ (p ∷ []) }))
AddsValue word.PermitListen v s t = (length s.permit_listen < 4097) × ((p : HostAndPort) × IsPermitListen v p × (t ≡ record s { permit_listen = s.permit_listen ++ (p ∷ []) }))
AddsValue word.Tunnel v s t = (n : ℕ) × IsTunnel v n × (t ≡ record s { tunnel = Some n })
AddsValue (word.Allow f) v s t = ⊥
AddsValue (word.Deny f) v s t = ⊥
AddsValue word.Restrict v s t = ⊥
AddsValue word.CertAuthority v s t = ⊥

-- sshd may read the value.
abbrev pub MayBeValue : Word → List ℕ → Type 0
MayBeValue word.ExpiryTime v = MayBeTime v
MayBeValue word.PermitOpen v = MayBePermit v
MayBeValue word.PermitListen v = MayBeListen v
MayBeValue word.Tunnel v = MayBeTunnel v
MayBeValue word.Command v = ⊥
MayBeValue word.Principals v = ⊥
MayBeValue word.From v = ⊥
MayBeValue word.Environment v = ⊥
MayBeValue (word.Allow f) v = ⊥
MayBeValue (word.Deny f) v = ⊥
MayBeValue word.Restrict v = ⊥
MayBeValue word.CertAuthority v = ⊥

-- ---- an option

abbrev pub AddsWord : Word → Option (List ℕ) → Terms → Terms → Type 0
AddsWord w None s t = AddsAlone w s t
AddsWord w (Some v) s t = AddsValue w v s t

abbrev pub MayBeWord : Word → Option (List ℕ) → Type 0
MayBeWord w None = ⊥
MayBeWord w (Some v) = MayBeValue w v

-- What an option of that name, with that value or none, adds to what is said.
abbrev pub Adds : List ℕ → Option (List ℕ) → Terms → Terms → Type 0
Adds name value s t = (w : Word) × Names words name w × AddsWord w value s t

-- sshd may read it.
abbrev pub MayBe : List ℕ → Option (List ℕ) → Type 0
MayBe name value = (w : Word) × Names words name w × MayBeWord w value
