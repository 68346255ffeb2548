-- What a line `cert-authority` and a certificate by that authority say together (sshd(8),
-- "AUTHORIZED_KEYS FILE FORMAT", `cert-authority`, `command` and `principals`; PROTOCOL.certkeys).
use Rattle.std.specs.Prelude.{◌≡◌, ℕ, ◌==◌, List, [], ◌∷◌, Bool, true, false, ◌&&◌, ◌||◌, not, bytes_eq, codes, if◌then◌else◌, is_some, length, Option, Some, None}
use Rattle.std.specs.List.{list_any}
use Rattle.login_policy.specs.KnownOptions.{force_command, no_touch_required, verify_required}
use Rattle.login_terms.specs.Questions.{first_of}
use Rattle.login_terms.specs.Options.{Terms}
use Rattle.login_terms.specs.declared.permissions.Permissions.{Permissions}
use Rattle.sshkey_matching.specs.SourceAddresses.{pieces}
use Rattle.sshkey_model.specs.Certificates.{Certificate}
use Rattle.sshkey_model.specs.OptionMaps.{value_of}
use Rattle.sshkey_model.specs.Options.{CertificateOption}
use Rattle.user_keys.specs.declared.answer.Judgement.{Judgement}
use Rattle.user_keys.specs.declared.answer.Judgement.TheVariants.{Allows, Refuses, Unclear}
use Rattle.user_keys.specs.declared.refusal.Reason.TheVariants.{Command, Principals}

-- ---- for whom

abbrev pub is_listed : List (List ℕ) → List ℕ → Bool
is_listed listed name = list_any (bytes_eq name) listed

-- the first of the names that is listed, up to an empty one, where sshd ends them
abbrev pub first_listed : List (List ℕ) → List (List ℕ) → Option (List ℕ)
first_listed listed [] = None
first_listed listed (name ∷ names) =
    if length name == 0 then None
    else if is_listed listed name then Some name
    else first_listed listed names

-- Whom the certificate lets in as the user: the user, if it lists that name; or, where the line has
-- `principals`, the first of these that it lists.
abbrev pub name_listed : List (List ℕ) → List ℕ → Option (List ℕ) → Option (List ℕ)
name_listed listed user None = if is_listed listed user then Some user else None
name_listed listed user (Some list) = first_listed listed (pieces list)

abbrev pub name_for : Certificate → List ℕ → Terms → Option (List ℕ)
name_for c user t = name_listed c.signed.valid_principals user t.principals

-- ---- what is said of a login

-- Where there are two commands they are the same.
abbrev pub agree : Option (List ℕ) → Option (List ℕ) → Bool
agree None other = true
agree (Some command) None = true
agree (Some command) (Some other) = bytes_eq command other

-- What follows from that, and from whether it is for somebody, for a line that is judged so.
abbrev pub judged_by : Bool → Bool → Judgement → Judgement
judged_by agreed named (Refuses r) = Refuses r
judged_by false named Allows = Refuses Command
judged_by false named Unclear = Refuses Command
judged_by true false Allows = Refuses Principals
judged_by true false Unclear = Refuses Principals
judged_by true true Allows = Allows
judged_by true true Unclear = Unclear

abbrev pub judged_with : Certificate → List ℕ → Terms → Judgement → Judgement
judged_with c user t j = judged_by (agree t.command (value_of force_command c.signed.critical_options)) (is_some (name_for c user t)) j

-- What the terms refuse by the place or the time the certificate does not change, and the rest it
-- may refuse.
abbrev pub JudgesCertificate : Certificate → List ℕ → Terms → (Judgement → Type 0) → Judgement → Type 0
JudgesCertificate c user t Says j = (alone : Judgement) × Says alone × (j ≡ judged_with c user t alone)

-- ---- what a login is bound to

abbrev pub permits : List CertificateOption → List ℕ → Bool
permits extensions name = is_some (value_of name extensions)

-- what the line and the extensions both permit; of tunnels no extension says anything
abbrev pub both_permit : Permissions → List CertificateOption → Permissions
both_permit p extensions = record {
  port_forwarding = p.port_forwarding && permits extensions (codes "permit-port-forwarding");
  agent_forwarding = p.agent_forwarding && permits extensions (codes "permit-agent-forwarding");
  x11_forwarding = p.x11_forwarding && permits extensions (codes "permit-X11-forwarding");
  pty = p.pty && permits extensions (codes "permit-pty");
  user_rc = p.user_rc && permits extensions (codes "permit-user-rc");
  tunnels = p.tunnels;
}

-- with a certificate that has that command, these extensions, and asks for a touch and for a
-- verified user or not
abbrev pub merged_with : Terms → Option (List ℕ) → List CertificateOption → Bool → Bool → Terms
merged_with t command extensions touch verify = record t {
  command = first_of t.command command;
  permissions = both_permit t.permissions extensions;
  touch_required = t.touch_required || touch;
  verify_required = t.verify_required || verify;
}

-- What both say: a touch and a verified user are asked for if one of them does.
abbrev pub merged : Terms → Certificate → Terms
merged t c = merged_with t (value_of force_command c.signed.critical_options) c.signed.extensions (not (is_some (value_of no_touch_required c.signed.extensions))) (is_some (value_of verify_required c.signed.critical_options))
