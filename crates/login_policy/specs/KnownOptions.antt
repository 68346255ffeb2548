-- The options of user certificates that the policy knows, and the values that sshd(8) reads of them
-- (PROTOCOL.certkeys).
use Rattle.std.specs.Prelude.{◌≡◌, ◌≢◌, ℕ, List, [], ◌∷◌, Contains, codes}
use Rattle.sshkey_matching.specs.SourceAddresses.{IsNetworks}
use Rattle.sshkey_model.specs.Lines.{IsWithout}
use Rattle.sshkey_model.specs.Options.{CertificateOption}

abbrev pub force_command : List ℕ
force_command = codes "force-command"

abbrev pub source_address : List ℕ
source_address = codes "source-address"

abbrev pub verify_required : List ℕ
verify_required = codes "verify-required"

abbrev pub no_touch_required : List ℕ
no_touch_required = codes "no-touch-required"

-- a command
pub record IsArgument (value : List ℕ) : Type 0 where
  pub some : value ≢ []
  pub no_zero : IsWithout 0 value

-- a list of addresses
pub record AreNetworks (value : List ℕ) : Type 0 where
  pub networks : IsNetworks value

-- a command, a list of addresses, or the flag, in which nothing stands
pub data IsKnownOption (o : CertificateOption) : Type 0 where
  Command : o.name ≡ force_command → IsArgument o.value → IsKnownOption o
  Addresses : o.name ≡ source_address → AreNetworks o.value → IsKnownOption o
  Verification : o.name ≡ verify_required → o.value ≡ [] → IsKnownOption o

-- The extensions that are flags.
abbrev pub flags : List (List ℕ)
flags = codes "permit-X11-forwarding" ∷ codes "permit-agent-forwarding" ∷ codes "permit-port-forwarding" ∷ codes "permit-pty" ∷ codes "permit-user-rc" ∷ no_touch_required ∷ []

-- Nothing stands in a flag. Any other extension is to be ignored.
abbrev pub IsEmptyIfFlag : CertificateOption → Type 0
IsEmptyIfFlag o = Contains flags o.name → o.value ≡ []

-- And no byte of the name is 0: sshd drops a zero byte that ends the name, and refuses a name with
-- a zero byte elsewhere.
pub record IsPlainExtension (o : CertificateOption) : Type 0 where
  pub no_zero : IsWithout 0 o.name
  pub empty : IsEmptyIfFlag o
