use Rattle.std.proofs.Common.{◌≡◌, length, map, string_bytes}
use denote.Shadow.{shadow}
use denote.Text.{Utf8}
use Rattle.sshkey_matching.specs.SourceAddresses.{pieces}
use Rattle.user_keys.specs.Certificates.{first_listed}
use Rattle.user_keys.proofs.names.first_listed.Given as goal

-- of the names that are left the first that is listed is the first of all
abbrev pub invariant-names : goal.invariant-names
invariant-names l = (first_listed (map string_bytes l.listed) (pieces l.list) ≡ first_listed (map string_bytes l.listed) (pieces l.rest)) × shadow (Utf8 l.rest)

abbrev pub decreases-names : goal.decreases-names
decreases-names l = length (pieces l.rest)
