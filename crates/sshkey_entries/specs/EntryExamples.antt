-- Worked examples: entries, over the line of a small RSA key.
use Rattle.std.specs.Prelude.{◌≡◌, ℕ, List, [], ◌∷◌, ◌++◌, Option, None, Some, codes}
use Rattle.sshkey_model.specs.HexText.{hex}
use Rattle.sshkey_model.specs.KeyExamples.{rsa_key}
use Rattle.sshkey_model.specs.LineExamples.{rsa_line}
use Rattle.sshkey_entries.specs.AuthorizedKeys.{AuthorizedKey, IsAuthorizedKey, authorized_text}
use Rattle.sshkey_entries.specs.Entries.{IsNoEntry}
use Rattle.sshkey_entries.specs.KnownHosts.{Marker, Revoked, Patterns, HashedName, IsHosts, KnownHost, IsKnownHost, known_text}

abbrev pub authorized : List ℕ → List ℕ → AuthorizedKey
authorized options comment = record { options = options; key = rsa_key; comment = comment }

-- Options need a comment after the key, or at least a space; without, the line is a key's or
-- nothing.
abbrev pub Options : Type 0
Options = IsAuthorizedKey rsa_line (authorized [] [])
    × IsAuthorizedKey (rsa_line ++ codes " me") (authorized [] (codes "me"))
    × IsAuthorizedKey (codes "no-pty " ++ rsa_line ++ codes " me") (authorized (codes "no-pty") (codes "me"))
    × IsAuthorizedKey (codes "no-pty " ++ rsa_line ++ codes " ") (authorized (codes "no-pty") [])
    × IsNoEntry IsAuthorizedKey (codes "no-pty " ++ rsa_line)
    × IsNoEntry IsAuthorizedKey (codes "key")
    × (authorized_text (authorized (codes "no-pty") (codes "me")) ≡ codes "no-pty " ++ rsa_line ++ codes " me")
    × (authorized_text (authorized [] []) ≡ rsa_line)

abbrev pub host : Option Marker → KnownHost
host m = record { marker = m; hosts = Patterns (codes "h" ∷ []); key = rsa_key; comment = [] }

-- Another marker is none, a marker stands at the front alone, and hosts are some text.
abbrev pub Marked : Type 0
Marked = IsKnownHost (codes "h " ++ rsa_line) (host None)
    × IsKnownHost (codes "@revoked h " ++ rsa_line) (host (Some Revoked))
    × IsNoEntry IsKnownHost (codes "@gibberish h " ++ rsa_line)
    × IsNoEntry IsKnownHost (codes "h @revoked " ++ rsa_line)
    × IsNoEntry IsKnownHost (codes " " ++ rsa_line)
    × (known_text (host (Some Revoked)) ≡ codes "@revoked h " ++ rsa_line)
    × (known_text (host None) ≡ codes "h " ++ rsa_line)

abbrev pub salt : List ℕ
salt = hex "25f29374187bacd6d7915010091a78390a0f7e62"

abbrev pub hash : List ℕ
hash = hex "512102af74967f52543ec9ace40a9f0f941fc643"

-- A hash has 20 bytes, and hosts are some text.
abbrev pub HashedHosts : Type 0
HashedHosts = IsHosts (codes "|1|JfKTdBh7rNbXkVAQCRp4OQoPfmI=|USECr3SWf1JUPsms5AqfD5QfxkM=") (HashedName salt hash)
    × IsNoEntry IsHosts (codes "|1|AAAA|AAAAAAAAAAAAAAAAAAAAAAAAAA==")
    × IsNoEntry IsHosts []
