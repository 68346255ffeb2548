-- Which bytes name a kind of key that OpenSSH reads or read, and that is none here (PROTOCOL.u2f and
-- sshkey.c of OpenSSH).
use Rattle.std.specs.List.{starts_with}
use Rattle.std.specs.Prelude.{◌≡◌, ◌<◌, ◌||◌, ℕ, List, ◌∷◌, length, codes, drop, Bool, true, eqb}

-- The bytes begin with the name of such a kind, of its certificates or of its signatures, as a
-- string: four bytes of length, and the name.
abbrev pub begins_with_later_kind : List ℕ → Bool
begins_with_later_kind bytes =
    starts_with eqb bytes (0 ∷ 0 ∷ 0 ∷ 19 ∷ codes "ssh-mldsa44-ed25519")
    || starts_with eqb bytes (0 ∷ 0 ∷ 0 ∷ 24 ∷ codes "ssh-mldsa44-ed25519-cert")
    || starts_with eqb bytes (0 ∷ 0 ∷ 0 ∷ 43 ∷ codes "webauthn-sk-ecdsa-sha2-nistp256@openssh.com")
    || starts_with eqb bytes (0 ∷ 0 ∷ 0 ∷ 52 ∷ codes "webauthn-sk-ecdsa-sha2-nistp256-cert-v01@openssh.com")
    || starts_with eqb bytes (0 ∷ 0 ∷ 0 ∷ 20 ∷ codes "ssh-xmss@openssh.com")
    || starts_with eqb bytes (0 ∷ 0 ∷ 0 ∷ 29 ∷ codes "ssh-xmss-cert-v01@openssh.com")

-- They do from some place on.
pub record NamesLaterKind (bytes : List ℕ) : Type 0 where
  pub place : ℕ
  pub within : place < length bytes
  pub begins : begins_with_later_kind (drop place bytes) ≡ true
