-- Digests of messages (FIPS 180-4).
use Rattle.std.specs.Prelude.{ℕ}
use Rattle.sshkey_model.specs.Names.{Hash, Sha256, Sha512}

-- how many bytes a digest has
abbrev pub digest_len : Hash → ℕ
digest_len Sha256 = 32
digest_len Sha512 = 64
