-- What contracts see of a list that is a slice.
use Rattle.std.specs.Prelude.{ℕ, List}
use Rattle.sshkey_krl.specs.Krls.{krl_in}
use Rattle.sshkey_krl.specs.Revocation.{Krl}
use Rattle.sshkey_krl.specs.declared.krl_ref.KrlRef.{KrlRef}

-- the bytes that spell it
abbrev pub krl_bytes : KrlRef → List ℕ
krl_bytes k = k.bytes.now

-- the list that they spell
abbrev pub krl_of : KrlRef → Krl
krl_of k = krl_in k.bytes.now
