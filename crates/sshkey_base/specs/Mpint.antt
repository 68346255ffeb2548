-- What an `Mpint` means.
use Rattle.std.specs.Prelude.{ℕ, List}
use Rattle.sshkey_base.specs.declared.mpint.Mpint.{Mpint}

-- its bytes
abbrev pub mpint_of : Mpint → List ℕ
mpint_of m = m.bytes
