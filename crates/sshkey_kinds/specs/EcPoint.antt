-- What points mean.
use Rattle.std.specs.Prelude.{ℕ, List, take}
use Rattle.sshkey_kinds.specs.declared.ec_point.EcPoint.{EcPoint}

-- its bytes
abbrev pub point_of : {n : ℕ} → EcPoint n → List ℕ
point_of p = take p.len p.bytes
