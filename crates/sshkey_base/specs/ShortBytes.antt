-- What short byte strings mean.
use Rattle.std.specs.Prelude.{ℕ, List, take}
use Rattle.sshkey_base.specs.declared.short_bytes.ShortBytes.{ShortBytes}

-- the bytes
abbrev pub short_of : {n : ℕ} → ShortBytes n → List ℕ
short_of b = take b.len b.bytes
