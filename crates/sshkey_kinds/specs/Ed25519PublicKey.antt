-- The bytes of an Ed25519 key (RFC 8709, section 4).
use Rattle.std.specs.Prelude.{ℕ, ◌==◌, List, length, Ok, Err, if◌then◌else◌}
use Rattle.sshkey_model.specs.Reading.{Whole, Length}

-- the bytes, if there are 32
abbrev pub ed25519_from : Whole (List ℕ)
ed25519_from b = if length b == 32 then Ok b else Err Length
