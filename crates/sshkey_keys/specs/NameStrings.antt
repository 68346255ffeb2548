-- A name that stands with its length before it (RFC 4251, section 5).
use Rattle.std.specs.Prelude.{◌≡◌, ℕ, ◌<◌, ◌^◌, List, true, ◌++◌, length}
use Rattle.std.specs.Int.{w32, to_be_bytes}
use Rattle.sshkey_model.specs.Parts.{are_bytes}

-- The bytes are the string of the name.
pub record IsStringOf (name bytes : List ℕ) : Type 0 where
  pub whole : bytes ≡ to_be_bytes w32 (length name) ++ name
  pub short : length name < 2 ^ 32
  pub are : are_bytes name ≡ true
