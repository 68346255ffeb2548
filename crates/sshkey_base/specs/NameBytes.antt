-- What is read of a string that may be a name.
use Rattle.std.specs.Prelude.{ℕ, List, length, nat_le, Option, Some, None, option_map, Ok, if◌then◌else◌}
use Rattle.sshkey_model.specs.Reading.{◌>>=◌, Front, bytes_at}
use Rattle.sshkey_base.specs.declared.short_bytes.ShortBytes.{ShortBytes}
use Rattle.sshkey_base.specs.ShortBytes.{short_of}

-- the bytes, if they are not too many for a name
abbrev pub not_too_long : List ℕ → Option (List ℕ)
not_too_long b = if nat_le (length b) 73 then Some b else None

abbrev pub name_of : Option (ShortBytes 73) → Option (List ℕ)
name_of = option_map short_of

-- the next n bytes, if they are not too many for a name
unfoldable pub name_at : ℕ → Front (Option (List ℕ))
name_at n b = do
  x ← bytes_at n b
  Ok (not_too_long x.0, x.1)

-- the next n bytes, none of them kept
unfoldable pub passed_at : ℕ → Front (Unit {0})
passed_at n b = do
  x ← bytes_at n b
  Ok (tt, x.1)
