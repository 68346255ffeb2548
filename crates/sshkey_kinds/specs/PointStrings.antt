-- Point strings of bounded length.
use Rattle.std.specs.Prelude.{ℕ, length, Err, nat_lt, if◌then◌else◌}
use Rattle.sshkey_model.specs.Reading.{Length, Whole}

-- what the judgement makes of at most n bytes
abbrev pub bounded_from : {A : Type 0} → ℕ → Whole A → Whole A
bounded_from n judge b = if nat_lt n (length b) then Err Length else judge b
