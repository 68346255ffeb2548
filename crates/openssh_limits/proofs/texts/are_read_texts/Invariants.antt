use Rattle.std.proofs.Common.{ℕ, ◌<◌, Global, get_or}
use Rattle.std.specs.Prelude.{String, string_bytes}
use Rattle.sshkey_model.specs.Lines.{IsWithout}
use Rattle.openssh_limits.proofs.texts.are_read_texts.Given as goal

-- none of the names so far has one
abbrev pub invariant-loop-text : goal.invariant-loop-text
invariant-loop-text l = (k : ℕ) (d : String Global) → k < l.text-index → IsWithout 0 (string_bytes (get_or l.texts k d))
