use Rattle.std.proofs.Common.{◌≡◌, ◌++◌, length, string_bytes}
use denote.Text.{Utf8}
use denote.Shadow.{shadow}
use Rattle.sshkey_entries.specs.OptionItems.{unescaped}
use Rattle.sshkey_authorized_keys.proofs.option_syntax.unescaped.Given as goal

-- what was copied, and what is left
abbrev pub invariant-parts : goal.invariant-parts
invariant-parts l = shadow (Utf8 l.rest) × (unescaped l.text ≡ string_bytes l.value ++ unescaped l.rest)

abbrev pub decreases-parts : goal.decreases-parts
decreases-parts l = length l.rest
