use Rattle.std.proofs.Common.{◌≡◌, ◌++◌}
use Rattle.std.specs.Prelude.{string_bytes}
use Rattle.sshkey_tool.proofs.Lines.{options_shown}
use Rattle.sshkey_tool.proofs.certificate.option_lines.Given as goal

-- those so far and those of the rest are all lines
abbrev pub invariant-loop-name : goal.invariant-loop-name
invariant-loop-name l = string_bytes l.lines ++ options_shown l.kind l.name-iterator ≡ options_shown l.kind l.options.0.entries
