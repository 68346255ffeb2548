use Rattle.std.proofs.Common.{◌≡◌, take}
use Rattle.std.specs.Prelude.{string_bytes}
use Rattle.sshkey_tool.proofs.Lines.{shown}
use Rattle.sshkey_tool.proofs.certificate.principal_lines.Given as goal

-- the lines of those so far
abbrev pub invariant-loop-principal : goal.invariant-loop-principal
invariant-loop-principal l = string_bytes l.lines ≡ shown (take l.principal-index l.principals)
