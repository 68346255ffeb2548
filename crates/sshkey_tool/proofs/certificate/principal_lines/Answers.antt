use Rattle.std.proofs.Common.{◌∙◌, arith}
use Rattle.std.proofs.lemmas.Slice.{pushed}
use Rattle.sshkey_tool.proofs.Lines.{principal_more}
use Rattle.sshkey_tool.proofs.certificate.principal_lines.Goals as goal

pub loop-principal-preserved : goal.loop-principal-preserved
loop-principal-preserved c =
    principal_more c.args.principals.now _ c.principal-item.result c.as_str.result.now _ (omega arith) c.principal-item.is (c.as_str.ensures.value ∙ c.in_ok-line.ensures.ok)
    (pushed c.as_str.result.now c.loop-principal.invariant c.in_ok-push_str.was c.push_str.ensures.bytes)
