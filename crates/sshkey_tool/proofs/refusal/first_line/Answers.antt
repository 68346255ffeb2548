use Rattle.std.proofs.Common.{Some, None, inl, inr, refl, arith}
use Rattle.std.proofs.lemmas.Str.Pattern.{split_parts}
use Rattle.sshkey_tool.proofs.refusal.first_line.Goals as goal

pub returns-in-Some : goal.returns-in-Some
returns-in-Some c = let p = split_parts 10 c.args.text.now (Some (c.in-Some.line, c.in-Some.field-0-1)) c.in-Some.ensures.cases (omega arith) in (p.1, inr (c.in-Some.field-0-1.now, p.0))

pub returns-in-None : goal.returns-in-None
returns-in-None c = (split_parts 10 c.args.text.now None c.in-None.ensures.cases (omega arith), inl refl)
