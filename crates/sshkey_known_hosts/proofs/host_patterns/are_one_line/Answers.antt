use Rattle.std.proofs.Common.{IsTrue, refl, sym, subst, ◌∙◌, arith}
use Rattle.sshkey_public.specs.WrittenLines.{IsOneLine}
use Rattle.sshkey_known_hosts.proofs.Hosts.{one_more}
use Rattle.sshkey_known_hosts.proofs.host_patterns.are_one_line.Goals as goal

pub returns-then-not-is_one_line : goal.returns-then-not-is_one_line
returns-then-not-is_one_line c = (
  λ never. cc never,
  λ all. cc (sym c.if-not-is_one_line.true
      ∙ c.is_one_line.ensures.1 (subst IsOneLine (sym (c.as_str.ensures ∙ c.text-item.is)) (all c.loop-text.text-index c.text-item.result c.loop-text-test.true))),
)

pub loop-text-preserved : goal.loop-text-preserved
loop-text-preserved c =
    let yes : IsTrue c.is_one_line.result = (let h = c.if-not-is_one_line.false in cc) in
    one_more IsOneLine c.args.texts.now c.loop-text.text-index c.text-item.result c.loop-text-test.true (sym c.text-item.is) (subst IsOneLine c.as_str.ensures (c.is_one_line.ensures.0 yes)) c.loop-text.invariant

pub returns : goal.returns
returns c = (λ _ k d l. c.loop-text.invariant k d (omega (arith, l, c.loop-text-test.false)), λ _. refl)
