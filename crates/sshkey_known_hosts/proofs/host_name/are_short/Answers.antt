use Rattle.std.proofs.Common.{IsTrue, refl, sym, subst, ◌∙◌, arith}
use Rattle.sshkey_entries.specs.Patterns.{IsShortPattern}
use Rattle.sshkey_known_hosts.proofs.Hosts.{one_more}
use Rattle.sshkey_known_hosts.proofs.host_name.are_short.Goals as goal

pub returns-then-not-is_short_pattern : goal.returns-then-not-is_short_pattern
returns-then-not-is_short_pattern c = (
  λ never. cc never,
  λ all. cc (sym c.if-not-is_short_pattern.true
      ∙ c.is_short_pattern.ensures.1 (subst IsShortPattern (sym (c.as_str.ensures ∙ c.pattern-item.is)) (all c.loop-pattern.pattern-index c.pattern-item.result c.loop-pattern-test.true))),
)

pub loop-pattern-preserved : goal.loop-pattern-preserved
loop-pattern-preserved c =
    let yes : IsTrue c.is_short_pattern.result = (let h = c.if-not-is_short_pattern.false in cc) in
    one_more IsShortPattern c.args.patterns.now c.loop-pattern.pattern-index c.pattern-item.result c.loop-pattern-test.true (sym c.pattern-item.is) (subst IsShortPattern c.as_str.ensures (c.is_short_pattern.ensures.0 yes)) c.loop-pattern.invariant

pub returns : goal.returns
returns c = (λ _ k d l. c.loop-pattern.invariant k d (omega (arith, l, c.loop-pattern-test.false)), λ _. refl)
