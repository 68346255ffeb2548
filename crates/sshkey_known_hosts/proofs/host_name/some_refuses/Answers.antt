use Rattle.std.proofs.Common.{sym, subst, ◌∙◌}
use Rattle.std.specs.Char.{to_ascii_lowercase}
use Rattle.sshkey_entries.specs.Patterns.{MatchesNegated}
use Rattle.sshkey_known_hosts.proofs.Hosts.{none_more, none_of}
use Rattle.sshkey_known_hosts.proofs.host_name.some_refuses.Goals as goal

pub loop-pattern-preserved : goal.loop-pattern-preserved
loop-pattern-preserved c =
    none_more (MatchesNegated to_ascii_lowercase c.args.name.now) c.args.patterns.now c.loop-pattern.pattern-index c.pattern-item.result c.loop-pattern-test.true (sym c.pattern-item.is)
    (λ r. cc (sym c.if-is_refused_by.false ∙ c.is_refused_by.ensures.1 (subst (MatchesNegated to_ascii_lowercase c.args.name.now) (sym c.as_str.ensures) r))) c.loop-pattern.invariant

pub returns : goal.returns
returns c = (λ never. cc never, λ some. absurd (none_of (MatchesNegated to_ascii_lowercase c.args.name.now) c.args.patterns.now c.loop-pattern.pattern-index c.loop-pattern-test.false c.loop-pattern.invariant some))
