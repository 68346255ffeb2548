use Rattle.std.proofs.Common.{sym, ◌∙◌}
use Rattle.sshkey_matching.specs.Patterns.{patterns, IsShortPattern, MatchesNegated, fold_of}
use Rattle.sshkey_matching.proofs.PatternLists.{at_last, no_patterns_left, one_less, refused, too_long}
use Rattle.sshkey_matching.proofs.pattern_list.bytes_match_pattern_list.Goals as goal
use Rattle.sshkey_matching.proofs.pattern_list.bytes_match_pattern_list.Goals.{then-not-is_short-via-then-not-is_short, then-not-is_short-via-else-not-is_short+then-refuses}

pub returns-then-not-is_short : goal.returns-then-not-is_short
returns-then-not-is_short c =
    let still = c.patterns.invariant in (
      λ never. cc never,
      λ is.
          let dead : ⊥
          = elim c.then-not-is_short.branch [
            | then-not-is_short-via-then-not-is_short w ↦ too_long _ _ _ _ _ _ c.split_first_pattern.ensures (λ short. cc (sym w.if-not-is_short.true ∙ c.is_short.ensures.1 short)) (still.0 is)
            | then-not-is_short-via-else-not-is_short+then-refuses w ↦ refused _ _ _ _ _ _ c.split_first_pattern.ensures (w.refuses.ensures.0 w.if-refuses.true) (still.0 is)
          ]
          in
          absurd dead,
    )

pub patterns-preserved : goal.patterns-preserved
patterns-preserved c =
    let still = c.patterns.invariant in
    let short : IsShortPattern c.split_first_pattern.result.0.now = c.is_short.ensures.0 (let h = c.if-not-is_short.false in cc) in
    let kept : MatchesNegated (fold_of c.args.letter_case) c.args.text.now c.split_first_pattern.result.0.now → ⊥ = λ r. cc (sym c.if-refuses.false ∙ c.refuses.ensures.1 r) in
    let less = one_less (fold_of c.args.letter_case) c.patterns.is_named c.args.text.now c.split_first_pattern.result.0.now (patterns c.patterns.rest.now) (patterns c.split_first_pattern.result.1.now) c.split_first_pattern.ensures c.names-is_named.result short kept c.names-is_named.ensures in
    (λ is. less.0 (still.0 is), λ more. still.1 (less.1 more))

pub returns : goal.returns
returns c =
    let still = c.patterns.invariant in
    let none = no_patterns_left c.patterns.rest.now c.is_empty.result c.is_empty.ensures (let h = c.patterns-test.false in cc) in
    let last = at_last (fold_of c.args.letter_case) c.patterns.is_named c.args.text.now (patterns c.patterns.rest.now) none in
    (λ found. still.1 (last.1 found), λ is. last.0 (still.0 is))
