use Rattle.std.proofs.Common.{◌≡◌, slice_index, rules}
use Rattle.sshkey_matching.specs.Patterns.{fold_of}
use Rattle.sshkey_matching.proofs.Matching.{after_star}
use Rattle.sshkey_matching.proofs.pattern.is_match.Goals as goal

pub returns-in_default-after_first : goal.returns-in_default-after_first
returns-in_default-after_first c =
    let first : slice_index c.stars.rest.now 0 ≡ 0x2a = search rules in
    let star = after_star (fold_of c.args.letter_case) c.stars.rest.now c.stars.left.now c.in-42.len_at_least first in
    (λ never. cc never, λ m. absurd (c.in_default-after_first.ensures (star.0 (c.stars.invariant.same.0 m))))

pub stars-preserved : goal.stars-preserved
stars-preserved c =
    let first : slice_index c.stars.rest.now 0 ≡ 0x2a = search rules in
    let star = after_star (fold_of c.args.letter_case) c.stars.rest.now c.stars.left.now c.in-42.len_at_least first in
    let found = c.in-Some.ensures in
    record {
      same = (λ m. found.same.0 (star.0 (c.stars.invariant.same.0 m)), λ m. c.stars.invariant.same.1 (star.1 (found.same.1 m)));
      stuck = found.stuck;
    }
