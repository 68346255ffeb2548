use Rattle.sshkey_matching.specs.Patterns.{fold_of}
use Rattle.sshkey_matching.proofs.Matching.{goes_further}
use Rattle.sshkey_matching.proofs.pattern.after_front.Goals as goal

pub characters-preserved : goal.characters-preserved
characters-preserved c =
    goes_further (fold_of c.args.letter_case) c.args.pattern.now c.args.text.now c.characters.rest.now c.characters.left.now _ _ _ _ c.in-Some.ensures.cases.0 c.in-Some-split_first.ensures.cases.0 c.if-character-eq42.false
    ((c.stands_for.ensures c.if-character-eq42.false).0 c.if-not-stands_for.false) c.characters.invariant
