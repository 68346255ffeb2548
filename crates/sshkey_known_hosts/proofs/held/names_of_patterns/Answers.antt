use Rattle.std.proofs.Common.{ℕ, bit_or, inr, subst, sym}
use Rattle.sshkey_matching.proofs.PatternLists.{no_patterns_left}
use Rattle.sshkey_known_hosts.proofs.HeldNames.{AreRead, all_read, among_all, one_read}
use Rattle.sshkey_known_hosts.proofs.held.names_of_patterns.Goals as goal

pub patterns-init : goal.patterns-init
patterns-init c = λ name some. inr some

pub patterns-preserved : goal.patterns-preserved
patterns-preserved c =
    let literal = c.if-not-is_literal.false in
    subst (λ (hash : ℕ). AreRead c.args.text.now (bit_or c.patterns.names hash) c.split_first_pattern.result.1.now) (sym c.name_hash-names.ensures)
    (one_read c.args.text.now c.patterns.rest.now c.split_first_pattern.result.0.now c.split_first_pattern.result.1.now c.patterns.names c.split_first_pattern.ensures (c.is_literal.ensures.star cc) (c.is_literal.ensures.question_mark cc) c.patterns.invariant)

pub returns-then-not-is_literal : goal.returns-then-not-is_literal
returns-then-not-is_literal c = λ name is. among_all name

pub returns : goal.returns
returns c = all_read c.args.text.now c.patterns.rest.now c.patterns.names (no_patterns_left c.patterns.rest.now c.is_empty.result c.is_empty.ensures (let h = c.patterns-test.false in cc)) c.patterns.invariant
