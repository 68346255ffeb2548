use Rattle.std.proofs.Common.{◌∙◌, sym}
use Rattle.allowed_signers.proofs.Fronts.{one_word, quoted_word}
use Rattle.allowed_signers.proofs.line.split_word.Goals as goal

pub returns-then-not-is_without : goal.returns-then-not-is_without
returns-then-not-is_without c = quoted_word c.args.line.now c.split_blank.result.0.now c.split_blank.result.1.now c.split_blank.ensures (λ plain. cc (sym c.if-not-is_without.true ∙ c.is_without.ensures.1 plain))

pub returns : goal.returns
returns c = (
  (c.is_without.ensures.0 c.if-not-is_without.false, c.split_blank.ensures),
  one_word c.args.line.now c.split_blank.result.0.now c.split_blank.result.1.now c.split_blank.ensures,
)
