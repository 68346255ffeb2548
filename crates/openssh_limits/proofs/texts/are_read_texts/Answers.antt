use Rattle.std.proofs.Common.{IsTrue, refl, sym, subst, ◌∙◌, arith}
use Rattle.std.specs.Prelude.{string_bytes}
use Rattle.sshkey_model.specs.Lines.{IsWithout}
use Rattle.openssh_limits.proofs.PlainTexts.{one_more}
use Rattle.openssh_limits.proofs.texts.are_read_texts.Goals as goal

pub returns-then-not-openssh_reads_text : goal.returns-then-not-openssh_reads_text
returns-then-not-openssh_reads_text c = (
  λ never. cc never,
  λ all. cc (sym c.if-not-openssh_reads_text.true
      ∙ c.openssh_reads_text.ensures.1 (subst (IsWithout 0) (sym c.as_str.ensures.value) (subst (λ n. IsWithout 0 (string_bytes n)) (sym c.text-item.is) (all c.loop-text.text-index c.text-item.result c.loop-text-test.true)))),
)

pub loop-text-preserved : goal.loop-text-preserved
loop-text-preserved c =
    let yes : IsTrue c.openssh_reads_text.result = (let h = c.if-not-openssh_reads_text.false in cc) in
    one_more (λ n. IsWithout 0 (string_bytes n)) c.args.texts.now c.loop-text.text-index c.text-item.result c.loop-text-test.true (sym c.text-item.is) (subst (IsWithout 0) c.as_str.ensures.value (c.openssh_reads_text.ensures.0 yes)) c.loop-text.invariant

pub returns : goal.returns
returns c = (λ _ k d l. c.loop-text.invariant k d (omega (arith, l, c.loop-text-test.false)), λ _. refl)
