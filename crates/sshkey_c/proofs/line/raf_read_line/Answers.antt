use Rattle.std.proofs.Common.{◌≡◌, ℕ, List, arith, refl, rules, subst}
use Rattle.std.proofs.lemmas.Str.{IsUtf8-from_is_utf8}
use Rattle.sshkey_calls.specs.KeyLines.{HoldsContent, NeedsLine, ReadsContent}
use Rattle.sshkey_calls.proofs.KeyLines.{held_text, none_read}
use Rattle.sshkey_c.proofs.line.raf_read_line.Goals as goal

pub returns-in-Ok-clause-reads : goal.returns-in-Ok-clause-reads
returns-in-Ok-clause-reads c =
    let same : c.in-Ok.text.now ≡ c.args.line.now = search rules in
    subst (λ (b : List ℕ). ReadsContent (HoldsContent b) c.read_text.result c.args.answer.now c.read_text.new.answer c.args.room.now c.read_text.new.room) same c.read_text.ensures.reads

pub returns-in-Ok-clause-memory : goal.returns-in-Ok-clause-memory
returns-in-Ok-clause-memory c one =
    let same : c.in-Ok.text.now ≡ c.args.line.now = search rules in
    subst NeedsLine same (c.read_text.ensures.memory one)

pub returns-in-Err-clause-reads : goal.returns-in-Err-clause-reads
returns-in-Err-clause-reads c = none_read 11 _ _ _ _ (refl, refl) (λ _. (omega arith, omega arith)) (λ _ x holds. c.in-Err.ensures.cases.0 (IsUtf8-from_is_utf8 c.args.line.now (held_text c.args.line.now x holds))) (λ e. cc e) (λ e. cc e)
