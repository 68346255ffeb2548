-- From a verdict to an answer.
use Rattle.std.proofs.Common.{◌≡◌, ◌↔◌, Bool, true, false, Result, Ok, Err, IsTrue, IfOk, refl, inl, inr}
use Rattle.ssh_key.specs.base.Judgements.{AcceptsExactly}
use Rattle.ssh_key.specs.types.Error.{Error}
use Rattle.sshkey_examples.specs.Signed.{AnswersYesOrNo}

is_no : false ≡ true → ⊥
is_no same = cc

-- Where a verdict is Ok exactly if A holds, out of memory aside, and A says the same as P, the
-- answer is whether P holds.
pub answered : (A P : Type 0) (verdict : Result (Unit {0}) Error) (answer : Result Bool Error) → (A → P) → (P → A) → AcceptsExactly A verdict → AnswersYesOrNo verdict answer → IfOk answer (λ yes. IsTrue yes ↔ P)
answered A P (Ok x) answer to from holds is = rw is (λ yes. to holds, λ p. refl)
answered A P (Err e) answer to from refused (inl memory) = rw memory.1 tt
answered A P (Err e) answer to from refused (inr other) = rw other.1 (λ yes. absurd (is_no yes), λ p. absurd (refused other.0 (from p)))
