use Rattle.std.proofs.Common.{◌≡◌, List, subst, sym, true, ℕ}
use Rattle.std.specs.List.{Any}
use Rattle.sshkey_keys.specs.Keys.{key_of}
use Rattle.allowed_signers.specs.AllowedSigners.{AllowsSigner}
use Rattle.allowed_signers.proofs.Decisions.{later, not_first}
use Rattle.allowed_signers.proofs.signers.is_allowed.Goals as goal

pub loop-line-preserved : goal.loop-line-preserved
loop-line-preserved c =
    let Here : List ℕ → Type 0 = λ line. AllowsSigner c.args.identity.now c.args.namespace.now c.args.unix_timestamp (key_of c.args.key.now) line in
    let step = c.in-Some.ensures.steps in
    let none : Here c.in-Some.line.now → ⊥ = λ a. let yes : c.in_ok-allowed.allowed ≡ true = c.in_ok-allowed.ensures.answer.1 a in absurd cc in (
      tt,
      tt,
      λ any. c.loop-line.invariant.2 (subst (Any Here) (sym step) (later Here c.in-Some.line.now c.next.new.self any)),
      λ any. not_first Here c.in-Some.line.now c.next.new.self none (subst (Any Here) step (c.loop-line.invariant.3 any)),
    )
