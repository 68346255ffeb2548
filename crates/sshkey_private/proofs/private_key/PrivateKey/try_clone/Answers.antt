use Rattle.std.proofs.Common.{refl, ap}
use Rattle.sshkey_private.proofs.private_key.PrivateKey.try_clone.Goals as goal

pub invariant_of-result : goal.invariant_of-result
invariant_of-result c =
    let pair = c.in_ok-try_clone-3.ensures in
    record { form = rw (pair.value, ap (λ f. f.1.1) pair.fields, c.in_ok-try_clone.ensures.value, c.in_ok-try_clone-2.ensures.value) c.args.self.now.form }

pub returns-clause-value : goal.returns-clause-value
returns-clause-value c =
    let pair = c.in_ok-try_clone-3.ensures in
    rw (pair.value, ap (λ f. f.1.1) pair.fields, c.in_ok-try_clone.ensures.value, c.in_ok-try_clone-2.ensures.value, c.in_ok-try_clone-2.ensures.comment) refl

pub returns-clause-algorithm : goal.returns-clause-algorithm
returns-clause-algorithm c = c.in_ok-try_clone-2.ensures.algorithm

pub returns-clause-comment : goal.returns-clause-comment
returns-clause-comment c = c.in_ok-try_clone-2.ensures.comment
