use Rattle.std.proofs.Common.{sym, ◌∙◌}
use Rattle.sshkey_krl.specs.Revocation.{begun}
use Rattle.sshkey_krl.proofs.Grown.{begins, spelled_is, spelled_taken}
use Rattle.sshkey_krl.proofs.krl.Krl.new.Goals as goal

pub invariant_of-result : goal.invariant_of-result
invariant_of-result c =
    let some = rw c.as_bytes.ensures.value at (sym c.contains.ensures.value ∙ c.if-contains.false) in
    record { form = spelled_taken (begun c.args.number c.args.date c.args.comment.now) c.in_ok-bytes.bytes.items (begins c.args.number c.args.date c.args.comment.now c.in_ok-bytes.bytes.items some c.in_ok-bytes.ensures.0 c.in_ok-bytes.ensures.1) }

pub returns-clause-begins : goal.returns-clause-begins
returns-clause-begins c = λ some. (spelled_is (begun c.args.number c.args.date c.args.comment.now) c.in_ok-bytes.bytes.items (begins c.args.number c.args.date c.args.comment.now c.in_ok-bytes.bytes.items some c.in_ok-bytes.ensures.0 c.in_ok-bytes.ensures.1), c.in_ok-bytes.ensures.1)
