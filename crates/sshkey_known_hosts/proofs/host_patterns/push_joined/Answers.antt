use Rattle.std.proofs.Common.{sym, ap, ◌∙◌, ◌++◌, List, ℕ, arith, string_bytes}
use Rattle.sshkey_known_hosts.proofs.Entries.{grown, begun}
use Rattle.sshkey_known_hosts.proofs.host_patterns.push_joined.Goals as goal
use Rattle.sshkey_known_hosts.proofs.host_patterns.push_joined.Goals.{then-index-gt0+in_ok-push, else-index-gt0}

pub loop-index-preserved : goal.loop-index-preserved
loop-index-preserved c =
    let added = c.in_ok-push_str.ensures.bytes ∙ ap (λ (l : List ℕ). string_bytes c.if-index-gt0.text ++ l) c.as_str.ensures in
    elim c.if-index-gt0.branch [
      | then-index-gt0+in_ok-push w ↦ grown 0x2c c.loop-index.index c.args.patterns.now (string_bytes c.args.text.now) c.index-patterns-index.result (string_bytes c.loop-index.text) (string_bytes c.if-index-gt0.text) _ c.loop-index-test.true (sym c.index-patterns-index.is) c.loop-index.invariant added w.if-index-gt0.true
          (ap string_bytes w.text-is ∙ w.in_ok-push.ensures.bytes ∙ ap (λ (l : List ℕ). string_bytes c.loop-index.text ++ l) (w.in_ok-push.ensures.ascii (omega arith)))
      | else-index-gt0 w ↦ begun 0x2c c.loop-index.index c.args.patterns.now (string_bytes c.args.text.now) c.index-patterns-index.result (string_bytes c.loop-index.text) (string_bytes c.if-index-gt0.text) _ c.loop-index-test.true (sym c.index-patterns-index.is) c.loop-index.invariant added (omega (arith, w.if-index-gt0.false))
          (ap string_bytes w.text-is)
    ]
