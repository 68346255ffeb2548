use Rattle.std.proofs.Common.{◌++◌, ℕ, List, ap, ◌∙◌}
use Rattle.sshkey_base.specs.Causes.{encoding_cause}
use Rattle.sshkey_terms.proofs.SliceFronts.{answers_ok}
use Rattle.sshkey_calls.proofs.Places.{ends, finds, is_past, whole_slice}
use Rattle.sshkey_c.proofs.walk.raf_next_string.Goals as goal

pub returns-then-place-bytes : goal.returns-then-place-bytes
returns-then-place-bytes c = ends c.args.bytes.now c.args.place c.args.answer.now c.if-place-bytes.true

pub returns-then-bytes-place : goal.returns-then-bytes-place
returns-then-bytes-place c = is_past c.args.bytes.now c.args.place c.args.answer.now c.if-bytes-place.true

pub returns-in-Ok : goal.returns-in-Ok
returns-in-Ok c =
    let split = rw (whole_slice c.args.bytes.now c.args.place) at c.in-Ok.ensures.accepts in
    let gives = rw (whole_slice c.args.bytes.now c.args.place) at c.in-Ok.ensures.gives in
    finds c.args.bytes.now c.in-Ok.string.now _ c.args.place _ (split.all ∙ ap (λ (x : List ℕ). x ++ c.in-Ok.field-0-1.now) split.spelled.shape) (answers_ok _ encoding_cause _ _ gives)
