use Rattle.sshkey_calls.proofs.Options.{ends, finds, is_past, none_there, short_enough}
use Rattle.sshkey_calls.proofs.Places.{whole_slice}
use Rattle.sshkey_c.proofs.parts.raf_next_certificate_option.Goals as goal

pub returns-then-place-bytes : goal.returns-then-place-bytes
returns-then-place-bytes c = ends c.args.bytes.now c.args.place c.args.answer.now c.if-place-bytes.true

pub returns-then-bytes-place : goal.returns-then-bytes-place
returns-then-bytes-place c = is_past c.args.bytes.now c.args.place c.args.answer.now c.if-bytes-place.true

pub overflow_sub-answer : goal.overflow_sub-answer
overflow_sub-answer c = short_enough c.args.bytes.now c.args.place c.in-Some.name.now c.in-Some.value.now c.in-Some.after.now (rw (whole_slice c.args.bytes.now c.args.place) at c.in-Some.ensures.split)

pub returns-in-Some : goal.returns-in-Some
returns-in-Some c = finds c.args.bytes.now c.args.place c.in-Some.name.now c.in-Some.value.now c.in-Some.after.now (rw (whole_slice c.args.bytes.now c.args.place) at c.in-Some.ensures.split) _ c.if-place-bytes.false

pub returns-in-None : goal.returns-in-None
returns-in-None c = none_there c.args.bytes.now c.args.place c.args.answer.now c.if-place-bytes.false (rw (whole_slice c.args.bytes.now c.args.place) at c.in-None.ensures.none)
