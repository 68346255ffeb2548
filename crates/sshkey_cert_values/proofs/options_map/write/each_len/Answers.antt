use Rattle.std.proofs.Common.{arith}
use Rattle.std.proofs.lemmas.Map.Iter.{rest_more, rest_all}
use Rattle.std.proofs.lemmas.Result.{err_from_is_err_and}
use Rattle.std.specs.Map.Iter.{deref_pair}
use Rattle.sshkey_cert_values.proofs.WrittenFields.{len_more, len_misfit, len_past, len_end}
use Rattle.sshkey_cert_values.proofs.options_map.write.each_len.Goals as goal

pub returns-in_err-encoded_len : goal.returns-in_err-encoded_len
returns-in_err-encoded_len c =
    let p = err_from_is_err_and c.from_residual.result c.from_residual.ensures.1 in
    let m = rw (c.as_str.ensures.value, c.as_str-in-loop-name.ensures.value) at c.in_err-encoded_len.ensures.measures in
    let rest = rest_more deref_pair _ _ _ (c.in-Some.name, c.in-Some.value) c.in-Some.is c.next.ensures.steps in
    rw (p.1, p.2) (len_misfit _ _ _ _ rest _ c.loop-name.invariant m.0, m.1)

pub returns-in_err-len : goal.returns-in_err-len
returns-in_err-len c =
    let p = err_from_is_err_and c.from_residual-in_err-len.result c.from_residual-in_err-len.ensures.1 in
    let m = rw (c.as_str.ensures.value, c.as_str-in-loop-name.ensures.value) at c.in_ok-encoded_len.ensures.measures in
    let rest = rest_more deref_pair _ _ _ (c.in-Some.name, c.in-Some.value) c.in-Some.is c.next.ensures.steps in
    rw (p.1, p.2) (len_past _ _ _ _ rest _ c.loop-name.invariant _ m.1 (omega (arith, c.in_err-len.ensures.0)), c.in_err-len.ensures.1)

pub loop-name-preserved : goal.loop-name-preserved
loop-name-preserved c =
    let m = rw (c.as_str.ensures.value, c.as_str-in-loop-name.ensures.value) at c.in_ok-encoded_len.ensures.measures in
    let rest = rest_more deref_pair _ _ _ (c.in-Some.name, c.in-Some.value) c.in-Some.is c.next.ensures.steps in
    len_more _ _ _ _ rest _ c.loop-name.invariant _ _ m (omega (arith, c.in_ok-len.ensures.0, c.in_ok-len.ensures.1)) (omega (arith, c.in_ok-len.ensures.0, c.in_ok-len.ensures.1))

pub returns : goal.returns
returns c = len_end _ _ _ (rest_all deref_pair _ _ _ c.in-None.is c.next.ensures.steps) c.loop-name.invariant
