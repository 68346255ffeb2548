use Rattle.std.proofs.lemmas.Map.Iter.{rest_more, rest_all}
use Rattle.std.proofs.lemmas.Result.{err_from_is_err_and}
use Rattle.std.specs.Map.Iter.{deref_pair}
use Rattle.sshkey_cert_values.proofs.WrittenFields.{decides_more, decides_refused, decides_end}
use Rattle.sshkey_cert_values.proofs.options_map.write.encode_each.Goals as goal

pub loop-name-preserved : goal.loop-name-preserved
loop-name-preserved g c =
    let w = rw (c.as_str.ensures.value, c.as_str-in-loop-name.ensures.value) at c.in_ok-encode.ensures in
    let rest = rest_more deref_pair _ _ _ (c.in-Some.name, c.in-Some.value) c.in-Some.is c.next.ensures.steps in
    decides_more _ g.W.Writer.fault _ _ _ _ _ rest c.loop-name.invariant _ w

pub returns-in_err-encode : goal.returns-in_err-encode
returns-in_err-encode g c =
    let p = err_from_is_err_and c.from_residual.result c.from_residual.ensures.1 in
    let w = rw (c.as_str.ensures.value, c.as_str-in-loop-name.ensures.value) at c.in_err-encode.ensures in
    let rest = rest_more deref_pair _ _ _ (c.in-Some.name, c.in-Some.value) c.in-Some.is c.next.ensures.steps in
    rw (p.1, p.2) (decides_refused _ g.W.Writer.fault _ _ _ _ _ rest c.loop-name.invariant _ _ w)

pub returns : goal.returns
returns g c = decides_end _ g.W.Writer.fault _ _ _ (rest_all deref_pair _ _ _ c.in-None.is c.next.ensures.steps) c.loop-name.invariant
