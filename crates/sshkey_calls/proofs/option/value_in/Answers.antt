use Rattle.std.proofs.Common.{◌≡◌, ◌≢◌, length, rules}
use Rattle.sshkey_calls.proofs.Options.{empty_value, more_after, no_string}
use Rattle.sshkey_calls.proofs.option.value_in.Goals as goal

pub returns-then-is_empty-clause-value : goal.returns-then-is_empty-clause-value
returns-then-is_empty-clause-value c =
    let e : length c.args.string.now ≡ 0 = search rules in
    empty_value c.args.string.now e

pub returns-else-is_empty-2-clause-none : goal.returns-else-is_empty-2-clause-none
returns-else-is_empty-2-clause-none c =
    let some : length c.args.string.now ≢ 0 = search rules in
    let more : length c.in-Ok.rest.now ≢ 0 = search rules in
    more_after c.args.string.now some c.in-Ok.value.now c.in-Ok.rest.now c.in-Ok.ensures.accepts more

pub returns-in-Err-clause-none : goal.returns-in-Err-clause-none
returns-in-Err-clause-none c =
    let some : length c.args.string.now ≢ 0 = search rules in
    no_string c.args.string.now some c.in-Err.ensures.accepts
