use Rattle.std.proofs.Common.{◌≡◌, true}
use Rattle.login_policy.proofs.KnownOptions.{addresses, command, nothing, unknown, verification}
use Rattle.login_policy.proofs.options.is_known.Goals as goal

pub returns-then-is_same : goal.returns-then-is_same
returns-then-is_same c = command (record { name = c.args.name.now; value = c.args.value.now }) c.is_argument.result (c.is_same.ensures.0 c.if-is_same.true) c.is_argument.ensures

pub returns-then-is_same-2 : goal.returns-then-is_same-2
returns-then-is_same-2 c = addresses (record { name = c.args.name.now; value = c.args.value.now }) c.is_source_list.result (c.is_same-2.ensures.0 c.if-is_same-2.true) c.is_source_list.ensures

pub returns-then-is_same-3 : goal.returns-then-is_same-3
returns-then-is_same-3 c = verification (record { name = c.args.name.now; value = c.args.value.now }) c.is_empty.result (c.is_same-3.ensures.0 c.if-is_same-3.true) (nothing c.args.value.now c.is_empty.result c.is_empty.ensures)

pub returns : goal.returns
returns c =
    unknown (record { name = c.args.name.now; value = c.args.value.now })
    (λ same. let yes : c.is_same.result ≡ true = c.is_same.ensures.1 same in absurd cc)
    (λ same. let yes : c.is_same-2.result ≡ true = c.is_same-2.ensures.1 same in absurd cc)
    (λ same. let yes : c.is_same-3.result ≡ true = c.is_same-3.ensures.1 same in absurd cc)
