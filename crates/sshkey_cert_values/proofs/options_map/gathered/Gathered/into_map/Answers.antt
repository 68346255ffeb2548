use Rattle.std.proofs.Common.{rules}
use Rattle.std.specs.BTreeMap.{IsFromIterResult}
use Rattle.std.specs.String.{string_cmp}
use Rattle.std.proofs.lemmas.Iterator.Adapters.{YieldsList-from_vec, fact_from_collect}
use Rattle.std.proofs.lemmas.Result.{IfOk-at_ok}
use Rattle.sshkey_cert_values.proofs.OptionNames.{built}
use Rattle.sshkey_cert_values.proofs.options_map.gathered.Gathered.into_map.Goals as goal

pub returns-in_ok-options-in-Many-clause-value : goal.returns-in_ok-options-in-Many-clause-value
returns-in_ok-options-in-Many-clause-value c =
    let road = YieldsList-from_vec {s = c.into_iter.result} c.in-Many.pairs.items (search rules) (search rules) in
    let made = fact_from_collect (λ es m. IsFromIterResult string_cmp es m) c.collect.result c.collect.ensures.ran road in
    rw c.in-Many.is (built c.in_ok-options-in-Many.options c.in-Many.pairs.items (rw c.in-Many.is at c.requires) (IfOk-at_ok (λ m. IsFromIterResult string_cmp c.in-Many.pairs.items m) c.in_ok-options-in-Many.was made))
