use Rattle.std.proofs.Common.{rules, bytes_eq, List, ℕ}
use Rattle.std.proofs.lemmas.Iterator.Search.{any_from_yields_List}
use Rattle.std.proofs.lemmas.Iterator.Splits.{YieldsList-from_slice_split}
use Rattle.sshkey_entries.specs.Items.{is_comma}
use Rattle.sshkey_entry_calls.proofs.authorities.is_listed.Goals as goal

pub returns : goal.returns
returns c =
    let pieces = YieldsList-from_slice_split _ is_comma c.args.list.now c.split.ensures.rest c.split.ensures.done c.split.ensures.closure (λ x b q. search rules) in
    any_from_yields_List (λ (name : List ℕ). bytes_eq name c.args.user.now) _ _ _ c.any.ensures.ran pieces (λ x b q. search rules)
