use Rattle.std.proofs.Common.{List, subst, ℕ}
use Rattle.sshkey_entries.specs.Fields.{CutsWord}
use Rattle.sshkey_entry_calls.proofs.AuthorityFields.{begins, shorter}
use Rattle.sshkey_entry_calls.proofs.authorities.key_fields.Goals as goal

pub slice_bounds-result-count : goal.slice_bounds-result-count
slice_bounds-result-count c =
    let second = subst (λ (t : List ℕ). CutsWord t c.split_word.result.0.now c.split_word.result.1.now) c.skip_blanks.ensures c.split_word.ensures in
    shorter c.args.line.now c.split_blank.result.0.now c.split_blank.result.1.now c.split_word.result.0.now c.split_word.result.1.now c.split_blank.ensures second

pub returns : goal.returns
returns c =
    let second = subst (λ (t : List ℕ). CutsWord t c.split_word.result.0.now c.split_word.result.1.now) c.skip_blanks.ensures c.split_word.ensures in
    begins c.args.line.now c.split_blank.result.0.now c.split_blank.result.1.now c.split_word.result.0.now c.split_word.result.1.now c.split_blank.ensures second
