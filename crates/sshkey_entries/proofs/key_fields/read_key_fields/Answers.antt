use Rattle.std.proofs.Common.{◌≡◌, sym, ap, subst, ◌∙◌}
use Rattle.std.proofs.lemmas.Result.{err_from_is_err_and}
use Rattle.sshkey_keys.specs.Keys.{key_of}
use Rattle.sshkey_model.specs.Keys.{SpellsKey}
use Rattle.sshkey_keys.specs.declared.key_data.KeyData.{KeyData}
use Rattle.sshkey_model.specs.Lines.{key_name}
use Rattle.sshkey_public.specs.Lines.{IsWordOf}
use Rattle.sshkey_public.specs.PublicKeys.{public_of, comment_of}
use Rattle.sshkey_entries.proofs.KeyFields.{no_length, some_length, no_word, bad_word, other_name, fields_read, missing, odd_key, named_otherwise, word_needed, comment_needed}
use Rattle.sshkey_entries.proofs.key_fields.read_key_fields.Goals as goal

pub returns-then-is_empty-clause-reads : goal.returns-then-is_empty-clause-reads
returns-then-is_empty-clause-reads c = λ _. no_word _ _ _ _ _ _ c.split_blank.ensures c.skip_blanks.ensures c.split_word.ensures (no_length _ c.is_empty.result c.is_empty.ensures c.if-is_empty.true)

pub returns-then-is_empty-clause-fault : goal.returns-then-is_empty-clause-fault
returns-then-is_empty-clause-fault c = λ _. missing _ _ _ _ _ _ c.split_blank.ensures c.skip_blanks.ensures c.split_word.ensures (no_length _ c.is_empty.result c.is_empty.ensures c.if-is_empty.true)

pub returns-in_err-key_data-clause-reads : goal.returns-in_err-key_data-clause-reads
returns-in_err-key_data-clause-reads c = let p = err_from_is_err_and c.from_residual.result c.from_residual.ensures.1 in
    rw (p.1, p.2) (λ other. bad_word _ _ _ _ _ _ c.split_blank.ensures c.skip_blanks.ensures c.split_word.ensures (c.in_err-key_data.ensures.reads other))

pub returns-in_err-key_data-clause-fault : goal.returns-in_err-key_data-clause-fault
returns-in_err-key_data-clause-fault c = let p = err_from_is_err_and c.from_residual.result c.from_residual.ensures.1 in
    rw (p.1, p.2) (λ other. odd_key _ _ _ _ _ _ c.split_blank.ensures c.skip_blanks.ensures c.split_word.ensures _ (some_length _ c.is_empty.result c.is_empty.ensures c.if-is_empty.false) (c.in_err-key_data.ensures.reads other) (c.in_err-key_data.ensures.fault other))

pub returns-in_err-key_data-clause-asks : goal.returns-in_err-key_data-clause-asks
returns-in_err-key_data-clause-asks c = let p = err_from_is_err_and c.from_residual.result c.from_residual.ensures.1 in
    rw (p.1, p.2) (λ memory. word_needed _ _ _ _ _ _ c.split_blank.ensures c.skip_blanks.ensures c.split_word.ensures (c.in_err-key_data.ensures.asks memory))

pub returns-then-not-is_named-clause-reads : goal.returns-then-not-is_named-clause-reads
returns-then-not-is_named-clause-reads c = λ _. other_name _ _ _ _ _ _ c.split_blank.ensures c.skip_blanks.ensures c.split_word.ensures _ c.in_ok-key_data.ensures.reads
    (λ same. cc (sym c.if-not-is_named.true ∙ c.is_named.ensures.1 same))

pub returns-then-not-is_named-clause-fault : goal.returns-then-not-is_named-clause-fault
returns-then-not-is_named-clause-fault c = λ _. named_otherwise _ _ _ _ _ _ c.split_blank.ensures c.skip_blanks.ensures c.split_word.ensures (some_length _ c.is_empty.result c.is_empty.ensures c.if-is_empty.false) _ c.in_ok-key_data.ensures.reads

pub returns-in_err-comment-clause-asks : goal.returns-in_err-comment-clause-asks
returns-in_err-comment-clause-asks c = let p = err_from_is_err_and c.from_residual-in_err-comment.result c.from_residual-in_err-comment.ensures.1 in
    rw (p.1, p.2) (λ memory. comment_needed _ _ _ _ _ _ c.split_blank.ensures c.skip_blanks.ensures c.split_word.ensures _ c.in_ok-key_data.ensures.reads (c.is_named.ensures.0 c.if-not-is_named.false) _ c.skip_blanks-2.ensures c.in_err-comment.ensures.memory.1)

pub returns-clause-reads : goal.returns-clause-reads
returns-clause-reads c =
    let word : IsWordOf SpellsKey c.split_word.result.0.now (public_of c.new.result) = subst (λ (d : KeyData). IsWordOf SpellsKey c.split_word.result.0.now (key_of d)) (sym c.new.ensures.key) c.in_ok-key_data.ensures.reads in
    let named : c.split_blank.result.0.now ≡ key_name (public_of c.new.result) = c.is_named.ensures.0 c.if-not-is_named.false ∙ ap (λ (d : KeyData). key_name (key_of d)) (sym c.new.ensures.key) in
    fields_read _ _ _ _ _ _ c.split_blank.ensures c.skip_blanks.ensures c.split_word.ensures (public_of c.new.result) (comment_of c.new.result) word named (c.new.ensures.comment ∙ c.in_ok-comment.ensures.text ∙ c.skip_blanks-2.ensures)
