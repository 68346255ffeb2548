use Rattle.std.proofs.Common.{◌≡◌, List, ℕ, refl, sym, ap, subst, ◌∙◌}
use Rattle.std.proofs.lemmas.Result.{err_from_is_err_and}
use Rattle.sshkey_keys.specs.Keys.{key_of}
use Rattle.sshkey_model.specs.Keys.{SpellsKey}
use Rattle.sshkey_keys.specs.declared.key_data.KeyData.{KeyData}
use Rattle.sshkey_model.specs.Lines.{key_name}
use Rattle.sshkey_public.specs.Lines.{NeedsWord, IsNoWord, IsWordOf}
use Rattle.sshkey_model.specs.Keys.{key_format}
use Rattle.sshkey_public.specs.PublicKeys.{public_of, comment_of}
use Rattle.sshkey_entries.specs.Fields.{without_blanks, IsKept}
use Rattle.sshkey_entries.proofs.KeyFields.{no_length, no_word, bad_word, other_name, fields_read, word_needed, comment_needed, name_no_text, word_no_text}
use Rattle.sshkey_entries.proofs.key_fields.read_key_bytes.Goals as goal

pub returns-then-is_empty-clause-reads : goal.returns-then-is_empty-clause-reads
returns-then-is_empty-clause-reads c = λ _. no_word _ _ _ _ _ _ c.split_blank.ensures c.skip_blanks.ensures c.split_word.ensures (no_length _ c.is_empty.result c.is_empty.ensures c.if-is_empty.true)

pub returns-in_default-clause-reads : goal.returns-in_default-clause-reads
returns-in_default-clause-reads c = λ _. name_no_text _ _ _ _ _ _ c.split_blank.ensures c.skip_blanks.ensures c.split_word.ensures c.in_default.ensures

pub returns-in_default-text_of-clause-reads : goal.returns-in_default-text_of-clause-reads
returns-in_default-text_of-clause-reads c = λ _. word_no_text _ _ _ _ _ _ c.split_blank.ensures c.skip_blanks.ensures c.split_word.ensures c.in_default-text_of.ensures

pub returns-in_err-key_data-clause-reads : goal.returns-in_err-key_data-clause-reads
returns-in_err-key_data-clause-reads c = let p = err_from_is_err_and c.from_residual.result c.from_residual.ensures.1 in
    rw (p.1, p.2) (λ other. bad_word _ _ _ _ _ _ c.split_blank.ensures c.skip_blanks.ensures c.split_word.ensures (subst (IsNoWord SpellsKey) c.in-Some-text_of.ensures.1 (c.in_err-key_data.ensures.reads other)))

pub returns-in_err-key_data-clause-asks : goal.returns-in_err-key_data-clause-asks
returns-in_err-key_data-clause-asks c = let p = err_from_is_err_and c.from_residual.result c.from_residual.ensures.1 in
    rw (p.1, p.2) (λ memory. word_needed _ _ _ _ _ _ c.split_blank.ensures c.skip_blanks.ensures c.split_word.ensures (subst (NeedsWord key_format) c.in-Some-text_of.ensures.1 (c.in_err-key_data.ensures.asks memory)))

pub returns-then-not-is_named-clause-reads : goal.returns-then-not-is_named-clause-reads
returns-then-not-is_named-clause-reads c = λ _. other_name _ _ _ _ _ _ c.split_blank.ensures c.skip_blanks.ensures c.split_word.ensures _ (subst (λ (w : List ℕ). IsWordOf SpellsKey w (key_of c.in_ok-key_data.key_data)) c.in-Some-text_of.ensures.1 c.in_ok-key_data.ensures.reads)
    (λ same. cc (sym c.if-not-is_named.true ∙ c.is_named.ensures.1 (c.in-Some.ensures.1 ∙ same)))

pub returns-in_err-comment-clause-asks : goal.returns-in_err-comment-clause-asks
returns-in_err-comment-clause-asks c = let p = err_from_is_err_and c.from_residual-in_err-comment.result c.from_residual-in_err-comment.ensures.1 in
    rw (p.1, p.2) (λ memory. comment_needed _ _ _ _ _ _ c.split_blank.ensures c.skip_blanks.ensures c.split_word.ensures _ (subst (λ (w : List ℕ). IsWordOf SpellsKey w (key_of c.in_ok-key_data.key_data)) c.in-Some-text_of.ensures.1 c.in_ok-key_data.ensures.reads) (sym c.in-Some.ensures.1 ∙ c.is_named.ensures.0 c.if-not-is_named.false) _ c.skip_blanks-2.ensures c.in_err-comment.ensures.memory.1)

pub returns-clause-reads : goal.returns-clause-reads
returns-clause-reads c =
    let word_is : IsWordOf SpellsKey c.split_word.result.0.now (key_of c.in_ok-key_data.key_data) = subst (λ (w : List ℕ). IsWordOf SpellsKey w (key_of c.in_ok-key_data.key_data)) c.in-Some-text_of.ensures.1 c.in_ok-key_data.ensures.reads in
    let word : IsWordOf SpellsKey c.split_word.result.0.now (public_of c.new.result) = subst (λ (d : KeyData). IsWordOf SpellsKey c.split_word.result.0.now (key_of d)) (sym c.new.ensures.key) word_is in
    let named : c.split_blank.result.0.now ≡ key_name (public_of c.new.result) = sym c.in-Some.ensures.1 ∙ c.is_named.ensures.0 c.if-not-is_named.false ∙ ap (λ (d : KeyData). key_name (key_of d)) (sym c.new.ensures.key) in
    let kept : IsKept (without_blanks c.split_word.result.1.now) (comment_of c.new.result) = subst (λ (l : List ℕ). IsKept l (comment_of c.new.result)) c.skip_blanks-2.ensures (subst (IsKept c.skip_blanks-2.result.now) (sym c.new.ensures.comment) c.in_ok-comment.ensures.text) in
    (without_blanks c.split_word.result.1.now, fields_read _ _ _ _ _ _ c.split_blank.ensures c.skip_blanks.ensures c.split_word.ensures (public_of c.new.result) (without_blanks c.split_word.result.1.now) word named refl, kept)
