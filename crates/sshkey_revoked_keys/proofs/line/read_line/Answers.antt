use Rattle.std.proofs.Common.{◌∙◌, subst, sym, true, false}
use Rattle.std.specs.Str.{IsUtf8}
use Rattle.std.proofs.lemmas.Result.{err_from_is_err_and}
use Rattle.sshkey_entries.proofs.KeyFields.{no_length, some_length}
use Rattle.sshkey_revoked_keys.proofs.RevokedLines.{begins, begins_as, line_asks, line_reads, line_refuses, no_text_fault, no_text_said, no_word_fault, no_word_said, some_text}
use Rattle.sshkey_revoked_keys.proofs.line.read_line.Goals as goal

pub returns-then-is_empty-clause-reads : goal.returns-then-is_empty-clause-reads
returns-then-is_empty-clause-reads c = λ _. no_word_said _ _ _ (begins _ _ _ _ _ _ c.split_blank.ensures c.skip_blanks.ensures c.split_word.ensures) (no_length _ c.is_empty.result c.is_empty.ensures c.if-is_empty.true)

pub returns-then-is_empty-clause-fault : goal.returns-then-is_empty-clause-fault
returns-then-is_empty-clause-fault c = λ _. no_word_fault _ _ _ (begins _ _ _ _ _ _ c.split_blank.ensures c.skip_blanks.ensures c.split_word.ensures) (no_length _ c.is_empty.result c.is_empty.ensures c.if-is_empty.true)

pub returns-in_err-name-clause-reads : goal.returns-in_err-name-clause-reads
returns-in_err-name-clause-reads c = let p = err_from_is_err_and c.from_residual.result c.from_residual.ensures.1 in
    rw (p.1, p.2) (λ _. no_text_said _ _ _ (begins _ _ _ _ _ _ c.split_blank.ensures c.skip_blanks.ensures c.split_word.ensures) (λ texts. c.in_err-name.ensures.none.1 texts.0))

pub returns-in_err-name-clause-fault : goal.returns-in_err-name-clause-fault
returns-in_err-name-clause-fault c = let p = err_from_is_err_and c.from_residual.result c.from_residual.ensures.1 in
    rw (p.1, p.2, c.in_err-name.ensures.none.0) (λ _. no_text_fault _ _ _ (begins _ _ _ _ _ _ c.split_blank.ensures c.skip_blanks.ensures c.split_word.ensures) (λ texts. c.in_err-name.ensures.none.1 texts.0) (some_length _ c.is_empty.result c.is_empty.ensures c.if-is_empty.false))

pub returns-in_err-name-clause-asks : goal.returns-in_err-name-clause-asks
returns-in_err-name-clause-asks c = let p = err_from_is_err_and c.from_residual.result c.from_residual.ensures.1 in
    rw (p.1, p.2, c.in_err-name.ensures.none.0) (λ memory. absurd (cc memory))

pub returns-in_err-word-clause-reads : goal.returns-in_err-word-clause-reads
returns-in_err-word-clause-reads c = let p = err_from_is_err_and c.from_residual-in_err-word.result c.from_residual-in_err-word.ensures.1 in
    rw (p.1, p.2) (λ _. no_text_said _ _ _ (begins _ _ _ _ _ _ c.split_blank.ensures c.skip_blanks.ensures c.split_word.ensures) (λ texts. c.in_err-word.ensures.none.1 texts.1))

pub returns-in_err-word-clause-fault : goal.returns-in_err-word-clause-fault
returns-in_err-word-clause-fault c = let p = err_from_is_err_and c.from_residual-in_err-word.result c.from_residual-in_err-word.ensures.1 in
    rw (p.1, p.2, c.in_err-word.ensures.none.0) (λ _. no_text_fault _ _ _ (begins _ _ _ _ _ _ c.split_blank.ensures c.skip_blanks.ensures c.split_word.ensures) (λ texts. c.in_err-word.ensures.none.1 texts.1) (some_length _ c.is_empty.result c.is_empty.ensures c.if-is_empty.false))

pub returns-in_err-word-clause-asks : goal.returns-in_err-word-clause-asks
returns-in_err-word-clause-asks c = let p = err_from_is_err_and c.from_residual-in_err-word.result c.from_residual-in_err-word.ensures.1 in
    rw (p.1, p.2, c.in_err-word.ensures.none.0) (λ memory. absurd (cc memory))

pub returns-then-names_certificate-clause-reads : goal.returns-then-names_certificate-clause-reads
returns-then-names_certificate-clause-reads c = line_reads _ _ _ (begins_as _ _ _ _ _ _ _ _ c.split_blank.ensures c.skip_blanks.ensures c.split_word.ensures c.in_ok-name.ensures.text.1 c.in_ok-word.ensures.text.1) true (sym c.names_certificate.ensures ∙ c.if-names_certificate.true) c.read_certified_key.result c.read_certified_key.ensures.reads

pub returns-then-names_certificate-clause-fault : goal.returns-then-names_certificate-clause-fault
returns-then-names_certificate-clause-fault c = line_refuses _ _ _ (begins_as _ _ _ _ _ _ _ _ c.split_blank.ensures c.skip_blanks.ensures c.split_word.ensures c.in_ok-name.ensures.text.1 c.in_ok-word.ensures.text.1) true (sym c.names_certificate.ensures ∙ c.if-names_certificate.true) c.read_certified_key.result (some_text _ _ c.in_ok-word.ensures.text.1 (some_length _ c.is_empty.result c.is_empty.ensures c.if-is_empty.false)) (subst IsUtf8 (sym c.in_ok-name.ensures.text.1) c.in_ok-name.ensures.text.0, subst IsUtf8 (sym c.in_ok-word.ensures.text.1) c.in_ok-word.ensures.text.0) c.read_certified_key.ensures.fault

pub returns-then-names_certificate-clause-asks : goal.returns-then-names_certificate-clause-asks
returns-then-names_certificate-clause-asks c = line_asks _ _ _ (begins_as _ _ _ _ _ _ _ _ c.split_blank.ensures c.skip_blanks.ensures c.split_word.ensures c.in_ok-name.ensures.text.1 c.in_ok-word.ensures.text.1) true (sym c.names_certificate.ensures ∙ c.if-names_certificate.true) c.read_certified_key.result c.read_certified_key.ensures.asks

pub returns-else-names_certificate-clause-reads : goal.returns-else-names_certificate-clause-reads
returns-else-names_certificate-clause-reads c = line_reads _ _ _ (begins_as _ _ _ _ _ _ _ _ c.split_blank.ensures c.skip_blanks.ensures c.split_word.ensures c.in_ok-name.ensures.text.1 c.in_ok-word.ensures.text.1) false (sym c.names_certificate.ensures ∙ c.if-names_certificate.false) c.read_key.result c.read_key.ensures.reads

pub returns-else-names_certificate-clause-fault : goal.returns-else-names_certificate-clause-fault
returns-else-names_certificate-clause-fault c = line_refuses _ _ _ (begins_as _ _ _ _ _ _ _ _ c.split_blank.ensures c.skip_blanks.ensures c.split_word.ensures c.in_ok-name.ensures.text.1 c.in_ok-word.ensures.text.1) false (sym c.names_certificate.ensures ∙ c.if-names_certificate.false) c.read_key.result (some_text _ _ c.in_ok-word.ensures.text.1 (some_length _ c.is_empty.result c.is_empty.ensures c.if-is_empty.false)) (subst IsUtf8 (sym c.in_ok-name.ensures.text.1) c.in_ok-name.ensures.text.0, subst IsUtf8 (sym c.in_ok-word.ensures.text.1) c.in_ok-word.ensures.text.0) c.read_key.ensures.fault

pub returns-else-names_certificate-clause-asks : goal.returns-else-names_certificate-clause-asks
returns-else-names_certificate-clause-asks c = line_asks _ _ _ (begins_as _ _ _ _ _ _ _ _ c.split_blank.ensures c.skip_blanks.ensures c.split_word.ensures c.in_ok-name.ensures.text.1 c.in_ok-word.ensures.text.1) false (sym c.names_certificate.ensures ∙ c.if-names_certificate.false) c.read_key.result c.read_key.ensures.asks
