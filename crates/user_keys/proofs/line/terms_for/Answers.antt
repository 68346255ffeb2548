use Rattle.std.proofs.Common.{◌≡◌, ◌∙◌, List, subst, sym, ℕ}
use Rattle.std.specs.Prelude.{slice_index}
use Rattle.std.specs.Str.{IsUtf8}
use Rattle.sshkey_authorized_keys.specs.OpenSshEntries.{openssh_entry_of}
use Rattle.sshkey_entries.specs.Entries.{IsNoEntry, hash_sign}
use Rattle.sshkey_entries.specs.Fields.{without_blanks}
use Rattle.sshkey_entries.specs.OpenSshLines.{IsAuthorizedLine}
use Rattle.sshkey_keys.specs.Keys.{key_of}
use Rattle.sshkey_entries.specs.Answers.{Tells}
use Rattle.login_terms.specs.Options.{terms_of}
use Rattle.user_keys.specs.Lines.{HasName, before_zero}
use Rattle.user_keys.specs.Spellings.{HasMark, own_part}
use Rattle.user_keys.proofs.Lines.{are_marks, marks_are, not_marked, of_entry_read, of_no_text, of_text}
use Rattle.user_keys.proofs.line.terms_for.Goals as goal

pub returns-then-not-stand_in-clause-answer : goal.returns-then-not-stand_in-clause-answer
returns-then-not-stand_in-clause-answer c =
    let part = own_part (key_of c.args.key.now) in
    not_marked c.args.is_authority (key_of c.args.key.now) c.args.line.now c.requires.part
    (λ may. cc (sym c.if-not-stand_in.true ∙ c.stand_in.ensures.1 (are_marks part c.args.line.now c.args.marks.now c.requires.marks may)))

pub returns-then-is_memory-clause-asks : goal.returns-then-is_memory-clause-asks
returns-then-is_memory-clause-asks c = marks_are (own_part (key_of c.args.key.now)) c.args.line.now c.args.marks.now c.requires.marks (c.stand_in.ensures.0 c.if-not-stand_in.false)

pub returns-in_default-clause-answer : goal.returns-in_default-clause-answer
returns-in_default-clause-answer c =
    let no_utf8 = λ (utf8 : IsUtf8 (before_zero c.args.line.now)). c.in_default.ensures.cases.0 (subst IsUtf8 (sym c.before_first-line.ensures) utf8) in
    of_no_text c.args.is_authority (key_of c.args.key.now) c.args.line.now
    (λ entry is. no_utf8 is.utf8)
    (λ hash. cc (sym c.if-is_comment.false ∙ c.is_comment.ensures.1 (subst (λ (l : List ℕ). slice_index (without_blanks l) 0 ≡ hash_sign) (sym c.before_first-line.ensures) hash)))
    c.args.marks.now c.requires.marks c.unread.result no_utf8 (subst (λ (l : List ℕ). Tells terms_of (λ _. ⊥) (HasMark c.args.marks.now l) c.unread.result) c.before_first-line.ensures c.unread.ensures)

pub returns-in-Ok-from_line_openssh-clause-answer : goal.returns-in-Ok-from_line_openssh-clause-answer
returns-in-Ok-from_line_openssh-clause-answer c =
    of_entry_read c.args.is_authority (key_of c.args.key.now) c.args.line.now c.one_authorized_line.ensures (openssh_entry_of c.in-Ok-from_line_openssh.entry)
    (record {
      utf8 = subst IsUtf8 c.before_first-line.ensures c.in-Ok.ensures.cases.1;
      read = subst (λ (l : List ℕ). IsAuthorizedLine l (openssh_entry_of c.in-Ok-from_line_openssh.entry)) (c.in-Ok.ensures.cases.0 ∙ c.before_first-line.ensures) c.in-Ok-from_line_openssh.ensures.reads;
    }) c.terms_of_entry.result c.terms_of_entry.ensures

pub returns-else-is_memory-clause-answer : goal.returns-else-is_memory-clause-answer
returns-else-is_memory-clause-answer c =
    let none = subst (IsNoEntry IsAuthorizedLine) (c.in-Ok.ensures.cases.0 ∙ c.before_first-line.ensures) (c.in-Err.ensures.reads (λ m. cc (sym c.if-is_memory.false ∙ c.is_memory.ensures.cause.1 m))) in
    let same = c.in-Ok.ensures.cases.0 ∙ c.before_first-line.ensures in
    of_text c.args.is_authority (key_of c.args.key.now) c.args.line.now
    (λ entry is. none entry is.read)
    (λ hash. cc (sym c.if-is_comment.false ∙ c.is_comment.ensures.1 (subst (λ (l : List ℕ). slice_index (without_blanks l) 0 ≡ hash_sign) (sym c.before_first-line.ensures) hash)))
    c.args.marks.now c.requires.marks c.unread_text.result (subst IsUtf8 c.before_first-line.ensures c.in-Ok.ensures.cases.1)
    (subst (λ (l : List ℕ). Tells terms_of (λ _. ⊥) (HasMark c.args.marks.now l × HasName (key_of c.args.key.now) (without_blanks l)) c.unread_text.result) same c.unread_text.ensures)
