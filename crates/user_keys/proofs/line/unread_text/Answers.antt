use Rattle.std.proofs.Common.{List, subst, ℕ}
use Rattle.login_terms.specs.Options.{terms_of}
use Rattle.sshkey_entries.proofs.OptionItems.{told_as}
use Rattle.sshkey_entries.specs.Fields.{without_blanks}
use Rattle.sshkey_entries.specs.Answers.{Tells}
use Rattle.sshkey_keys.specs.Keys.{key_of}
use Rattle.user_keys.specs.Lines.{HasName}
use Rattle.user_keys.specs.Spellings.{HasMark}
use Rattle.user_keys.proofs.line.unread_text.Goals as goal

pub returns-then-has_name : goal.returns-then-has_name
returns-then-has_name c =
    let line = c.args.line.now in
    let marks = c.args.marks.now in
    let key = key_of c.args.key.now in
    let named : HasName key (without_blanks line) = subst (HasName key) c.skip_blanks.ensures (c.has_name.ensures.0 c.if-has_name.true) in
    told_as terms_of (λ _. ⊥) (λ _. ⊥) (HasMark marks line) (HasMark marks line × HasName key (without_blanks line))
    (λ t no. no) (λ t no. no) (λ mark. (mark, named)) (λ both. both.0)
    c.unread.result (subst (λ (l : List ℕ). Tells terms_of (λ _. ⊥) (HasMark marks l) c.unread.result) c.as_bytes.ensures.value c.unread.ensures)
