use Rattle.std.proofs.Common.{◌≡◌, ◌∙◌, ◌==◌, [], ℕ, List, ap, false, length, subst, true}
use Rattle.std.specs.List.{before_first}
use Rattle.std.specs.Prelude.{MatchOption}
use Rattle.std.specs.Str.{IsUtf8}
use Rattle.sshkey_entries.specs.Entries.{is_hash}
use Rattle.sshkey_entries.specs.Fields.{without_blanks}
use Rattle.user_keys.specs.Principals.{AreFrontOptions, entry_in, last_word, name_in, trimmed}
use Rattle.user_keys.proofs.PrincipalLines.{has_options}
use Rattle.user_keys.proofs.principal_line.PrincipalLine.of.Goals as goal

pub returns-clause-options : goal.returns-clause-options
returns-clause-options c =
    let line = c.args.line.now in
    let entry : c.skip_blanks-entry.result.now ≡ entry_in line = c.skip_blanks-entry.ensures ∙ ap without_blanks (c.before_first-2.ensures ∙ ap (λ (t : List ℕ). before_first is_hash t) c.before_first.ensures) in
    let text : c.trimmed-text.result.now ≡ trimmed (entry_in line) = c.trimmed-text.ensures ∙ ap trimmed entry in
    let name : c.last_word-name.result.now ≡ name_in line = c.last_word-name.ensures ∙ ap last_word text in
    has_options line c.options_before-options.result (length c.last_word-name.result.now == length c.trimmed-text.result.now) (λ j. length (name j) == length (text j))
    (subst (λ (e : List ℕ). MatchOption c.options_before-options.result (IsUtf8 e → ⊥) (λ o. IsUtf8 e × ((length c.last_word-name.result.now == length c.trimmed-text.result.now) ≡ true → o.now ≡ []) × ((length c.last_word-name.result.now == length c.trimmed-text.result.now) ≡ false → AreFrontOptions e o.now))) entry c.options_before-options.ensures)
