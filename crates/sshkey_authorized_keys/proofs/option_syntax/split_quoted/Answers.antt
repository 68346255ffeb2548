use Rattle.std.proofs.Common.{subst, List, ℕ, Some, None, ◌∙◌}
use Rattle.sshkey_entries.specs.Fields.{is_plain_quote}
use Rattle.sshkey_authorized_keys.specs.Options.{FindsPlace}
use Rattle.sshkey_authorized_keys.proofs.OptionCuts.{quote_place, quoted_cut, quoted_none, whole_front}
use Rattle.sshkey_authorized_keys.proofs.option_syntax.split_quoted.Goals as goal

pub range_from-requires : goal.range_from-requires
range_from-requires c = λ _. quote_place c.args.text.now c.as_bytes.result.now c.in-Some.end c.utf8.text c.as_bytes.ensures.value c.in-Some.ensures

pub returns-in-Some : goal.returns-in-Some
returns-in-Some c = quoted_cut c.args.text.now c.range.result.now c.range_from.result.now c.in-Some.end (subst (λ (t : List ℕ). FindsPlace is_plain_quote t (Some c.in-Some.end)) c.as_bytes.ensures.value c.in-Some.ensures) (c.range.ensures.value ∙ whole_front c.in-Some.end c.args.text.now) c.range_from.ensures.value

pub returns-in-None : goal.returns-in-None
returns-in-None c = quoted_none c.args.text.now (subst (λ (t : List ℕ). FindsPlace is_plain_quote t None) c.as_bytes.ensures.value c.in-None.ensures)
