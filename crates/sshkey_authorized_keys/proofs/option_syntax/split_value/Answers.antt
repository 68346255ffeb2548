use Rattle.std.proofs.Common.{◌∷◌, ◌∙◌, sym}
use Rattle.sshkey_entries.specs.OptionItems.{equals_sign, quote}
use Rattle.sshkey_authorized_keys.proofs.OptionCuts.{value_cut}
use Rattle.sshkey_authorized_keys.proofs.option_syntax.split_value.Goals as goal

pub returns-in-Some-split_quoted : goal.returns-in-Some-split_quoted
returns-in-Some-split_quoted c =
    let after = c.in-Some.ensures.cases in
    value_cut c.args.text.now c.in-Some.after.now c.in-Some-split_quoted.quoted.now c.in-Some-split_quoted.rest.now (after.1.1 ∙ (λ j. equals_sign ∷ quote ∷ sym after.2 j)) c.in-Some-split_quoted.ensures
