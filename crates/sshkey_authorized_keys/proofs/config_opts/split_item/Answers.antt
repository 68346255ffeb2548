use Rattle.std.proofs.Common.{◌∙◌, sym, subst, List, ℕ, ◌∷◌, Some, None}
use Rattle.sshkey_entries.specs.Items.{items}
use Rattle.sshkey_authorized_keys.specs.Options.{FindsDivider}
use Rattle.sshkey_authorized_keys.proofs.Dividers.{items_first, items_last, whole_front}
use Rattle.sshkey_authorized_keys.proofs.config_opts.split_item.Goals as goal

pub returns-in-Some-clause-items : goal.returns-in-Some-clause-items
returns-in-Some-clause-items c =
    let front = c.range.ensures.value ∙ whole_front c.in-Some.index c.args.text.now in
    items_first c.args.text.now c.in-Some.index (subst (λ (t : List ℕ). FindsDivider t (Some c.in-Some.index)) c.as_bytes.ensures.value c.in-Some.ensures)
    ∙ (λ j. sym front j ∷ items (sym c.range_from.ensures.value j))

pub returns-in-None-clause-items : goal.returns-in-None-clause-items
returns-in-None-clause-items c = items_last c.args.text.now (subst (λ (t : List ℕ). FindsDivider t None) c.as_bytes.ensures.value c.in-None.ensures) c.requires.some
