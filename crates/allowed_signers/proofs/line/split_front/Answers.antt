use Rattle.std.proofs.Common.{◌∷◌, ◌∙◌, ap, List, ℕ, slice_index, sym}
use Rattle.std.proofs.lemmas.List.{take_rest}
use Rattle.sshkey_entries.specs.OptionItems.{quote}
use Rattle.allowed_signers.proofs.Fronts.{plain_front, quoted_front, quoted_line}
use Rattle.allowed_signers.proofs.line.split_front.Goals as goal

pub returns-then-begins_with_quote : goal.returns-then-begins_with_quote
returns-then-begins_with_quote c =
    let is = quoted_line c.args.line.now (c.begins_with_quote.ensures.0 c.if-begins_with_quote.true) in
    quoted_front c.args.line.now _ c.split_quote.result (is ∙ ap (λ (t : List ℕ). quote ∷ t) (sym (take_rest c.args.line.now 1))) c.split_quote.ensures

pub returns : goal.returns
returns c = plain_front c.args.line.now c.split_word.result (λ rest is. cc (sym c.if-begins_with_quote.false ∙ c.begins_with_quote.ensures.1 (ap (λ (t : List ℕ). slice_index t 0) is))) c.split_word.ensures
