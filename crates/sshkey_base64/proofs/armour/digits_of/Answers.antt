use Rattle.std.proofs.Common.{ap, filter, rules, not, ◌∙◌}
use Rattle.std.proofs.lemmas.List.Elements.{filter_from_retain}
use Rattle.sshkey_base64.specs.Armour.{is_white}
use Rattle.sshkey_base64.proofs.armour.digits_of.Goals as goal

pub returns-clause-digits : goal.returns-clause-digits
returns-clause-digits c = filter_from_retain _ (λ x. not (is_white x)) (λ f x b g called. search rules) _ _ _ c.retain.ensures.filtered ∙ ap (filter (λ x. not (is_white x))) c.in_ok-digits.ensures.items
