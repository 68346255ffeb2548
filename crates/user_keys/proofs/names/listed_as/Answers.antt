use Rattle.std.proofs.Common.{◌∙◌, ap, bytes_eq, string_bytes, sym}
use Rattle.std.proofs.lemmas.List.Quantifiers.{position-Some}
use Rattle.std.proofs.lemmas.Slice.Eq.{bytes_eq-Decides}
use Rattle.user_keys.proofs.PrincipalLines.{none_at}
use Rattle.user_keys.proofs.names.listed_as.Goals as goal

pub returns-in-Some-clause-found : goal.returns-in-Some-clause-found
returns-in-Some-clause-found c =
    let at = position-Some (λ other. bytes_eq c.args.name.now (string_bytes other)) c.args.listed.now c.in-Some.place c.index-listed-place.result (sym c.in-Some.ensures) in
    c.as_str.ensures.value ∙ ap string_bytes c.index-listed-place.is ∙ sym ((bytes_eq-Decides _ _).0 at.1)

pub returns-in-None-clause-none : goal.returns-in-None-clause-none
returns-in-None-clause-none c none = none_at (λ other. bytes_eq c.args.name.now (string_bytes other)) c.args.listed.now c.in-None.ensures
