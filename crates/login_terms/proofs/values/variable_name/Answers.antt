use Rattle.std.proofs.Common.{◌≡◌, Some, None, lit<, subst, sym, true}
use Rattle.std.proofs.lemmas.Str.Pattern.{split_after, split_parts}
use Rattle.login_terms.specs.Values.{IsVariableName, equals_sign}
use Rattle.login_terms.proofs.values.variable_name.Goals as goal

pub returns-in_default : goal.returns-in_default
returns-in_default c = λ name is. split_after equals_sign c.args.text.now name is.value None c.in_default.ensures.cases (lit< tt) is.is is.up_to

pub returns-then-not-is_variable_name : goal.returns-then-not-is_variable_name
returns-then-not-is_variable_name c = λ name is.
    let same = split_after equals_sign c.args.text.now name is.value (Some (c.in-Some.name, c.in-Some.field-0-1)) c.in-Some.ensures.cases (lit< tt) is.is is.up_to in
    let named : c.is_variable_name.result ≡ true = c.is_variable_name.ensures.1 (subst IsVariableName (sym same.0) is.name_is) in absurd cc

pub returns : goal.returns
returns c =
    let parts = split_parts equals_sign c.args.text.now (Some (c.in-Some.name, c.in-Some.field-0-1)) c.in-Some.ensures.cases (lit< tt) in (
      record { value = c.in-Some.field-0-1.now; is = parts.0; up_to = parts.1; name_is = c.is_variable_name.ensures.0 c.if-not-is_variable_name.false },
      λ name is. sym (split_after equals_sign c.args.text.now name is.value (Some (c.in-Some.name, c.in-Some.field-0-1)) c.in-Some.ensures.cases (lit< tt) is.is is.up_to).0,
    )
