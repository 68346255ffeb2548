use Rattle.std.proofs.Common.{length, refl, sym, ◌∙◌}
use Rattle.std.proofs.lemmas.Bool.{eqb-true}
use Rattle.sshkey_cert_ref.proofs.OptionSteps.{no_options}
use Rattle.sshkey_cert_ref.proofs.certificate_options_ref.find_value.Goals as goal

pub options-smaller : goal.options-smaller
options-smaller c = c.first_option.ensures.shorter

pub returns : goal.returns
returns c =
    let none = no_options c.options.rest.now (eqb-true (length c.options.rest.now) 0 (sym c.is_empty.ensures ∙ c.options-test.false)) in
    sym (c.options.invariant.1 ∙ rw none refl)
