use Rattle.std.proofs.Common.{length, refl, sym, ◌∙◌}
use Rattle.std.proofs.lemmas.Bool.{eqb-true}
use Rattle.sshkey_cert_ref.proofs.TextSteps.{no_texts}
use Rattle.sshkey_cert_ref.proofs.principals_ref.is_listed.Goals as goal

pub texts-smaller : goal.texts-smaller
texts-smaller c = c.first_text.ensures.shorter

pub returns : goal.returns
returns c =
    let none = no_texts c.texts.rest.now (eqb-true (length c.texts.rest.now) 0 (sym c.is_empty.ensures ∙ c.texts-test.false)) in
    sym (c.texts.invariant.1 ∙ rw none refl)
