use Rattle.std.proofs.Common.{length, sym, ◌∙◌}
use Rattle.std.proofs.lemmas.Bool.{eqb-true}
use Rattle.sshkey_cert_ref.proofs.OptionSteps.{no_options}
use Rattle.sshkey_cert_ref.proofs.certificate_options_ref.iter.CertificateOptionsIterator.next.Goals as goal

pub returns-then-is_empty-clause-steps : goal.returns-then-is_empty-clause-steps
returns-then-is_empty-clause-steps c =
    let none = no_options c.self.inside.rest.now (eqb-true (length c.self.inside.rest.now) 0 (sym c.is_empty.ensures ∙ c.if-is_empty.true)) in
    (sym c.self.view_is ∙ none, sym c.self.view_is ∙ none)
