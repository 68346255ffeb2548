use Rattle.std.proofs.Common.{length, sym, ◌∙◌, arith, eq-eqb, inl, inr}
use Rattle.std.proofs.lemmas.Bool.{eqb-true, cases_lt}
use Rattle.sshkey_cert_ref.proofs.OptionSteps.{no_options, some_options}
use Rattle.sshkey_cert_ref.proofs.certificate_options_ref.CertificateOptionsRef.is_empty.Goals as goal

pub returns : goal.returns
returns c =
    let b = c.args.self.now.bytes.now in (
      λ yes_. no_options b (eqb-true (length b) 0 (sym c.is_empty.ensures ∙ yes_)),
      λ none. elim (cases_lt 0 (length b)) [
        | inl some ↦ absurd (some_options b some c.args.self.now.form none)
        | inr le ↦ c.is_empty.ensures ∙ eq-eqb (length b) 0 (omega (arith, le))
      ],
    )
