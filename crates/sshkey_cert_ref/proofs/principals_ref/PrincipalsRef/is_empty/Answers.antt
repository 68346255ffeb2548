use Rattle.std.proofs.Common.{length, sym, ◌∙◌, arith, eq-eqb, inl, inr}
use Rattle.std.proofs.lemmas.Bool.{eqb-true, cases_lt}
use Rattle.sshkey_cert_ref.proofs.TextSteps.{no_texts, some_texts}
use Rattle.sshkey_cert_ref.proofs.principals_ref.PrincipalsRef.is_empty.Goals as goal

pub returns : goal.returns
returns c =
    let b = c.args.self.now.bytes.now in (
      λ yes_. no_texts b (eqb-true (length b) 0 (sym c.is_empty.ensures ∙ yes_)),
      λ none. elim (cases_lt 0 (length b)) [
        | inl some ↦ absurd (some_texts b some c.args.self.now.form none)
        | inr le ↦ c.is_empty.ensures ∙ eq-eqb (length b) 0 (omega (arith, le))
      ],
    )
