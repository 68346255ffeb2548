use Rattle.publickey_login.proofs.laws.answers_decide.Goals as goal

pub returns : goal.returns
returns c = λ accepts l s g. (λ is. (is.authority, is.client, is.pending, is.certified, is.signed), λ both. record { authority = both.0; client = both.1; pending = both.2; certified = both.3; signed = both.4 })
