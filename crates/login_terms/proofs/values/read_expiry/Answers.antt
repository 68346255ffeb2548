use Rattle.login_terms.proofs.values.read_expiry.Goals as goal

pub returns-in-Some : goal.returns-in-Some
returns-in-Some c = (c.in-Some.ensures.0, c.in-Some.ensures.1, λ m. m.0 c.in-Some.span c.in-Some.ensures.0)
