-- What holds of all logins.
use Rattle.std.specs.Prelude.{◌≡◌, ◌↔◌, Bool, Option}
use Rattle.login_terms.specs.Options.{terms_of}
use Rattle.sshkey_model.specs.Verification.{Question}
use Rattle.publickey_login.specs.Grants.{IsAnswered, IsLogin, IsPending}
use Rattle.publickey_login.specs.Sources.{Login}
use Rattle.publickey_login.specs.Signatures.{Signed}
use Rattle.publickey_login.specs.declared.grant.PublickeyGrant.{PublickeyGrant}

-- The answers decide, whoever gives them.
abbrev pub AnswersDecide : Type 0
AnswersDecide = (accepts : Question → Bool) (l : Login) (s : Signed) (g : PublickeyGrant) → IsLogin accepts l s g ↔ ((authority : Option (Option Question)) × (client : Option (Option Question)) × IsPending l s g authority client × IsAnswered accepts authority × IsAnswered accepts client)

-- One question is left to each signer, and the terms are the same.
abbrev pub OneGrant : Type 0
OneGrant = (l : Login) (s : Signed) (g h : PublickeyGrant) (a b q w : Option (Option Question)) → IsPending l s g a q → IsPending l s h b w → (b ≡ a) × (w ≡ q) × (terms_of h.user.terms ≡ terms_of g.user.terms)
