use Rattle.std.proofs.Common.{◌≡◌, ◌∙◌, ℕ, List, Bor, IfOk, Option, Some, ap, option_map, subst, sym}
use Rattle.sshkey_entries.specs.Answers.{Tells}
use Rattle.login_terms.specs.Options.{terms_of}
use Rattle.user_keys.specs.Principals.{DecidesBy, MayDecideBy}
use Rattle.sshkey_cert.specs.Certificates.{certificate_of}
use Rattle.user_keys.specs.Certificates.{is_listed}
use Rattle.user_keys.proofs.FirstLines.{of_error}
use Rattle.user_keys.proofs.PrincipalLines.{mapped}
use Rattle.user_keys.proofs.Principals.{empty_name, listed_name, of_nobody, of_one, of_unread, other_name}
use Rattle.user_keys.proofs.principal.decide.Goals as goal
use Rattle.user_keys.proofs.principal.decide.Goals.{then-is_empty-via-then-is_empty, then-is_empty-via-else-is_empty+then-not-is_listed}

pub returns-then-is_empty-clause-answer : goal.returns-then-is_empty-clause-answer
returns-then-is_empty-clause-answer c =
    let k = certificate_of c.args.certificate.now in
    let name = c.args.line.now.name.now in
    of_nobody k name (option_map (λ o. o.now) c.args.line.now.options) (elim c.then-is_empty.branch [
      | then-is_empty-via-then-is_empty w ↦ empty_name k name (sym c.is_empty.ensures ∙ w.if-is_empty.true)
      | then-is_empty-via-else-is_empty+then-not-is_listed w ↦ other_name k name (ap (λ (x : List (List ℕ)). is_listed x name) (sym w.valid_principals.ensures) ∙ sym (mapped name w.valid_principals.result.now) ∙ sym w.is_listed.ensures ∙ w.if-not-is_listed.true)
    ])

pub returns-in_default-clause-answer : goal.returns-in_default-clause-answer
returns-in_default-clause-answer c =
    let k = certificate_of c.args.certificate.now in
    let name = c.args.line.now.name.now in
    of_unread k name (option_map (λ o. o.now) c.args.line.now.options) (ap (λ (o : Option (Bor (List ℕ))). option_map (λ (x : Bor (List ℕ)). x.now) o) c.in_default.is) (listed_name k name (sym c.is_empty.ensures ∙ c.if-is_empty.false) (ap (λ (x : List (List ℕ)). is_listed x name) (sym c.valid_principals.ensures) ∙ sym (mapped name c.valid_principals.result.now) ∙ sym c.is_listed.ensures ∙ c.if-not-is_listed.false))

pub returns-clause-answer : goal.returns-clause-answer
returns-clause-answer c =
    let k = certificate_of c.args.certificate.now in
    let name = c.args.line.now.name.now in
    let options : Some c.in-Some.options.now ≡ option_map (λ o. o.now) c.args.line.now.options = sym (ap (λ (o : Option (Bor (List ℕ))). option_map (λ (x : Bor (List ℕ)). x.now) o) c.in-Some.is) in
    subst (λ (o : Option (List ℕ)). IfOk c.read_terms.result (Tells terms_of (DecidesBy k name o) (MayDecideBy k name o))) options (of_one k name c.in-Some.options.now (listed_name k name (sym c.is_empty.ensures ∙ c.if-is_empty.false) (ap (λ (x : List (List ℕ)). is_listed x name) (sym c.valid_principals.ensures) ∙ sym (mapped name c.valid_principals.result.now) ∙ sym c.is_listed.ensures ∙ c.if-not-is_listed.false)) c.read_terms.result c.read_terms.ensures)

pub returns-clause-asks : goal.returns-clause-asks
returns-clause-asks c =
    let k = certificate_of c.args.certificate.now in
    let name = c.args.line.now.name.now in
    of_error c.read_terms.result (listed_name k name (sym c.is_empty.ensures ∙ c.if-is_empty.false) (ap (λ (x : List (List ℕ)). is_listed x name) (sym c.valid_principals.ensures) ∙ sym (mapped name c.valid_principals.result.now) ∙ sym c.is_listed.ensures ∙ c.if-not-is_listed.false))
