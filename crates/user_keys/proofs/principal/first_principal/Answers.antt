use Rattle.std.proofs.Common.{◌≡◌, ◌∙◌, ◌+◌, ◌++◌, ℕ, List, [], ◌∷◌, IsTrue, ap, append_assoc, arith, inl, option_map, refl, subst, sym}
use Rattle.std.proofs.lemmas.List.{length-append}
use Rattle.std.specs.List.{Any}
use Rattle.sshkey_entries.specs.Answers.{Tells}
use Rattle.login_terms.specs.Options.{terms_of}
use Rattle.sshkey_entries.specs.declared.reading.Reading.{Reading}
use Rattle.login_terms.specs.declared.terms.Terms as code
use Rattle.sshkey_cert.specs.Certificates.{certificate_of}
use Rattle.user_keys.specs.UserLogins.{EndsBy}
use Rattle.user_keys.specs.Principals.{Decides, MayDecide, SplitsLine, is_principal, lines_at_feeds}
use Rattle.user_keys.proofs.FirstLines.{none_more}
use Rattle.user_keys.proofs.Principals.{decided, first_of, if_memory, names_in, no_end, of_line, untold}
use Rattle.user_keys.proofs.principal.first_principal.Goals as goal

pub returns-in_err-terms-clause-asks : goal.returns-in_err-terms-clause-asks
returns-in_err-terms-clause-asks c =
    let k = certificate_of c.args.certificate.now in
    let was = c.lines.invariant in
    let line = c.split_line.result.0.now in
    let first = first_of c.lines.rest.now line c.split_line.result.1 c.split_line.ensures in
    let all = was.1 ∙ ap (λ (x : List (List ℕ)). was.0 ++ x) first.1 in
    if_memory c.from_residual.result (names_in k (lines_at_feeds c.args.text.now) was.0 first.0 line all (subst (λ (n : List ℕ). IsTrue (is_principal k n)) c.of-entry.ensures.name c.in_err-terms.ensures.asks))

pub returns-in-Is-clause-exactly : goal.returns-in-Is-clause-exactly
returns-in-Is-clause-exactly c =
    let k = certificate_of c.args.certificate.now in
    let was = c.lines.invariant in
    let line = c.split_line.result.0.now in
    let first = first_of c.lines.rest.now line c.split_line.result.1 c.split_line.ensures in
    let all = was.1 ∙ ap (λ (x : List (List ℕ)). was.0 ++ x) first.1 in
    let told = of_line k c.of-entry.result.name.now (option_map (λ o. o.now) c.of-entry.result.options) line c.of-entry.ensures.name c.of-entry.ensures.options c.in_ok-terms.field-0 c.in_ok-terms.ensures.answer in
    (decided k (lines_at_feeds c.args.text.now) was.0 first.0 line (c.lines.line + 1) all was.2 (omega (arith, was.3)) c.in-Is.terms c.of-entry.result.name.now c.of-entry.ensures.name (subst (λ (r : Reading code.Terms). Tells terms_of (Decides k line) (MayDecide k line) r) c.in-Is.is told), refl)

pub returns-in-Unclear-clause-exactly : goal.returns-in-Unclear-clause-exactly
returns-in-Unclear-clause-exactly c =
    let k = certificate_of c.args.certificate.now in
    let was = c.lines.invariant in
    let line = c.split_line.result.0.now in
    let first = first_of c.lines.rest.now line c.split_line.result.1 c.split_line.ensures in
    let all = was.1 ∙ ap (λ (x : List (List ℕ)). was.0 ++ x) first.1 in
    let told = of_line k c.of-entry.result.name.now (option_map (λ o. o.now) c.of-entry.result.options) line c.of-entry.ensures.name c.of-entry.ensures.options c.in_ok-terms.field-0 c.in_ok-terms.ensures.answer in
    λ other. untold k (lines_at_feeds c.args.text.now) was.0 first.0 line (c.lines.line + 1) all was.2 (omega (arith, was.3)) (subst (λ (r : Reading code.Terms). Tells terms_of (Decides k line) (MayDecide k line) r) c.in-Unclear.is told)

pub returns-in_default-clause-exactly : goal.returns-in_default-clause-exactly
returns-in_default-clause-exactly c =
    let k = certificate_of c.args.certificate.now in
    let was = c.lines.invariant in
    let line = c.split_line.result.0.now in
    let first = first_of c.lines.rest.now line c.split_line.result.1 c.split_line.ensures in
    let all = was.1 ∙ ap (λ (x : List (List ℕ)). was.0 ++ x) first.1 in
    let told = of_line k c.of-entry.result.name.now (option_map (λ o. o.now) c.of-entry.result.options) line c.of-entry.ensures.name c.of-entry.ensures.options c.in_ok-terms.field-0 c.in_ok-terms.ensures.answer in
    let last : lines_at_feeds c.lines.rest.now ≡ line ∷ [] = subst (SplitsLine c.lines.rest.now line) c.in_default.is c.split_line.ensures in
    let whole = was.1 ∙ ap (λ (x : List (List ℕ)). was.0 ++ x) last in
    λ other. inl ((λ some. none_more (EndsBy (Decides k) (MayDecide k)) was.0 line was.2 (no_end k line (subst (λ (r : Reading code.Terms). Tells terms_of (Decides k line) (MayDecide k line) r) c.in-Rejected.is told)) (subst (Any (EndsBy (Decides k) (MayDecide k))) whole some)), refl)

pub lines-preserved : goal.lines-preserved
lines-preserved c =
    let k = certificate_of c.args.certificate.now in
    let was = c.lines.invariant in
    let line = c.split_line.result.0.now in
    let first = first_of c.lines.rest.now line c.split_line.result.1 c.split_line.ensures in
    let all = was.1 ∙ ap (λ (x : List (List ℕ)). was.0 ++ x) first.1 in
    let told = of_line k c.of-entry.result.name.now (option_map (λ o. o.now) c.of-entry.result.options) line c.of-entry.ensures.name c.of-entry.ensures.options c.in_ok-terms.field-0 c.in_ok-terms.ensures.answer in
    let step = subst (SplitsLine c.lines.rest.now line) c.in-Some.is c.split_line.ensures in (
      was.0 ++ (line ∷ []),
      was.1 ∙ ap (λ (x : List (List ℕ)). was.0 ++ x) step.0 ∙ sym (append_assoc was.0 (line ∷ []) (lines_at_feeds c.in-Some.next.now)),
      none_more (EndsBy (Decides k) (MayDecide k)) was.0 line was.2 (no_end k line (subst (λ (r : Reading code.Terms). Tells terms_of (Decides k line) (MayDecide k line) r) c.in-Rejected.is told)),
      omega (arith, was.3, length-append was.0 (line ∷ [])),
      omega (arith, was.4, step.1),
    )
