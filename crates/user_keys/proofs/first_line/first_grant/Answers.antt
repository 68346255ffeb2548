use Rattle.std.proofs.Common.{◌≡◌, ◌∙◌, arith, List, ℕ, [], ◌∷◌, ◌++◌, ◌+◌, None, ap, append-nil, append_assoc, inl, inr, subst, sym}
use Rattle.std.proofs.lemmas.List.{length-append}
use Rattle.std.specs.List.{Any}
use Rattle.std.specs.Str.Lines.{lines}
use Rattle.login_terms.specs.Options.{terms_of}
use Rattle.user_keys.specs.Answers.{IsWhyNoLine, SaysOf}
use Rattle.sshkey_model.specs.Keys.{Key}
use Rattle.user_keys.specs.Spellings.{AreMarks, MaySpell, own_part}
use Rattle.user_keys.specs.UserLogins.{Ends, GrantsFirst, Lets, MayLet, credential_of, listed_key, login_of}
use Rattle.user_keys.proofs.Lines.{none_ends, none_listed}
use Rattle.user_keys.proofs.FirstLines.{RefusedBy, asked, granted, here, none_lets, none_more, nothing_lets, out_of_memory, passed, refused_also, strict, why}
use Rattle.user_keys.proofs.first_line.first_grant.Goals as goal

pub returns-in_err-terms-clause-exactly : goal.returns-in_err-terms-clause-exactly
returns-in_err-terms-clause-exactly c = out_of_memory (GrantsFirst (login_of c.args.login.now) (credential_of c.args.credential)) c.from_residual.result c.from_residual.ensures.1

pub returns-in_err-terms-clause-asks : goal.returns-in_err-terms-clause-asks
returns-in_err-terms-clause-asks c =
    let was = c.loop-text.invariant in
    let login = login_of c.args.login.now in
    let by = credential_of c.args.credential in
    let line = c.in-Some.text.now in
    let left = c.in-Some.more.now in
    let all = was.1 ∙ ap (λ (l : List (List ℕ)). was.0 ++ l) c.in-Some.ensures.0 in
    let Spelled : List ℕ → Type 0 = MaySpell (own_part (listed_key by)) in
    asked login by c.from_residual.result (subst (Any Spelled) (sym all) (here Spelled was.0 line (lines left) c.in_err-terms.ensures.asks))

pub returns-in-Lets-clause-exactly : goal.returns-in-Lets-clause-exactly
returns-in-Lets-clause-exactly c =
    let was = c.loop-text.invariant in
    let login = login_of c.args.login.now in
    let by = credential_of c.args.credential in
    let line = c.in-Some.text.now in
    let left = c.in-Some.more.now in
    let all = was.1 ∙ ap (λ (l : List (List ℕ)). was.0 ++ l) c.in-Some.ensures.0 in
    let says = subst (SaysOf login by line) c.in-Lets.is c.in_ok-terms.ensures.answer in
    granted login by (record { line = c.loop-text.line + 1; terms = c.in-Lets.terms; certified = None }) line (record { before = was.0; after = lines left; is = all; none = was.2; holds = inl (terms_of c.in-Lets.terms, says.0); counted = omega (arith, was.4) }) says

pub returns-in-Lets-clause-as_strict : goal.returns-in-Lets-clause-as_strict
returns-in-Lets-clause-as_strict c =
    let was = c.loop-text.invariant in
    let login = login_of c.args.login.now in
    let by = credential_of c.args.credential in
    let line = c.in-Some.text.now in
    let left = c.in-Some.more.now in
    let all = was.1 ∙ ap (λ (l : List (List ℕ)). was.0 ++ l) c.in-Some.ensures.0 in
    let says = subst (SaysOf login by line) c.in-Lets.is c.in_ok-terms.ensures.answer in
    strict (Lets login by) (MayLet login by) login.lines (c.loop-text.line + 1) (terms_of c.in-Lets.terms) (granted login by (record { line = c.loop-text.line + 1; terms = c.in-Lets.terms; certified = None }) line (record { before = was.0; after = lines left; is = all; none = was.2; holds = inl (terms_of c.in-Lets.terms, says.0); counted = omega (arith, was.4) }) says)

pub returns-in-Unclear-clause-exactly : goal.returns-in-Unclear-clause-exactly
returns-in-Unclear-clause-exactly c =
    let was = c.loop-text.invariant in
    let login = login_of c.args.login.now in
    let by = credential_of c.args.credential in
    let line = c.in-Some.text.now in
    let left = c.in-Some.more.now in
    let all = was.1 ∙ ap (λ (l : List (List ℕ)). was.0 ++ l) c.in-Some.ensures.0 in
    let says = subst (SaysOf login by line) c.in-Unclear.is c.in_ok-terms.ensures.answer in
    λ other g. none_lets (Lets login by) (MayLet login by) login.lines line (c.loop-text.line + 1) (record { before = was.0; after = lines left; is = all; none = was.2; holds = inr says.0; counted = omega (arith, was.4) }) says.0 g.line (terms_of g.terms)

pub returns-in-Unclear-clause-refused : goal.returns-in-Unclear-clause-refused
returns-in-Unclear-clause-refused c =
    let was = c.loop-text.invariant in
    let login = login_of c.args.login.now in
    let by = credential_of c.args.credential in
    let line = c.in-Some.text.now in
    let left = c.in-Some.more.now in
    let all = was.1 ∙ ap (λ (l : List (List ℕ)). was.0 ++ l) c.in-Some.ensures.0 in
    let says = subst (SaysOf login by line) c.in-Unclear.is c.in_ok-terms.ensures.answer in
    λ other. (line, record { before = was.0; after = lines left; is = all; none = was.2; holds = inr says.0; counted = omega (arith, was.4) }, says.0)

pub loop-text-preserved-in-Refuses : goal.loop-text-preserved-in-Refuses
loop-text-preserved-in-Refuses c =
    let was = c.loop-text.invariant in
    let login = login_of c.args.login.now in
    let by = credential_of c.args.credential in
    let line = c.in-Some.text.now in
    let left = c.in-Some.more.now in
    let all = was.1 ∙ ap (λ (l : List (List ℕ)). was.0 ++ l) c.in-Some.ensures.0 in
    let says = subst (SaysOf login by line) c.in-Refuses.is c.in_ok-terms.ensures.answer in
    let also = refused_also login by was.0 line (c.loop-text.line + 1) c.in-Refuses.reason c.loop-text.refused (omega (arith, was.4)) was.3 says.0 in (
      was.0 ++ (line ∷ []),
      all ∙ sym (append_assoc was.0 (line ∷ []) (lines left)),
      none_more (Ends login by) was.0 line was.2 says.1,
      subst (RefusedBy login by (was.0 ++ (line ∷ []))) (sym c.first_refused-refused.ensures) also,
      omega (arith, was.4, length-append was.0 (line ∷ [])),
      omega (arith, was.5, c.in-Some.ensures.1),
    )

pub loop-text-preserved : goal.loop-text-preserved
loop-text-preserved c =
    let was = c.loop-text.invariant in
    let login = login_of c.args.login.now in
    let by = credential_of c.args.credential in
    let line = c.in-Some.text.now in
    let left = c.in-Some.more.now in
    let all = was.1 ∙ ap (λ (l : List (List ℕ)). was.0 ++ l) c.in-Some.ensures.0 in
    let says = subst (SaysOf login by line) c.in-Passes.is c.in_ok-terms.ensures.answer in (
      was.0 ++ (line ∷ []),
      all ∙ sym (append_assoc was.0 (line ∷ []) (lines left)),
      none_more (Ends login by) was.0 line was.2 says.1,
      passed login by was.0 line c.loop-text.refused was.3 says.0,
      omega (arith, was.4, length-append was.0 (line ∷ [])),
      omega (arith, was.5, c.in-Some.ensures.1),
    )

pub returns-clause-exactly : goal.returns-clause-exactly
returns-clause-exactly c =
    let was = c.loop-text.invariant in
    let login = login_of c.args.login.now in
    let by = credential_of c.args.credential in
    let all : login.lines ≡ was.0 = was.1 ∙ ap (λ (l : List (List ℕ)). was.0 ++ l) c.in_default.ensures ∙ append-nil was.0 in
    λ other g. nothing_lets (Lets login by) (MayLet login by) login.lines (λ some. was.2 (subst (Any (Ends login by)) all some)) g.line (terms_of g.terms)

pub returns-clause-refused : goal.returns-clause-refused
returns-clause-refused c =
    let was = c.loop-text.invariant in
    let login = login_of c.args.login.now in
    let by = credential_of c.args.credential in
    let all : login.lines ≡ was.0 = was.1 ∙ ap (λ (l : List (List ℕ)). was.0 ++ l) c.in_default.ensures ∙ append-nil was.0 in
    λ other. subst (IsWhyNoLine login by) (sym c.refusal_for.ensures) (why login by c.loop-text.refused (λ some. was.2 (subst (Any (Ends login by)) all some)) (subst (λ (l : List (List ℕ)). RefusedBy login by l c.loop-text.refused) (sym all) was.3))

pub loop-text-init : goal.loop-text-init
loop-text-init c =
    let login = login_of c.args.login.now in
    let by = credential_of c.args.credential in
    let skipped = c.skip_lines-line.ensures in
    let are : AreMarks (own_part (listed_key by)) c.of-marks.result = subst (λ (k : Key). AreMarks (own_part k) c.of-marks.result) c.listed_key.ensures c.of-marks.ensures in (
      skipped.before,
      skipped.is,
      none_ends login by c.requires c.of-marks.result are skipped.before skipped.unmarked,
      none_listed login by c.requires c.of-marks.result are skipped.before skipped.unmarked,
      skipped.counted,
      skipped.smaller,
    )
