use Rattle.std.proofs.Common.{◌≡◌, ◌∙◌, ◌∷◌, ◌++◌, Some, None, ap, arith, length, List, lit<, sym, ℕ}
use Rattle.std.proofs.lemmas.Str.Pattern.{split_after, split_parts, strip_prefix_char}
use Rattle.login_terms.specs.Values.{closing_bracket, colon}
use Rattle.login_terms.proofs.Hosts.{same_parts}
use Rattle.login_terms.proofs.permits.split_bracketed.Goals as goal

pub returns-in_default : goal.returns-in_default
returns-in_default c = λ p is. split_after closing_bracket c.args.inside.now p.0 (colon ∷ p.1) None c.in_default.ensures.cases (lit< tt) is.0.is is.0.one_host

pub returns-in_default-strip_prefix : goal.returns-in_default-strip_prefix
returns-in_default-strip_prefix c = λ p is.
    let same = split_after closing_bracket c.args.inside.now p.0 (colon ∷ p.1) (Some (c.in-Some.host, c.in-Some.after)) c.in-Some.ensures.cases (lit< tt) is.0.is is.0.one_host in
    strip_prefix_char colon c.in-Some.after.now None c.in_default-strip_prefix.ensures.cases (lit< tt) p.1 same.1

pub returns-then-host : goal.returns-then-host
returns-then-host c = λ p is.
    let same = split_after closing_bracket c.args.inside.now p.0 (colon ∷ p.1) (Some (c.in-Some.host, c.in-Some.after)) c.in-Some.ensures.cases (lit< tt) is.0.is is.0.one_host in
    omega (arith, is.1, c.if-host.true, ap length same.0)

pub returns : goal.returns
returns c =
    let parts = split_parts closing_bracket c.args.inside.now (Some (c.in-Some.host, c.in-Some.after)) c.in-Some.ensures.cases (lit< tt) in
    let after = strip_prefix_char colon c.in-Some.after.now (Some c.in-Some-strip_prefix.port) c.in-Some-strip_prefix.ensures.cases (lit< tt) in (
      (record { is = parts.0 ∙ ap (λ (b : List ℕ). c.in-Some.host.now ++ (closing_bracket ∷ b)) after; one_host = parts.1 }, omega (arith, c.if-host.false)),
      λ p is.
          let same = split_after closing_bracket c.args.inside.now p.0 (colon ∷ p.1) (Some (c.in-Some.host, c.in-Some.after)) c.in-Some.ensures.cases (lit< tt) is.0.is is.0.one_host in
          let rest : colon ∷ p.1 ≡ colon ∷ c.in-Some-strip_prefix.port.now = sym same.1 ∙ after in
          same_parts p.0 c.in-Some.host.now p.1 c.in-Some-strip_prefix.port.now (sym same.0) (cc rest),
    )
