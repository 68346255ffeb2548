use Rattle.std.proofs.Common.{Some, List, ap, subst, ℕ}
use Rattle.std.specs.Prelude.{string_bytes}
use Rattle.sshkey_matching.specs.Times.{IsTimeText}
use Rattle.sshkey_matching.specs.declared.times.Span.{Span}
use Rattle.sshkey_entries.specs.Answers.{Tells}
use Rattle.login_terms.specs.Options.{earlier, terms_of}
use Rattle.login_terms.specs.Values.{MayBeTime}
use Rattle.sshkey_entries.specs.declared.reading.Reading.TheVariants.{Is, Rejected, Unclear}
use Rattle.login_terms.proofs.Added.{adds, adds_none}
use Rattle.login_terms.proofs.terms.Terms.with_expiry.Goals as goal

pub returns-in-Is : goal.returns-in-Is
returns-in-Is c =
    let s = terms_of c.args.self in
    let told = subst (λ (v : List ℕ). Tells (λ (n : Span). n) (IsTimeText v) (MayBeTime v) (Is c.in-Is.time)) c.as_str.ensures.value c.in-Is.ensures in
    adds (IsTimeText (string_bytes c.args.value)) (MayBeTime (string_bytes c.args.value)) (λ (n : Span). record s { expires = Some (earlier s.expires n) }) c.in-Is.time _
    (ap (λ (x : Span). record s { expires = Some x }) c.earlier.ensures) told

pub returns-in-Rejected : goal.returns-in-Rejected
returns-in-Rejected c =
    let s = terms_of c.args.self in
    let told = subst (λ (v : List ℕ). Tells (λ (n : Span). n) (IsTimeText v) (MayBeTime v) Rejected) c.as_str.ensures.value c.in-Rejected.ensures in
    (adds_none (IsTimeText (string_bytes c.args.value)) (MayBeTime (string_bytes c.args.value)) (λ (n : Span). record s { expires = Some (earlier s.expires n) }) told.0, told.1)

pub returns-in-Unclear : goal.returns-in-Unclear
returns-in-Unclear c =
    let s = terms_of c.args.self in
    let told = subst (λ (v : List ℕ). Tells (λ (n : Span). n) (IsTimeText v) (MayBeTime v) Unclear) c.as_str.ensures.value c.in-Unclear.ensures in
    (adds_none (IsTimeText (string_bytes c.args.value)) (MayBeTime (string_bytes c.args.value)) (λ (n : Span). record s { expires = Some (earlier s.expires n) }) told.0, told.1)
