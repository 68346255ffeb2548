use Rattle.std.proofs.Common.{rules, ◌<◌, ◌∙◌, arith, List, ℕ, [], ◌∷◌, ◌++◌, ap, append_assoc, append-nil, eqb-true, length, refl, subst, sym}
use Rattle.std.proofs.lemmas.List.{length-append}
use Rattle.std.specs.List.{Any}
use Rattle.std.specs.Str.Lines.{lines}
use Rattle.sshkey_entries.proofs.ByteLines.{left_smaller, no_lines_left}
use Rattle.sshkey_entries.specs.HostVerdicts.{known_name}
use Rattle.sshkey_known_hosts.proofs.UnreadableLines.{none_filled, none_more}
use Rattle.sshkey_known_hosts.specs.Verdicts.{HidesEntryIn}
use Rattle.sshkey_known_hosts.proofs.unreadable.unreadable_line.Goals as goal

pub returns-then-not-has_lines-clause-answer : goal.returns-then-not-has_lines-clause-answer
returns-then-not-has_lines-clause-answer g c =
    none_filled (g.H.HostHasher.hmac c.args.hmac.now) (known_name c.args.host.now c.args.port) c.args.text.now (λ some. cc (sym c.if-not-has_lines.true ∙ c.has_lines.ensures.1 some))

pub lines-init : goal.lines-init
lines-init g c = ([], refl, λ s. omega (arith, s.2), refl, omega arith)

pub lines-preserved : goal.lines-preserved
lines-preserved g c =
    let was = c.lines.invariant in
    let hmac = g.H.HostHasher.hmac c.args.hmac.now in
    let name = known_name c.args.host.now c.args.port in
    let line = c.split_line.result.0.now in
    let after = c.split_line.result.1.now in
    let less : length after < length c.lines.left.now = left_smaller c.lines.left.now line after (search rules) c.split_line.ensures in
    let named = subst (λ (n : List ℕ). HidesEntryIn hmac n line → ⊥) (c.as_str.ensures.value ∙ c.in_ok-name.ensures.name) (λ h. cc (sym c.if-branch.false ∙ c.in_ok-hides_entry.ensures.answer.1 h)) in (
      was.0 ++ (line ∷ []),
      was.1 ∙ ap (λ (l : List (List ℕ)). was.0 ++ l) c.split_line.ensures.first ∙ sym (append_assoc was.0 (line ∷ []) (lines after)),
      none_more (HidesEntryIn hmac name) was.0 line was.2 named,
      omega (arith, was.3, length-append was.0 (line ∷ [])),
      omega (arith, was.4, less),
    )

pub lines-smaller : goal.lines-smaller
lines-smaller g c = left_smaller c.lines.left.now c.split_line.result.0.now c.split_line.result.1.now (search rules) c.split_line.ensures

pub returns-then-branch-clause-answer : goal.returns-then-branch-clause-answer
returns-then-branch-clause-answer g c =
    let was = c.lines.invariant in
    let hmac = g.H.HostHasher.hmac c.args.hmac.now in
    let line = c.split_line.result.0.now in
    let named = subst (λ (n : List ℕ). HidesEntryIn hmac n line) (c.as_str.ensures.value ∙ c.in_ok-name.ensures.name) (c.in_ok-hides_entry.ensures.answer.0 c.if-branch.true) in
    (was.0, line, lines c.split_line.result.1.now, was.1 ∙ ap (λ (l : List (List ℕ)). was.0 ++ l) c.split_line.ensures.first, was.2, named, omega (arith, was.3))

pub returns-clause-answer : goal.returns-clause-answer
returns-clause-answer g c =
    let was = c.lines.invariant in
    let none = no_lines_left c.lines.left.now (eqb-true (length c.lines.left.now) 0 (sym c.is_empty.ensures ∙ (let h = c.lines-test.false in cc))) in
    subst (λ (all : List (List ℕ)). Any (HidesEntryIn (g.H.HostHasher.hmac c.args.hmac.now) (known_name c.args.host.now c.args.port)) all → ⊥) (sym (was.1 ∙ ap (λ (l : List (List ℕ)). was.0 ++ l) none ∙ append-nil was.0)) was.2
