use Rattle.std.proofs.Common.{◌≡◌, rules, List, ℕ, [], ◌∷◌, ◌++◌, ap, sym, subst, ◌∙◌, append_assoc, append-nil}
use Rattle.sshkey_entries.specs.Fields.{filled_lines}
use Rattle.sshkey_entries.specs.HostVerdicts.{known_name}
use Rattle.sshkey_known_hosts.specs.Verdicts.{AreAuthorities, AreInOrder, IsAuthorityLine}
use Rattle.sshkey_known_hosts.proofs.AuthorityKeys.{in_any_order, no_more, one_more}
use Rattle.sshkey_known_hosts.proofs.Verdicts.{no_lines}
use Rattle.sshkey_known_hosts.proofs.authority.authorities.Goals as goal

pub returns-clause-in_order : goal.returns-clause-in_order
returns-clause-in_order g c =
    let was = c.loop-line.invariant.2 in
    subst (λ (l : List (List ℕ)). AreInOrder (g.H.HostHasher.hmac c.args.hmac.now) (known_name c.args.host.now c.args.port) l c.loop-line.found.items) (sym (was.1 ∙ ap (λ (l : List (List ℕ)). was.0 ++ l) c.in-None.ensures.steps.0 ∙ append-nil was.0)) was.2

pub returns-clause-answer : goal.returns-clause-answer
returns-clause-answer g c =
    let was = c.loop-line.invariant.2 in
    subst (λ (l : List (List ℕ)). AreAuthorities (g.H.HostHasher.hmac c.args.hmac.now) (known_name c.args.host.now c.args.port) l c.loop-line.found.items) (sym (was.1 ∙ ap (λ (l : List (List ℕ)). was.0 ++ l) c.in-None.ensures.steps.0 ∙ append-nil was.0))
    (in_any_order (g.H.HostHasher.hmac c.args.hmac.now) (known_name c.args.host.now c.args.port) was.0 c.loop-line.found.items was.2)

pub loop-line-preserved : goal.loop-line-preserved
loop-line-preserved g c =
    let was = c.loop-line.invariant.2 in
    let hmac = g.H.HostHasher.hmac c.args.hmac.now in
    let name = known_name c.args.host.now c.args.port in
    let line = c.in-Some.line.now in
    let named = subst (λ (n : List ℕ). IsAuthorityLine hmac n line c.in_ok-key.field-0) (c.as_str.ensures.value ∙ c.in_ok-name.ensures.name) c.in_ok-key.ensures.answer in
    let said = subst (IsAuthorityLine hmac name line) c.in_default.is named in (
      tt,
      tt,
      (
        was.0 ++ (line ∷ []),
        was.1 ∙ ap (λ (l : List (List ℕ)). was.0 ++ l) c.in-Some.ensures.steps ∙ sym (append_assoc was.0 (line ∷ []) c.next.new.self),
        no_more hmac name was.0 c.loop-line.found.items line was.2 said,
      ),
    )

pub loop-line-preserved-in-Continue-branch-4 : goal.loop-line-preserved-in-Continue-branch-4
loop-line-preserved-in-Continue-branch-4 g c =
    let was = c.loop-line.invariant.2 in
    let hmac = g.H.HostHasher.hmac c.args.hmac.now in
    let name = known_name c.args.host.now c.args.port in
    let line = c.in-Some.line.now in
    let named = subst (λ (n : List ℕ). IsAuthorityLine hmac n line c.in_ok-key.field-0) (c.as_str.ensures.value ∙ c.in_ok-name.ensures.name) c.in_ok-key.ensures.answer in
    let said = subst (IsAuthorityLine hmac name line) c.in-Some-2.is named in (
      tt,
      tt,
      (
        was.0 ++ (line ∷ []),
        was.1 ∙ ap (λ (l : List (List ℕ)). was.0 ++ l) c.in-Some.ensures.steps ∙ sym (append_assoc was.0 (line ∷ []) c.next.new.self),
        subst (AreInOrder hmac name (was.0 ++ (line ∷ []))) (sym c.in_ok-push.ensures.items) (one_more hmac name was.0 c.loop-line.found.items line _ was.2 said),
      ),
    )

pub returns-then-not-has_lines-clause-in_order : goal.returns-then-not-has_lines-clause-in_order
returns-then-not-has_lines-clause-in_order g c =
    let none = no_lines (filled_lines c.args.text.now) (λ some. cc (sym c.if-not-has_lines.true ∙ c.has_lines.ensures.1 some)) in
    subst (λ (l : List (List ℕ)). AreInOrder (g.H.HostHasher.hmac c.args.hmac.now) (known_name c.args.host.now c.args.port) l c.new.result.items) (sym none) c.new.ensures.items

pub returns-then-not-has_lines-clause-answer : goal.returns-then-not-has_lines-clause-answer
returns-then-not-has_lines-clause-answer g c =
    let hmac = g.H.HostHasher.hmac c.args.hmac.now in
    let name = known_name c.args.host.now c.args.port in
    let none = no_lines (filled_lines c.args.text.now) (λ some. cc (sym c.if-not-has_lines.true ∙ c.has_lines.ensures.1 some)) in
    subst (λ (l : List (List ℕ)). AreAuthorities hmac name l c.new.result.items) (sym none) (in_any_order hmac name [] c.new.result.items c.new.ensures.items)

pub loop-line-init : goal.loop-line-init
loop-line-init g c =
    let all : filled_lines c.args.text.now ≡ c.into_iter-line-iterator.result = search rules in
    (tt, tt, ([], all, c.new-found.ensures.items))
