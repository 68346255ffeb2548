use Rattle.std.proofs.Common.{List, ℕ, [], ◌∷◌, ◌++◌, ap, sym, subst, ◌∙◌, append_assoc, append-nil}
use Rattle.sshkey_entries.specs.Fields.{filled_lines}
use Rattle.sshkey_entries.specs.HostVerdicts.{known_name}
use Rattle.sshkey_keys.specs.Keys.{key_of}
use Rattle.sshkey_known_hosts.specs.Verdicts.{IsVerdict}
use Rattle.sshkey_known_hosts.specs.declared.verdict.Verdict.TheVariants.{Unknown}
use Rattle.sshkey_known_hosts.proofs.Verdicts.{no_lines, nothing}
use Rattle.sshkey_known_hosts.proofs.verdict.key_verdict.Goals as goal

pub loop-line-preserved : goal.loop-line-preserved
loop-line-preserved g c =
    let was = c.loop-line.invariant.2 in
    let hmac = g.H.HostHasher.hmac c.args.hmac.now in
    let name = known_name c.args.host.now c.args.port in
    let key = key_of c.args.key.now in
    let line = c.in-Some.line.now in
    let said = subst (λ (n : List ℕ). IsVerdict hmac n key (line ∷ []) c.in_ok-line_verdict.field-0) (c.as_str.ensures.value ∙ c.in_ok-name.ensures.name) c.in_ok-line_verdict.ensures.answer in (
      tt,
      tt,
      (
        was.0 ++ (line ∷ []),
        was.1 ∙ ap (λ (l : List (List ℕ)). was.0 ++ l) c.in-Some.ensures.steps ∙ sym (append_assoc was.0 (line ∷ []) c.next.new.self),
        c.max_severity-found.ensures.together hmac name key was.0 (line ∷ []) was.2 said,
      ),
    )

pub returns-clause-answer : goal.returns-clause-answer
returns-clause-answer g c =
    let was = c.loop-line.invariant.2 in
    let hmac = g.H.HostHasher.hmac c.args.hmac.now in
    let name = known_name c.args.host.now c.args.port in
    subst (λ (l : List (List ℕ)). IsVerdict hmac name (key_of c.args.key.now) l c.loop-line.found) (sym (was.1 ∙ ap (λ (l : List (List ℕ)). was.0 ++ l) c.in-None.ensures.steps.0 ∙ append-nil was.0)) was.2

pub returns-then-not-has_lines-clause-answer : goal.returns-then-not-has_lines-clause-answer
returns-then-not-has_lines-clause-answer g c =
    let hmac = g.H.HostHasher.hmac c.args.hmac.now in
    let name = known_name c.args.host.now c.args.port in
    let key = key_of c.args.key.now in
    let none = no_lines (filled_lines c.args.text.now) (λ some. cc (sym c.if-not-has_lines.true ∙ c.has_lines.ensures.1 some)) in
    subst (λ (l : List (List ℕ)). IsVerdict hmac name key l Unknown) (sym none) (nothing hmac name key)
