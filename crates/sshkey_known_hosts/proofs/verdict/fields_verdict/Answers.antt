use Rattle.std.proofs.Common.{[], ◌∷◌, ap, refl, sym, subst, ◌∙◌, option_map}
use Rattle.sshkey_model.specs.Keys.{IsKey}
use Rattle.sshkey_keys.specs.Keys.{key_of}
use Rattle.sshkey_known_hosts.specs.HostEntries.{marker_of}
use Rattle.sshkey_known_hosts.specs.HostLines.{IsToHost}
use Rattle.sshkey_known_hosts.specs.Verdicts.{IsVerdict}
use Rattle.sshkey_known_hosts.proofs.Verdicts.{by_marker, by_other_marker, hides, passed_over}
use Rattle.sshkey_known_hosts.proofs.verdict.fields_verdict.Goals as goal

pub returns-in-ForOthers-clause-answer : goal.returns-in-ForOthers-clause-answer
returns-in-ForOthers-clause-answer c hmac name line h =
    passed_over hmac name (key_of c.args.key.now) line (subst (IsToHost hmac name line) c.in-ForOthers.is (c.in_ok-read_fields.ensures.answer hmac name line h))

pub returns-in-Entry-clause-answer : goal.returns-in-Entry-clause-answer
returns-in-Entry-clause-answer c hmac name line h =
    let key = key_of c.args.key.now in
    let it = subst (IsToHost hmac name line) c.in-Entry.is (c.in_ok-read_fields.ensures.answer hmac name line h) in
    let l = it.0 in
    let own = ap key_of c.key_data.ensures ∙ sym l.key_is in
    let well_formed = subst IsKey (sym own) l.read.fields.spelled.is in
    subst (IsVerdict hmac name key (line ∷ [])) (sym c.marked_verdict.ensures)
    (by_marker hmac name key line l.entry l.read c.in-Entry.marker c.is-same.result l.marker_is (λ t. sym own ∙ c.is-same.ensures.same t, λ e. c.is-same.ensures.equal well_formed (own ∙ e)) l.is_for)

pub returns-in-OtherKey-clause-answer : goal.returns-in-OtherKey-clause-answer
returns-in-OtherKey-clause-answer c hmac name line h =
    let key = key_of c.args.key.now in
    let l = subst (IsToHost hmac name line) c.in-OtherKey.is (c.in_ok-read_fields.ensures.answer hmac name line h) in
    subst (IsVerdict hmac name key (line ∷ [])) (sym c.marked_verdict-in-OtherKey.ensures)
    (by_other_marker hmac name key line (option_map marker_of c.in-OtherKey.marker) l.hosts l.read c.in-OtherKey.marker refl l.is_for)

pub returns-in-Unreadable-clause-answer : goal.returns-in-Unreadable-clause-answer
returns-in-Unreadable-clause-answer c hmac name line h =
    let it = subst (IsToHost hmac name line) c.in-Unreadable.is (c.in_ok-read_fields.ensures.answer hmac name line h) in
    hides hmac name (key_of c.args.key.now) line it.0 it
