use Rattle.std.proofs.Common.{◌≡◌, ◌∙◌, ◌++◌, ◌∷◌, [], List, ℕ, ap, subst, sym}
use Rattle.sshkey_entries.specs.HostVerdicts.{known_name, standard_port}
use Rattle.sshkey_known_hosts.specs.HeldLines.{lines_of, SaySame}
use Rattle.sshkey_known_hosts.specs.HeldNames.{IsAmong, name_hash}
use Rattle.sshkey_known_hosts.proofs.HeldLines.{all_held, kept, left_out}
use Rattle.sshkey_known_hosts.proofs.held.texts_for.Goals as goal
use Rattle.sshkey_known_hosts.proofs.held.texts_for.Goals.{then-is_perhaps_for+in_ok-push, else-is_perhaps_for+else-is_perhaps_for-2}

pub loop-line-preserved : goal.loop-line-preserved
loop-line-preserved c hmac =
    let was = c.loop-line.invariant hmac in
    let own = known_name c.args.host.now c.args.port in
    let plain = known_name c.args.host.now standard_port in
    let held = c.args.held.now in
    let line = c.line-item.result in
    let texts = c.loop-line.texts.items in
    let more = c.if-is_perhaps_for.texts.items in
    let own_hash : c.name_hash-own.result ≡ name_hash own = c.name_hash-own.ensures ∙ ap name_hash (c.as_bytes.ensures.value ∙ c.as_str.ensures.value ∙ c.in_ok-known_name.ensures.name) in
    let plain_hash : c.name_hash-plain.result ≡ name_hash plain = c.name_hash-plain.ensures ∙ ap name_hash (c.as_bytes-2.ensures.value ∙ c.as_str-2.ensures.value ∙ c.in_ok-known_name-2.ensures.name) in
    elim c.if-is_perhaps_for.branch [
      | then-is_perhaps_for+in_ok-push w ↦
          let added : more ≡ texts ++ (line.text ∷ []) = (let is = w.texts-is in let items = w.in_ok-push.ensures.items in cc) in (
            kept hmac own held c.loop-line.line-index line c.loop-line-test.true c.line-item.is texts more was.0 added,
            kept hmac plain held c.loop-line.line-index line c.loop-line-test.true c.line-item.is texts more was.1 added,
          )
      | else-is_perhaps_for+else-is_perhaps_for-2 w ↦
          let still : more ≡ texts = (let is = w.texts-is in cc) in
          let not_own : IsAmong line.names (name_hash own) → ⊥ = λ among. cc (sym w.if-is_perhaps_for.false ∙ c.is_perhaps_for.ensures.1 (subst (IsAmong line.names) (sym own_hash) among)) in
          let not_plain : IsAmong line.names (name_hash plain) → ⊥ = λ among. cc (sym w.if-is_perhaps_for-2.false ∙ w.is_perhaps_for-else-is_perhaps_for.ensures.1 (subst (IsAmong line.names) (sym plain_hash) among)) in (
            left_out hmac own held c.loop-line.line-index line c.loop-line-test.true c.line-item.is texts more was.0 still (line.names_told hmac own not_own),
            left_out hmac plain held c.loop-line.line-index line c.loop-line-test.true c.line-item.is texts more was.1 still (line.names_told hmac plain not_plain),
          )
    ]

pub returns-clause-own : goal.returns-clause-own
returns-clause-own c hmac = subst (λ (lines : List (List ℕ)). SaySame hmac (known_name c.args.host.now c.args.port) lines (lines_of c.loop-line.texts.items)) (all_held c.args.held.now c.loop-line.line-index c.loop-line-test.false) (c.loop-line.invariant hmac).0

pub returns-clause-plain : goal.returns-clause-plain
returns-clause-plain c hmac = subst (λ (lines : List (List ℕ)). SaySame hmac (known_name c.args.host.now standard_port) lines (lines_of c.loop-line.texts.items)) (all_held c.args.held.now c.loop-line.line-index c.loop-line-test.false) (c.loop-line.invariant hmac).1
