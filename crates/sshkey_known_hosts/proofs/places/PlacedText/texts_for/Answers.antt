use denote.Ref.{Bor}
use Rattle.std.proofs.Common.{◌≡◌, ◌∙◌, ◌++◌, ◌∷◌, [], List, ℕ, ap, append-nil, append_assoc, arith, drop, length, refl, subst, sym, take}
use Rattle.sshkey_entries.specs.Fields.{filled_lines}
use Rattle.sshkey_entries.specs.HostVerdicts.{known_name, standard_port}
use Rattle.sshkey_known_hosts.specs.HeldLines.{lines_of, ArePlacesOf, IsPlaceOf, total_length, SaySame}
use Rattle.sshkey_known_hosts.specs.HeldNames.{IsAmong, name_hash}
use Rattle.sshkey_known_hosts.specs.declared.places.LinePlace.{LinePlace}
use Rattle.sshkey_known_hosts.proofs.HeldLines.{no_lines_same, asked, nothing, passed_over}
use Rattle.sshkey_known_hosts.proofs.places.PlacedText.texts_for.Goals as goal

pub places-init : goal.places-init
places-init c =
    let none = λ (hmac : List ℕ → List ℕ → List ℕ) (name : List ℕ). subst (λ (texts : List (Bor (List ℕ))). SaySame hmac name [] (lines_of texts)) (sym c.new-texts.ensures.items) (no_lines_same hmac name) in
    (c.requires, λ are. ([], refl, are, λ hmac. (none hmac (known_name c.args.host.now c.args.port), none hmac (known_name c.args.host.now standard_port))))

pub places-preserved-in_ok-push : goal.places-preserved-in_ok-push
places-preserved-in_ok-push c =
    let was = c.places.invariant in
    let left = c.places.left.now in
    let place = c.in-Some.place.now in
    let rest = c.in-Some.more.now in
    let line = c.split_at.result.0 in
    let cut : c.places.places.now ≡ place ∷ rest = (let e = c.in-Some.ensures.cases in cc) in
    let front : line.now ≡ take place.length left = c.split_at.ensures.front in
    let back : c.split_at.result.1.now ≡ drop place.length left = c.split_at.ensures.back in (
      omega (arith, ap total_length cut, was.0, c.split_at.ensures.back_len),
      λ are.
          let w = was.1 are in
          let here : IsPlaceOf place left × ArePlacesOf rest (drop place.length left) = subst (λ (p : List LinePlace). ArePlacesOf p left) cut w.2 in (
            w.0 ++ filled_lines (take place.length left),
            w.1 ∙ ap (λ (l : List (List ℕ)). w.0 ++ l) here.0.cut ∙ sym (append_assoc w.0 (filled_lines (take place.length left)) (filled_lines (drop place.length left))) ∙ ap (λ (l : List ℕ). (w.0 ++ filled_lines (take place.length left)) ++ filled_lines l) (sym back),
            subst (ArePlacesOf rest) (sym back) here.1,
            λ hmac. (
              asked hmac (known_name c.args.host.now c.args.port) w.0 c.places.texts.items c.push.new.self.items (w.3 hmac).0 line (take place.length left) c.in_ok-push.ensures.items front,
              asked hmac (known_name c.args.host.now standard_port) w.0 c.places.texts.items c.push.new.self.items (w.3 hmac).1 line (take place.length left) c.in_ok-push.ensures.items front,
            ),
          ),
    )

pub places-preserved : goal.places-preserved
places-preserved c =
    let was = c.places.invariant in
    let left = c.places.left.now in
    let place = c.in-Some.place.now in
    let rest = c.in-Some.more.now in
    let own = known_name c.args.host.now c.args.port in
    let plain = known_name c.args.host.now standard_port in
    let cut : c.places.places.now ≡ place ∷ rest = (let e = c.in-Some.ensures.cases in cc) in
    let back : c.split_at.result.1.now ≡ drop place.length left = c.split_at.ensures.back in
    let own_hash : c.name_hash-own.result ≡ name_hash own = c.name_hash-own.ensures ∙ ap name_hash (c.as_bytes.ensures.value ∙ c.as_str.ensures.value ∙ c.in_ok-known_name.ensures.name) in
    let plain_hash : c.name_hash-plain.result ≡ name_hash plain = c.name_hash-plain.ensures ∙ ap name_hash (c.as_bytes-2.ensures.value ∙ c.as_str-2.ensures.value ∙ c.in_ok-known_name-2.ensures.name) in
    let not_own : IsAmong place.names (name_hash own) → ⊥ = λ among. cc (sym c.if-is_among.false ∙ c.is_among.ensures.1 (subst (IsAmong place.names) (sym own_hash) among)) in
    let not_plain : IsAmong place.names (name_hash plain) → ⊥ = λ among. cc (sym c.if-is_among-2.false ∙ c.is_among-else-is_among.ensures.1 (subst (IsAmong place.names) (sym plain_hash) among)) in (
      omega (arith, ap total_length cut, was.0, c.split_at.ensures.back_len),
      λ are.
          let w = was.1 are in
          let here : IsPlaceOf place left × ArePlacesOf rest (drop place.length left) = subst (λ (p : List LinePlace). ArePlacesOf p left) cut w.2 in (
            w.0 ++ filled_lines (take place.length left),
            w.1 ∙ ap (λ (l : List (List ℕ)). w.0 ++ l) here.0.cut ∙ sym (append_assoc w.0 (filled_lines (take place.length left)) (filled_lines (drop place.length left))) ∙ ap (λ (l : List ℕ). (w.0 ++ filled_lines (take place.length left)) ++ filled_lines l) (sym back),
            subst (ArePlacesOf rest) (sym back) here.1,
            λ hmac. (
              passed_over hmac own w.0 c.places.texts.items c.places.texts.items (w.3 hmac).0 (take place.length left) refl (here.0.names hmac own not_own),
              passed_over hmac plain w.0 c.places.texts.items c.places.texts.items (w.3 hmac).1 (take place.length left) refl (here.0.names hmac plain not_plain),
            ),
          ),
    )

pub returns-clause-own : goal.returns-clause-own
returns-clause-own c are hmac =
    let w = c.places.invariant.1 are in
    let none = nothing c.places.places.now c.in_default.ensures.cases in
    let over : c.places.left.now ≡ [] = subst (λ (p : List LinePlace). ArePlacesOf p c.places.left.now) none w.2 in
    subst (λ (lines : List (List ℕ)). SaySame hmac (known_name c.args.host.now c.args.port) lines (lines_of c.places.texts.items)) (sym (w.1 ∙ ap (λ (l : List ℕ). w.0 ++ filled_lines l) over ∙ append-nil w.0)) (w.3 hmac).0

pub returns-clause-plain : goal.returns-clause-plain
returns-clause-plain c are hmac =
    let w = c.places.invariant.1 are in
    let none = nothing c.places.places.now c.in_default.ensures.cases in
    let over : c.places.left.now ≡ [] = subst (λ (p : List LinePlace). ArePlacesOf p c.places.left.now) none w.2 in
    subst (λ (lines : List (List ℕ)). SaySame hmac (known_name c.args.host.now standard_port) lines (lines_of c.places.texts.items)) (sym (w.1 ∙ ap (λ (l : List ℕ). w.0 ++ filled_lines l) over ∙ append-nil w.0)) (w.3 hmac).1
