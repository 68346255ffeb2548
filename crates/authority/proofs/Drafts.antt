-- What a builder holds that was told of a request.
use Rattle.std.proofs.Common.{◌≡◌, ◌≢◌, ◌∙◌, ap, ℕ, List, [], ◌∷◌, ◌++◌, map, refl, sym, append_assoc, append-nil}
use Rattle.std.specs.Prelude.{Some, None, Ok, IsSome, IsNone, Option}
use Rattle.ssh_key.specs.model.Certificates.{SignedFields, User}
use Rattle.ssh_key.specs.model.Drafts.{Draft, KeyId, Principal, Serial, after_step, after_steps, begun, drafted, or_stays}
use Rattle.ssh_key.specs.model.Keys.{Key}
use Rattle.ssh_key.specs.model.OptionMaps.{value_of, with_option}
use Rattle.authority.specs.Issuance.{added, flag, with_flag, with_flags}

-- none, or these
abbrev pub with_names : List (List ℕ) → Option (List (List ℕ))
with_names [] = None
with_names (n ∷ names) = Some (n ∷ names)

abbrev pub draft_for : List ℕ → Key → ℕ → List ℕ → List (List ℕ) → List (List ℕ) → ℕ → ℕ → Draft
draft_for nonce key serial key_id names extensions after before = record { nonce = nonce; key = key; serial = Some serial; certificate_type = None; key_id = Some key_id; valid_principals = with_names names; valid_after = after; valid_before = before; critical_options = []; extensions = with_flags extensions []; comment = None }

-- naming more principals adds them
named_more : (names : List (List ℕ)) (before : List (List ℕ)) (d : Draft) → after_steps (map Principal names) (record d { valid_principals = Some before }) ≡ record d { valid_principals = Some (before ++ names) }
named_more [] before d = rw (append-nil before) refl
named_more (n ∷ names) before d = named_more names (before ++ n ∷ []) d ∙ ap (λ all. record d { valid_principals = Some all }) (append_assoc before (n ∷ []) names)

only_named : (names : List (List ℕ)) (d : Draft) → d.valid_principals ≡ None → after_steps (map Principal names) d ≡ record d { valid_principals = with_names names }
only_named [] d none = rw (← none) refl
only_named (n ∷ names) d none = rw none (named_more names (n ∷ []) d)

-- adding extensions leaves those that are there
pub flagged : (names : List (List ℕ)) (d : Draft) → after_steps (map added names) d ≡ record d { extensions = with_flags names d.extensions }
flagged [] d = refl
flagged (n ∷ names) d = by_value (flagged names) (value_of n d.extensions) refl
  where
    by_value : ((e : Draft) → after_steps (map added names) e ≡ record e { extensions = with_flags names e.extensions }) → (v : Option (List ℕ)) → value_of n d.extensions ≡ v → after_steps (map added (n ∷ names)) d ≡ record d { extensions = with_flags (n ∷ names) d.extensions }
    by_value rest None h =
        let one : or_stays d (after_step (added n) d) ≡ record d { extensions = with_option (flag n) d.extensions } = rw h refl in
        ap (after_steps (map added names)) one ∙ rest (record d { extensions = with_option (flag n) d.extensions }) ∙ sym (ap (λ w. record d { extensions = with_flags names (with_flag w n d.extensions) }) h)
    by_value rest (Some v) h =
        let one : or_stays d (after_step (added n) d) ≡ d = rw h refl in
        ap (after_steps (map added names)) one ∙ rest d ∙ sym (ap (λ w. record d { extensions = with_flags names (with_flag w n d.extensions) }) h)

-- step by step
pub told : (nonce : List ℕ) (key : Key) (serial : ℕ) (key_id : List ℕ) (names extensions : List (List ℕ)) (after before : ℕ) (d0 d1 d2 d3 d4 : Draft) → d0 ≡ begun nonce key after before → after_step (Serial serial) d0 ≡ Ok d1 → after_step (KeyId key_id) d1 ≡ Ok d2 → d3 ≡ after_steps (map Principal names) d2 → d4 ≡ after_steps (map added extensions) d3 → d4 ≡ draft_for nonce key serial key_id names extensions after before
told nonce key serial key_id names extensions after before d0 d1 d2 d3 d4 first numbered named all permitted =
    let e1 : d1 ≡ record (begun nonce key after before) { serial = Some serial } = let h = rw first at numbered in cc in
    let e2 : d2 ≡ record (begun nonce key after before) { serial = Some serial; key_id = Some key_id } = let h = rw e1 at named in cc in
    let e3 : d3 ≡ draft_for nonce key serial key_id names [] after before = all ∙ rw e2 (only_named names _ refl) in
    permitted ∙ rw e3 (flagged extensions _)

abbrev pub fields : List ℕ → Key → ℕ → List ℕ → List (List ℕ) → List (List ℕ) → ℕ → ℕ → Key → SignedFields
fields nonce key serial key_id names extensions after before authority = record { nonce = nonce; key = key; serial = serial; certificate_type = User; key_id = key_id; valid_principals = names; valid_after = after; valid_before = before; critical_options = []; extensions = with_flags extensions []; reserved = []; signature_key = authority }

-- what is signed
pub signed_fields : (nonce : List ℕ) (key : Key) (serial : ℕ) (key_id : List ℕ) (names extensions : List (List ℕ)) (after before : ℕ) (k : Key) → names ≢ [] → drafted (draft_for nonce key serial key_id names extensions after before) k ≡ fields nonce key serial key_id names extensions after before k
signed_fields nonce key serial key_id [] extensions after before k some = absurd (some refl)
signed_fields nonce key serial key_id (n ∷ names) extensions after before k some = refl

pub some_names : (names : List (List ℕ)) → names ≢ [] → IsSome (with_names names)
some_names [] some = absurd (some refl)
some_names (n ∷ names) some = refl

pub not_none : (names : List (List ℕ)) → (IsNone (with_names names) → ⊥) → names ≢ []
not_none [] some = absurd (some refl)
not_none (n ∷ names) some = λ none. absurd cc

-- the steps are taken
pub numbered : (nonce : List ℕ) (key : Key) (serial : ℕ) (after before : ℕ) (d0 d1 : Draft) → d0 ≡ begun nonce key after before → after_step (Serial serial) d0 ≡ Ok d1 → d1 ≡ record (begun nonce key after before) { serial = Some serial }
numbered nonce key serial after before d0 d1 first step = let h = rw first at step in cc
