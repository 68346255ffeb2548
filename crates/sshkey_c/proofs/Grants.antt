-- What runs, by the bit that says whether no command is forced.
use Rattle.std.proofs.Common.{◌≡◌, ◌≢◌, ◌∙◌, ℕ, List, ◌+◌, ◌*◌, ◌/◌, ◌%◌, ◌<◌, ◌≤◌, Bool, true, false, not, ◌&&◌, Option, None, Some, is_some, arith, ap, refl, sym, bit_and, ◌++◌, append_assoc, drop, length, take, Err, IfOk, Ok, Result, String, ◌∷◌, [], append-nil, get_or, map, string_bytes, subst}
use Rattle.std.proofs.lemmas.Nat.Bits.{and_pow}
use Rattle.login_terms.specs.Questions.{first_of, runs}
use Rattle.login_terms.specs.Options.{Terms, terms_of}
use Rattle.sshkey_calls.specs.Rooms.{bytes_of, IsPartOf, IsPlaced}
use Rattle.sshkey_c.specs.Grants.{bit, or_empty, permits_of, HasCommand, AddsPart, anywhere, permit_strings, places, port_bytes, strings, ArePlaced, grant_bytes, key_id_of, to_listen, to_open}
use Rattle.sshkey_c.specs.declared.grant.GrantParts.{GrantParts}
use Rattle.std.proofs.Math.Seq.{take-append_seam}
use Rattle.std.proofs.lemmas.List.{length-append, drop_all, drop_more}
use Rattle.sshkey_calls.specs.declared.part.Part.{Part}
use Rattle.login_terms.specs.Values.{permit_of}
use Rattle.login_terms.specs.declared.permits.Permit.{Permit}
use Rattle.sshkey_model.specs.Parts.{flat}
use Rattle.sshkey_model.specs.Texts.{string}
use Rattle.publickey_login.specs.declared.grant.PublickeyGrant.{PublickeyGrant}

-- the number, so many times
times : (n : ℕ) (b : Bool) → (u : ℕ) × (u ≤ 1) × (bit n b ≡ u * n)
times n true = (1, omega arith, omega arith)
times n false = (0, omega arith, omega arith)

-- the sixth bit, whatever the others are
sixth : (low high n : ℕ) (b : Bool) → low < 32 → n ≡ low + bit 32 b + high * 64 → bit_and n 32 ≡ bit 32 b
sixth low high n true below is =
    let odd : n / 32 % 2 ≡ 1 = omega arith in
    and_pow n 5 ∙ ap (λ (m : ℕ). m * 32) odd
sixth low high n false below is =
    let even : n / 32 % 2 ≡ 0 = omega arith in
    and_pow n 5 ∙ ap (λ (m : ℕ). m * 32) even

-- It says that no command is forced.
any_command : (t : Terms) → bit_and (permits_of t) 32 ≡ bit 32 (not (is_some t.command))
any_command t =
    let p = t.permissions in
    let a = times 1 p.pty in
    let b = times 2 p.port_forwarding in
    let c = times 4 p.agent_forwarding in
    let d = times 8 p.x11_forwarding in
    let e = times 16 p.user_rc in
    let g = times 64 (not t.touch_required) in
    let h = times 128 (not t.verify_required) in
    let i = times 256 p.tunnels in
    let j = times 512 (p.tunnels && not (is_some t.tunnel)) in
    sixth (bit 1 p.pty + bit 2 p.port_forwarding + bit 4 p.agent_forwarding + bit 8 p.x11_forwarding + bit 16 p.user_rc) (g.0 + h.0 * 2 + i.0 * 4 + j.0 * 8) (permits_of t) (not (is_some t.command)) (omega (arith, a.1, a.2, b.1, b.2, c.1, c.2, d.1, d.2, e.1, e.2)) (omega (arith, g.2, h.2, i.2, j.2))

unforced : (command asked : Option (List ℕ)) → bit 32 (not (is_some command)) ≢ 0 → asked ≡ first_of command asked
unforced None asked some = refl
unforced (Some c) asked some = absurd (some refl)

forced : (command asked : Option (List ℕ)) → bit 32 (not (is_some command)) ≡ 0 → Some (or_empty command) ≡ first_of command asked
forced None asked none = absurd cc
forced (Some c) asked none = refl

module _ (t : Terms) (grant : GrantParts) (room : List ℕ) (has : HasCommand t grant room) (asked : Option (List ℕ)) where
  told : bit_and grant.permits 32 ≡ bit 32 (not (is_some t.command))
  told = ap (λ (n : ℕ). bit_and n 32) has.permits ∙ any_command t

  pub asked_runs : bit_and grant.permits 32 ≢ 0 → asked ≡ runs t asked
  asked_runs some = unforced t.command asked (λ none. some (told ∙ none))

  pub forced_runs : (found : List ℕ) → bit_and grant.permits 32 ≡ 0 → found ≡ bytes_of grant.force_command room → Some found ≡ runs t asked
  forced_runs found none are = ap Some (are ∙ has.bytes) ∙ forced t.command asked (sym told ∙ none)

-- The first of the parts of a grant.

-- the first of five parts, and what follows all
pub at_front : (c k p l e rest after : List ℕ) (part : Part) → after ≡ ((((c ++ k) ++ p) ++ l) ++ e) ++ rest → part.start ≡ 0 → part.length ≡ length c → IsPartOf part after × (bytes_of part after ≡ c)
at_front c k p l e rest after part is start len =
    let more = k ++ (p ++ (l ++ (e ++ rest))) in
    let all : after ≡ c ++ more = is ∙ append_assoc (((c ++ k) ++ p) ++ l) e rest ∙ append_assoc ((c ++ k) ++ p) l (e ++ rest) ∙ append_assoc (c ++ k) p (l ++ (e ++ rest)) ∙ append_assoc c k (p ++ (l ++ (e ++ rest))) in
    let count : length after ≡ length c + length more = ap length all ∙ length-append c more in
    (omega (arith, start, len, count), ap (λ (n : ℕ). take part.length (drop n after)) start ∙ ap (λ (n : ℕ). take n after) len ∙ ap (take (length c)) all ∙ take-append_seam c more)

-- Parts of a grant, one more at a time.

-- What was added, and what the items from that one on will add, is what all add.
abbrev pub HasAdded : {A : Type 0} → (List A → List ℕ) → List A → ℕ → List ℕ → List ℕ → Type 0
HasAdded spell xs i old now = now ++ spell (drop i xs) ≡ old ++ spell xs

module _ {A : Type 0} (spell : List A → List ℕ) (one : A → List ℕ) (xs : List A) (i : ℕ) (old now : List ℕ) where
  pub one_more : (x : A) (new : List ℕ) → spell (drop i xs) ≡ one x ++ spell (drop (i + 1) xs) → HasAdded spell xs i old now → new ≡ now ++ one x → HasAdded spell xs (i + 1) old new
  one_more x new first so_far is =
      ap (λ (l : List ℕ). l ++ spell (drop (i + 1) xs)) is
      ∙ append_assoc now (one x) (spell (drop (i + 1) xs))
      ∙ ap (λ (l : List ℕ). now ++ l) (sym first)
      ∙ so_far

  pub all_added : spell [] ≡ [] → length xs ≤ i → HasAdded spell xs i old now → now ≡ old ++ spell xs
  all_added none end so_far = sym (append-nil now) ∙ ap (λ (l : List ℕ). now ++ l) (sym (ap spell (drop_all i xs end) ∙ none)) ∙ so_far

pub placed : (bytes old new : List ℕ) (part : Part) → new ≡ old ++ bytes → part.start ≡ length old → part.start + part.length ≡ length new → AddsPart bytes part old new
placed bytes old new part is start ends =
    let all : length new ≡ length old + length bytes = ap (λ (l : List ℕ). length l) is ∙ length-append old bytes in
    (is, (start, omega (arith, start, ends, all)))

pub counted : (bytes old new : List ℕ) → new ≡ old ++ bytes → length new ≡ length old + length bytes
counted bytes old new is = ap (λ (l : List ℕ). length l) is ∙ length-append old bytes

-- ---- texts

abbrev pub spelled_texts : {Z : Type 0} → List (String Z) → List ℕ
spelled_texts texts = strings (map string_bytes texts)

abbrev pub spelled_text : {Z : Type 0} → String Z → List ℕ
spelled_text text = flat (string (string_bytes text))

pub first_text : {Z : Type 0} (texts : List (String Z)) (i : ℕ) (text : String Z) → i < length texts → text ≡ get_or texts i text → spelled_texts (drop i texts) ≡ spelled_text text ++ spelled_texts (drop (i + 1) texts)
first_text texts i text lt is = rw (drop_more texts i text lt, ← is) refl

-- ---- hosts and ports

abbrev pub spelled_permits : List Permit → List ℕ
spelled_permits permits = permit_strings (map permit_of permits)

abbrev pub spelled_permit : Permit → List ℕ
spelled_permit p = flat (string (string_bytes p.host)) ++ flat (string (port_bytes p.port))

pub first_permit : (permits : List Permit) (i : ℕ) (p : Permit) → i < length permits → p ≡ get_or permits i p → spelled_permits (drop i permits) ≡ spelled_permit p ++ spelled_permits (drop (i + 1) permits)
first_permit permits i p lt is =
    let spelled : spelled_permits (drop i permits) ≡ flat (string (string_bytes p.host)) ++ (flat (string (port_bytes p.port)) ++ spelled_permits (drop (i + 1) permits)) = rw (drop_more permits i p lt, ← is) refl in
    spelled ∙ sym (append_assoc (flat (string (string_bytes p.host))) (flat (string (port_bytes p.port))) (spelled_permits (drop (i + 1) permits)))

-- both of one are added, one after the other
pub both_added : (p : Permit) (now after new : List ℕ) → after ≡ now ++ flat (string (string_bytes p.host)) → new ≡ after ++ flat (string (port_bytes p.port)) → new ≡ now ++ spelled_permit p
both_added p now after new host port = port ∙ ap (λ (l : List ℕ). l ++ flat (string (port_bytes p.port))) host ∙ append_assoc now (flat (string (string_bytes p.host))) (flat (string (port_bytes p.port)))

-- ---- anywhere

pub spelled_anywhere : permit_strings (anywhere ∷ []) ≡ 0 ∷ 0 ∷ 0 ∷ 1 ∷ 0x2a ∷ 0 ∷ 0 ∷ 0 ∷ 0 ∷ []
unfolding flat
spelled_anywhere = refl

pub none_named : (may : Bool) (permits : List Permit) → may ≡ true → length permits ≡ 0 → places may (map permit_of permits) ≡ anywhere ∷ []
none_named false permits e none = absurd cc
none_named true [] e none = refl
none_named true (p ∷ permits) e none = absurd (omega (arith, none))

pub added_part : {E : Type 0} (bytes old new : List ℕ) (r : Result Part E) → IfOk r (λ part. new ≡ old ++ bytes) → IfOk r (λ part. part.start ≡ length old) → IfOk r (λ part. part.length ≡ length bytes) → IfOk r (λ part. AddsPart bytes part old new)
added_part bytes old new (Ok part) all start size = (all, (start, size))
added_part bytes old new (Err e) all start size = tt

-- Where the parts of a grant stand, by its terms and the key id.

abbrev to_place : Terms → List ℕ → List ℕ
to_place t id = (or_empty t.command ++ id) ++ permit_strings (to_open t)

abbrev all_bytes : Terms → List ℕ → List ℕ
all_bytes t id = (to_place t id ++ permit_strings (to_listen t)) ++ strings t.environment

abbrev Says : GrantParts → List ℕ → Terms → List ℕ → Type 0
Says a content t id = (content ≡ all_bytes t id)
    × IsPlaced 0 (or_empty t.command) a.force_command × IsPlaced (length (or_empty t.command)) id a.key_id
    × IsPlaced (length (or_empty t.command ++ id)) (permit_strings (to_open t)) a.permit_open
    × IsPlaced (length (to_place t id)) (permit_strings (to_listen t)) a.permit_listen
    × IsPlaced (length (to_place t id ++ permit_strings (to_listen t))) (strings t.environment) a.environment
    × (a.length ≡ length (all_bytes t id)) × (a.permits ≡ permits_of t)

pub laid : (g : PublickeyGrant) (a : GrantParts) → ArePlaced g a → (t : Terms) (id : List ℕ) → terms_of g.user.terms ≡ t → key_id_of g.user.certified ≡ id → Says a (grant_bytes g) t id
laid g a placed t id is named =
    subst (λ (x : Terms). Says a (grant_bytes g) x id) is
    (subst (λ (x : List ℕ). Says a (grant_bytes g) (terms_of g.user.terms) x) named
    (refl, placed.force_command, placed.key_id, placed.permit_open, placed.permit_listen, placed.environment, placed.length, placed.permits))
