-- A line of a key has one of the marks of the key's own part.
use Rattle.std.proofs.Common.{◌≡◌, ◌∙◌, ◌⊎◌, ◌+◌, ◌-◌, ◌%◌, ◌<◌, ◌≤◌, ℕ, List, [], ◌∷◌, ◌++◌, Bool, true, false, not, filter, cond, ap, append-nil, append_assoc, arith, drop, get_or, inl, inr, length, refl, replicate, subst, sym, take, take-append-drop}
use Rattle.std.proofs.lemmas.Bool.{cases_lt}
use Rattle.std.proofs.lemmas.List.{drop-append-le, get_or-append-add, get_or_append_left, length-append, length-drop, length-take-le}
use Rattle.std.proofs.lemmas.List.Elements.{All-head, All-tail}
use Rattle.std.proofs.lemmas.List.Folds.{drop_split}
use Rattle.std.proofs.Math.Seq.{drop-append-add, get_or-append_seam}
use Rattle.std.specs.List.{All, before_first, position_or_len, suffix_len}
use Rattle.std.specs.Int.{to_be_bytes, w32}
use Rattle.std.specs.Prelude.{slice_index, slice_range}
use Rattle.base64.proofs.EngineFacts.{encode_of-append}
use Rattle.base64.proofs.RoundTrip.{length-encode_symbols}
use Rattle.base64.specs.Rfc4648.{encode_symbols, padding_len}
use Rattle.base64.specs.Engines.{standard}
use Rattle.base64.specs.GeneralPurpose.{encode_of}
use Rattle.sshkey_entries.proofs.Fields.{whites_are}
use Rattle.sshkey_entries.proofs.Fronts.{nothing_stays, skipped, stays}
use Rattle.sshkey_entries.specs.AuthorizedKeys.{AuthorizedKey}
use Rattle.sshkey_entries.specs.Fields.{AreKeyFields, CutsWord, is_white, without_blanks, without_front, is_blank}
use Rattle.sshkey_entries.specs.OpenSshLines.{IsAuthorizedLine}
use Rattle.sshkey_model.proofs.Base64Words.{IsDark, is_dark, word_dark}
use Rattle.sshkey_model.specs.Grammar.{SpellsWith}
use Rattle.sshkey_model.specs.Keys.{Dsa, Ecdsa, Ed25519, HasKeyPlaces, IsKey, Key, Opaque, Rsa, SkEcdsa, SkEd25519, body, headed, key, key_algorithm}
use Rattle.sshkey_model.specs.Lines.{key_name}
use Rattle.sshkey_model.specs.Names.{Nistp256, algorithm, curve}
use Rattle.sshkey_model.specs.Parts.{Parts, ◌&◌, flat}
use Rattle.sshkey_model.specs.Texts.{string}
use Rattle.user_keys.specs.Spellings.{Follow, MaySpell, StandIn, mark, own_part}

-- ---- a part of a text

abbrev HasPart : List ℕ → List ℕ → Type 0
HasPart part text = (front : List ℕ) × (back : List ℕ) × (text ≡ front ++ (part ++ back))

module _ (part : List ℕ) where
  after : (p q : List ℕ) → HasPart part q → HasPart part (p ++ q)
  after p q h = (p ++ h.0, h.1, ap (λ (t : List ℕ). p ++ t) h.2 ∙ sym (append_assoc p h.0 (part ++ h.1)))

  before : (p q : List ℕ) → HasPart part p → HasPart part (p ++ q)
  before p q h = (h.0, h.1 ++ q, ap (λ (t : List ℕ). t ++ q) h.2 ∙ append_assoc h.0 (part ++ h.1) q ∙ ap (λ (t : List ℕ). h.0 ++ t) (append_assoc part h.1 q))

-- ---- the own part in a blob

in_string : (b : List ℕ) → HasPart b (flat (string b))
unfolding flat
in_string b = (to_be_bytes w32 (length b), [], ap (λ (t : List ℕ). to_be_bytes w32 (length b) ++ t) (sym (append-nil b)))

later : (part : List ℕ) (p q : Parts) → HasPart part (flat q) → HasPart part (flat (p & q))
unfolding flat
later part p q h = after part (flat p) (flat q) h

earlier : (part : List ℕ) (p q : Parts) → HasPart part (flat p) → HasPart part (flat (p & q))
unfolding flat
earlier part p q h = before part (flat p) (flat q) h

body_has : (k : Key) → HasPart (own_part k) (flat (body k))
body_has (Dsa k) = later k.y (string k.p) (string k.q & string k.g & string k.y) (later k.y (string k.q) (string k.g & string k.y) (later k.y (string k.g) (string k.y) (in_string k.y)))
body_has (Ecdsa c point) = later point (curve c) (string point) (in_string point)
body_has (Ed25519 k) = in_string k
body_has (Rsa k) = later k.n (string k.e) (string k.n) (in_string k.n)
body_has (SkEcdsa k) = later k.key (curve Nistp256) (string k.key & string k.application) (earlier k.key (string k.key) (string k.application) (in_string k.key))
body_has (SkEd25519 k) = earlier k.key (string k.key) (string k.application) (in_string k.key)
body_has (Opaque name k) = in_string k

blob_has : (k : Key) (blob : List ℕ) → SpellsWith IsKey HasKeyPlaces key k blob → HasPart (own_part k) blob
blob_has k blob s = subst (HasPart (own_part k)) (sym s.shape) (later (own_part k) (algorithm (headed s.choices (key_algorithm k))) (body k) (body_has k))

-- ---- a mark in Base64

thirds : (n : ℕ) → (n % 3 ≡ 0) ⊎ (n % 3 ≡ 1) ⊎ (n % 3 ≡ 2)
thirds n = elim (cases_lt (n % 3) 1) [
  | inl less ↦ inl (omega (arith, less))
  | inr more ↦ elim (cases_lt (n % 3) 2) [
    | inl less ↦ inr (inl (omega (arith, less, more)))
    | inr most ↦ inr (inr (omega (arith, most)))
  ]
]

module _ (part : List ℕ) (long : 17 ≤ length part) (front back : List ℕ) where
  abbrev start : ℕ → ℕ
  start n = length part - (15 + n)

  abbrev end : ℕ → ℕ
  end n = length part - n

  cut : (n : ℕ) → n ≤ 2 → part ≡ take (start n) part ++ (slice_range part (start n) (end n) ++ drop (end n) part)
  cut n few = sym (take-append-drop (start n) part) ∙ ap (λ (t : List ℕ). take (start n) part ++ t) (drop_split part (start n) (end n) (omega (arith, few, long)))

  abbrev ahead : ℕ → List ℕ
  ahead n = front ++ take (start n) part

  abbrev chosen : ℕ → List ℕ
  chosen n = slice_range part (start n) (end n)

  abbrev left : ℕ → List ℕ
  left n = drop (end n) part ++ back

  joined : (n : ℕ) → n ≤ 2 → front ++ (part ++ back) ≡ ahead n ++ (chosen n ++ left n)
  joined n few =
      ap (λ (t : List ℕ). front ++ (t ++ back)) (cut n few)
      ∙ ap (λ (t : List ℕ). front ++ t) (append_assoc (take (start n) part) (chosen n ++ drop (end n) part) back ∙ ap (λ (t : List ℕ). take (start n) part ++ t) (append_assoc (chosen n) (drop (end n) part) back))
      ∙ sym (append_assoc front (take (start n) part) (chosen n ++ left n))

  size : (n : ℕ) → n ≤ 2 → length (chosen n) ≡ 15
  size n few = length-take-le (end n - start n) (drop (start n) part) (omega (arith, length-drop (start n) part, few, long)) ∙ omega (arith, few, long)

  marked : (n : ℕ) → n ≤ 2 → (length front + (length part - 15)) % 3 ≡ n → HasPart (mark part n) (encode_of standard (front ++ (part ++ back)))
  marked n few third =
      let whole : length (ahead n) % 3 ≡ 0 = omega (arith, third, few, long, length-append front (take (start n) part), length-take-le (start n) part (omega (arith, few, long))) in
      let fifteen : length (chosen n) % 3 ≡ 0 = omega (arith, size n few) in (
        encode_of standard (ahead n),
        encode_of standard (left n),
        ap (encode_of standard) (joined n few)
            ∙ encode_of-append standard (ahead n) (chosen n ++ left n) whole
            ∙ ap (λ (t : List ℕ). encode_of standard (ahead n) ++ t) (encode_of-append standard (chosen n) (left n) fifteen),
      )

-- ---- a mark that stands in a text

abbrev IsPlain : ℕ → Type 0
IsPlain c = is_white c ≡ false

plain : (c : ℕ) (b : Bool) → is_white c ≡ b → IsDark c → IsPlain c
plain c false e dark = e
plain c true e dark = absurd (elim (whites_are c e) [
  | inl vertical ↦ cc (sym dark ∙ ap (λ (n : ℕ). is_dark n) vertical)
  | inr (inl feed) ↦ cc (sym dark ∙ ap (λ (n : ℕ). is_dark n) feed)
  | inr (inr return) ↦ cc (sym dark ∙ ap (λ (n : ℕ). is_dark n) return)
])

plain_word : (b : List ℕ) → All IsPlain (encode_of standard b)
plain_word b = λ k d l. plain (get_or (encode_of standard b) k d) (is_white (get_or (encode_of standard b) k d)) refl (word_dark b k d l)

-- what is no white space stays
all_follow : (symbols back : List ℕ) → All IsPlain symbols → Follow symbols (symbols ++ back)
all_follow [] back are = tt
all_follow (s ∷ symbols) back are = (symbols ++ back, stays is_white s (symbols ++ back) (All-head IsPlain s symbols are), all_follow symbols back (All-tail IsPlain s symbols are))

stands : (symbols text : List ℕ) → All IsPlain symbols → 0 < length symbols → HasPart symbols text → StandIn symbols text
stands [] text are some h = absurd (omega (arith, some))
stands (s ∷ symbols) text are some h =
    let rest : drop (length h.0 + 1) text ≡ symbols ++ h.1 = ap (drop (length h.0 + 1)) h.2 ∙ drop-append-add h.0 (s ∷ (symbols ++ h.1)) 1 in (
      length h.0,
      omega (arith, ap length h.2, length-append h.0 (s ∷ (symbols ++ h.1))),
      (
        ap (λ (t : List ℕ). slice_index t (length h.0)) h.2 ∙ get_or-append_seam h.0 s (symbols ++ h.1) 0,
        subst (Follow symbols) (sym rest) (all_follow symbols h.1 (All-tail IsPlain s symbols are)),
      ),
    )

module _ (part : List ℕ) (long : 17 ≤ length part) where
  some_symbols : (n : ℕ) → n ≤ 2 → 0 < length (mark part n)
  some_symbols n few = omega (arith, length-encode_symbols standard.encode_table (slice_range part (length part - (15 + n)) (length part - n)), size part long [] [] n few, length-append (encode_symbols standard.encode_table (slice_range part (length part - (15 + n)) (length part - n))) (replicate (padding_len (length (slice_range part (length part - (15 + n)) (length part - n)))) standard.padding.value))

  -- one of the marks stands in a text that has the Base64 of bytes that have the part
  marks : (text blob : List ℕ) → HasPart part blob → HasPart (encode_of standard blob) text → MaySpell part text
  marks text blob h has = elim (thirds (length h.0 + (length part - 15))) [
    | inl none ↦ inr (inr (one 0 (omega arith) none))
    | inr (inl one_more) ↦ inr (inl (one 1 (omega arith) one_more))
    | inr (inr two) ↦ inl (one 2 (omega arith) two)
  ]
    where
      within : (w : List ℕ) → HasPart w (encode_of standard blob) → HasPart w text
      within w x = subst (HasPart w) (sym has.2) (after w has.0 (encode_of standard blob ++ has.1) (before w (encode_of standard blob) has.1 x))

      one : (n : ℕ) → n ≤ 2 → (length h.0 + (length part - 15)) % 3 ≡ n → StandIn (mark part n) text
      one n few third = stands (mark part n) text (plain_word _) (some_symbols n few) (within (mark part n) (subst (λ (b : List ℕ). HasPart (mark part n) (encode_of standard b)) (sym h.2) (marked part long h.0 h.1 n few third)))

-- ---- a line

-- what is left out at the front
front_of : (is : ℕ → Bool) (text : List ℕ) → (front : List ℕ) × (text ≡ front ++ without_front is text)
front_of is [] = ([], sym (nothing_stays is))
front_of is (c ∷ text) = go (is c) refl (front_of is text)
  where
    go : (b : Bool) → is c ≡ b → (front : List ℕ) × (text ≡ front ++ without_front is text) → (front : List ℕ) × (c ∷ text ≡ front ++ without_front is (c ∷ text))
    go true e more = (c ∷ more.0, ap (λ (t : List ℕ). c ∷ t) more.1 ∙ ap (λ (t : List ℕ). c ∷ (more.0 ++ t)) (sym (skipped is c text e)))
    go false e more = ([], sym (stays is c text e))

has_after : (word text : List ℕ) → HasPart word (without_blanks text) → HasPart word text
has_after word text h = let front = front_of is_blank text in subst (HasPart word) (sym front.1) (after word front.0 (without_blanks text) h)

-- without the white space behind it
word_in : (text word rest : List ℕ) → CutsWord text word rest → HasPart word text
word_in text word rest c =
    let size = length c.field - suffix_len is_white c.field in
    subst (HasPart word) (sym c.is) (before word c.field rest ([], drop size c.field, sym (take-append-drop size c.field) ∙ ap (λ (l : List ℕ). l ++ drop size c.field) (sym c.word_is)))

fields_have : (text : List ℕ) (k : Key) (comment : List ℕ) (f : AreKeyFields text k comment) → HasPart (encode_of standard f.blob) text
fields_have text k comment f = subst (HasPart (encode_of standard f.blob)) (sym f.is) (after (encode_of standard f.blob) (key_name k) f.after_name (has_after (encode_of standard f.blob) f.after_name (word_in (without_blanks f.after_name) (encode_of standard f.blob) f.after_key f.word)))

fields_spell : (text : List ℕ) (k : Key) (comment : List ℕ) → AreKeyFields text k comment → 17 ≤ length (own_part k) → (line : List ℕ) → ((word : List ℕ) → HasPart word text → HasPart word line) → MaySpell (own_part k) line
fields_spell text k comment f long line lies = marks (own_part k) long line f.blob (blob_has k f.blob f.spelled) (lies (encode_of standard f.blob) (fields_have text k comment f))

pub entry_spells : (line : List ℕ) (a : AuthorizedKey) → IsAuthorizedLine line a → 17 ≤ length (own_part a.key) → MaySpell (own_part a.key) line
entry_spells line a read long = elim read.is [
  | inl alone ↦ fields_spell (without_blanks line) a.key a.comment alone.fields long line (λ word. has_after word line)
  | inr options ↦ fields_spell (without_blanks options.rest) a.key a.comment options.fields long line
      (λ word h. has_after word line (subst (HasPart word) (sym options.is) (after word a.options options.rest (has_after word options.rest h))))
]

-- ---- up to a place

module _ (is : ℕ → Bool) where
  left_with : (text more : List ℕ) (s : ℕ) (rest : List ℕ) → without_front is text ≡ s ∷ rest → without_front is (text ++ more) ≡ s ∷ (rest ++ more)
  left_with [] more s rest e = absurd (let none : [] ≡ s ∷ rest = sym (nothing_stays is) ∙ e in cc)
  left_with (c ∷ text) more s rest e = go (is c) refl (left_with text more s rest)
    where
      go : (b : Bool) → is c ≡ b → (without_front is text ≡ s ∷ rest → without_front is (text ++ more) ≡ s ∷ (rest ++ more)) → without_front is (c ∷ (text ++ more)) ≡ s ∷ (rest ++ more)
      go true skip again = skipped is c (text ++ more) skip ∙ again (sym (skipped is c text skip) ∙ e)
      go false stop again = stays is c (text ++ more) stop ∙ ap (λ (t : List ℕ). t ++ more) (sym (stays is c text stop) ∙ e)

follow_with : (symbols text more : List ℕ) → Follow symbols text → Follow symbols (text ++ more)
follow_with [] text more f = tt
follow_with (s ∷ symbols) text more f = (f.0 ++ more, left_with is_white text more s f.0 f.1, follow_with symbols f.0 more f.2)

stands_with : (symbols text more : List ℕ) → StandIn symbols text → StandIn symbols (text ++ more)
stands_with [] text more x = absurd x.2
stands_with (s ∷ symbols) text more x = (
  x.0,
  omega (arith, x.1, length-append text more),
  (
    get_or_append_left text more 0 x.0 x.1 ∙ x.2.0,
    subst (Follow symbols) (sym (drop-append-le (x.0 + 1) text more (omega (arith, x.1)))) (follow_with symbols (drop (x.0 + 1) text) more x.2.1),
  ),
)

pub spelled_before : (p : ℕ → Bool) (part line : List ℕ) → MaySpell part (before_first p line) → MaySpell part line
spelled_before p part line may = elim may [
  | inl x ↦ inl (whole (mark part 2) x)
  | inr (inl y) ↦ inr (inl (whole (mark part 1) y))
  | inr (inr z) ↦ inr (inr (whole (mark part 0) z))
]
  where
    whole : (symbols : List ℕ) → StandIn symbols (before_first p line) → StandIn symbols line
    whole symbols x = subst (StandIn symbols) (take-append-drop (position_or_len p line) line) (stands_with symbols (before_first p line) (drop (position_or_len p line) line) x)

-- ---- white space within a word

abbrev dark : List ℕ → List ℕ
dark text = filter (λ c. not (is_white c)) text

follow_dark : (text symbols rest : List ℕ) → dark text ≡ symbols ++ rest → Follow symbols text
follow_dark text [] rest e = tt
follow_dark [] (s ∷ symbols) rest e = absurd cc
follow_dark (c ∷ text) (s ∷ symbols) rest e = go (is_white c) refl (follow_dark text (s ∷ symbols) rest) (follow_dark text symbols rest)
  where
    shown : (b : Bool) → is_white c ≡ b → cond (not b) (c ∷ dark text) (dark text) ≡ s ∷ (symbols ++ rest)
    shown b is = subst (λ (d : Bool). cond (not d) (c ∷ dark text) (dark text) ≡ s ∷ (symbols ++ rest)) is e

    go : (b : Bool) → is_white c ≡ b → (dark text ≡ s ∷ (symbols ++ rest) → Follow (s ∷ symbols) text) → (dark text ≡ symbols ++ rest → Follow symbols text) → Follow (s ∷ symbols) (c ∷ text)
    go true is again next = let f = again (shown true is) in (f.0, skipped is_white c text is ∙ f.1, f.2)
    go false is again next =
        let same = shown false is in
        (text, stays is_white c text is ∙ ap (λ (l : List ℕ). slice_index l 0 ∷ text) same, next (ap (drop 1) same))

one_on : (c : ℕ) (symbols text : List ℕ) → StandIn symbols text → StandIn symbols (c ∷ text)
one_on c [] text x = absurd x.2
one_on c (s ∷ symbols) text x =
    let left : drop (x.0 + 1 + 1) (c ∷ text) ≡ drop (x.0 + 1) text = ap (λ (n : ℕ). drop n (c ∷ text)) (let e : x.0 + 1 + 1 ≡ 1 + (x.0 + 1) = omega arith in e) ∙ drop-append-add (c ∷ []) text (x.0 + 1) in
    let here : slice_index (c ∷ text) (x.0 + 1) ≡ slice_index text x.0 = ap (λ (n : ℕ). slice_index (c ∷ text) n) (let e : x.0 + 1 ≡ 1 + x.0 = omega arith in e) ∙ get_or-append-add (c ∷ []) text x.0 0 in
    (x.0 + 1, omega (arith, x.1), (here ∙ x.2.0, subst (Follow symbols) (sym left) x.2.1))

stand_dark : (text front symbols rest : List ℕ) → 0 < length symbols → dark text ≡ front ++ (symbols ++ rest) → StandIn symbols text
stand_dark text front [] rest some e = absurd (omega (arith, some))
stand_dark [] [] (s ∷ symbols) rest some e = absurd cc
stand_dark [] (d ∷ front) (s ∷ symbols) rest some e = absurd cc
stand_dark (c ∷ text) [] (s ∷ symbols) rest some e = go (is_white c) refl (stand_dark text [] (s ∷ symbols) rest some)
  where
    shown : (b : Bool) → is_white c ≡ b → cond (not b) (c ∷ dark text) (dark text) ≡ s ∷ (symbols ++ rest)
    shown b is = subst (λ (d : Bool). cond (not d) (c ∷ dark text) (dark text) ≡ s ∷ (symbols ++ rest)) is e

    go : (b : Bool) → is_white c ≡ b → (dark text ≡ s ∷ (symbols ++ rest) → StandIn (s ∷ symbols) text) → StandIn (s ∷ symbols) (c ∷ text)
    go true is again = one_on c (s ∷ symbols) text (again (shown true is))
    go false is again =
        let same = shown false is in
        (0, omega arith, (ap (λ (l : List ℕ). slice_index l 0) same, follow_dark text symbols rest (ap (drop 1) same)))
stand_dark (c ∷ text) (d ∷ front) (s ∷ symbols) rest some e = go (is_white c) refl (stand_dark text (d ∷ front) (s ∷ symbols) rest some) (stand_dark text front (s ∷ symbols) rest some)
  where
    shown : (b : Bool) → is_white c ≡ b → cond (not b) (c ∷ dark text) (dark text) ≡ d ∷ (front ++ (s ∷ (symbols ++ rest)))
    shown b is = subst (λ (w : Bool). cond (not w) (c ∷ dark text) (dark text) ≡ d ∷ (front ++ (s ∷ (symbols ++ rest)))) is e

    go : (b : Bool) → is_white c ≡ b → (dark text ≡ d ∷ (front ++ (s ∷ (symbols ++ rest))) → StandIn (s ∷ symbols) text) → (dark text ≡ front ++ (s ∷ (symbols ++ rest)) → StandIn (s ∷ symbols) text) → StandIn (s ∷ symbols) (c ∷ text)
    go true is again next = one_on c (s ∷ symbols) text (again (shown true is))
    go false is again next = one_on c (s ∷ symbols) text (next (ap (drop 1) (shown false is)))

on_front : (front symbols text : List ℕ) → StandIn symbols text → StandIn symbols (front ++ text)
on_front [] symbols text x = x
on_front (c ∷ front) symbols text x = one_on c symbols (front ++ text) (on_front front symbols text x)

pub words_marked : (part blob before after front word back : List ℕ) → 17 ≤ length part → blob ≡ before ++ (part ++ after) → dark word ≡ encode_of standard blob → MaySpell part (front ++ (word ++ back))
words_marked part blob before after front word back long is dark_is = elim (thirds (length before + (length part - 15))) [
  | inl none ↦ inr (inr (one 0 (omega arith) none))
  | inr (inl one_more) ↦ inr (inl (one 1 (omega arith) one_more))
  | inr (inr two) ↦ inl (one 2 (omega arith) two)
]
  where
    one : (n : ℕ) → n ≤ 2 → (length before + (length part - 15)) % 3 ≡ n → StandIn (mark part n) (front ++ (word ++ back))
    one n few third =
        let m = marked part long before after n few third in
        let e : dark word ≡ m.0 ++ (mark part n ++ m.1) = dark_is ∙ ap (encode_of standard) is ∙ m.2 in
        on_front front (mark part n) (word ++ back) (stands_with (mark part n) word back (stand_dark word m.0 (mark part n) m.1 (some_symbols part long n few) e))
