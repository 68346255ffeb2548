-- What is read of a line is written as a line that is read back.
use Rattle.std.proofs.Common.{◌≡◌, ℕ, ◌<◌, ◌+◌, zero, suc, Bool, nat_lt, true, false, ◌&&◌, not, cond, eqb, List, [], ◌∷◌, ◌++◌, length, get_or, take, drop, refl, sym, ap, ◌∙◌, subst, arith, append_assoc, append-nil, inl, inr}
use Rattle.std.specs.Str.{IsUtf8, IsAscii, chars, trim_end, drop_trailing_whitespace, encode_utf8_all, all_scalars}
use Rattle.std.specs.Char.{is_whitespace}
use Rattle.std.proofs.lemmas.Bool.{and_parts, and_from, ltb-true, ne_eqb}
use Rattle.std.proofs.lemmas.List.{length-append, take_at, drop_at}
use Rattle.std.proofs.lemmas.List.Elements.{All-get_or}
use Rattle.std.proofs.lemmas.Str.{IsUtf8-from_is_utf8, is_utf8-from_IsUtf8, IsUtf8-append, IsUtf8-take, IsUtf8-drop, IsUtf8-from_ascii, IsCharBoundary-after_ascii, chars-append, chars_from_encodes, encodes-chars, scalars-chars, chars-IsAscii}
use Rattle.std.proofs.Math.Seq.{get_or-append_seam}
use Rattle.base64.specs.Engines.{standard}
use Rattle.base64.specs.GeneralPurpose.{encode_of}
use Rattle.sshkey_model.specs.Parts.{Parts, flat}
use Rattle.sshkey_model.specs.Lines.{space, after_space, joined, written, IsLine, LinesReadBack, IsBlob}
use Rattle.sshkey_model.specs.Grammar.{SpellsWith}
use Rattle.sshkey_model.specs.Keys.{Key, Plain, IsKey, HasKeyPlaces, key, normal_key}
use Rattle.sshkey_model.specs.Certificates.{Certificate, IsCertificate, HasCertificatePlaces, certificate, plain_choices, normal_certificate}
use Rattle.sshkey_model.proofs.CombinedReaders.{chosen}
use Rattle.sshkey_model.proofs.NormalForms.{plain_choices_have}
use Rattle.sshkey_model.proofs.NormalFits.{key_fits, certificate_fits}
use Rattle.sshkey_model.proofs.Base64Words.{IsDark, word_dark, some_word}

-- ---- characters with no white space at their end

abbrev Settled : List ℕ → Type 0
Settled cs = drop_trailing_whitespace cs ≡ cs

-- a first character, if something is left after it
kept : (c : ℕ) (cs ds : List ℕ) → drop_trailing_whitespace cs ≡ ds → 0 < length ds → drop_trailing_whitespace (c ∷ cs) ≡ c ∷ ds
kept c cs ds e some =
    let more : eqb (length ds) 0 ≡ false = ne_eqb (length ds) 0 (λ none. omega arith) in
    rw (e, more) (left (is_whitespace c))
  where
    left : (w : Bool) → cond (w && false) [] (c ∷ ds) ≡ c ∷ ds
    left true = refl
    left false = refl

settled_after : (xs ys : List ℕ) → 0 < length ys → Settled ys → Settled (xs ++ ys)
settled_after [] ys some h = h
settled_after (x ∷ xs) ys some h = kept x (xs ++ ys) (xs ++ ys) (settled_after xs ys some h) (omega (arith, length-append xs ys))

settled_later : (x : ℕ) (xs : List ℕ) → Settled (x ∷ xs) → Settled xs
settled_later x xs h =
    elim (chosen (is_whitespace x && eqb (length (drop_trailing_whitespace xs)) 0) [] (x ∷ drop_trailing_whitespace xs) (x ∷ xs) h) [
      | inl none ↦ absurd (cc none.1)
      | inr some ↦ cc some.1
    ]

settled_end : (xs ys : List ℕ) → Settled (xs ++ ys) → Settled ys
settled_end [] ys h = h
settled_end (x ∷ xs) ys h = settled_end xs ys (settled_later x (xs ++ ys) h)

settled_again : (cs : List ℕ) → Settled (drop_trailing_whitespace cs)
settled_again [] = refl
settled_again (c ∷ cs) = go (is_whitespace c && eqb (length (drop_trailing_whitespace cs)) 0) refl (settled_again cs)
  where
    go : (t : Bool) → (is_whitespace c && eqb (length (drop_trailing_whitespace cs)) 0) ≡ t → Settled (drop_trailing_whitespace cs) → Settled (cond t [] (c ∷ drop_trailing_whitespace cs))
    go true e h = refl
    go false e h = ap (λ (ds : List ℕ). cond (is_whitespace c && eqb (length ds) 0) [] (c ∷ ds)) h ∙ rw e refl

dark_settled : (cs : List ℕ) → ((i : ℕ) → i < length cs → IsDark (get_or cs i 0)) → Settled cs
dark_settled [] h = refl
dark_settled (c ∷ cs) h =
    let dark : not (is_whitespace c) ≡ true = (and_parts _ (not (is_whitespace c)) (h 0 (omega arith))).1 in
    shown (is_whitespace c) dark (dark_settled cs (λ i lt. h (suc i) (omega arith)))
  where
    shown : (w : Bool) → not w ≡ true → drop_trailing_whitespace cs ≡ cs → cond (w && eqb (length (drop_trailing_whitespace cs)) 0) [] (c ∷ drop_trailing_whitespace cs) ≡ c ∷ cs
    shown true e f = absurd (cc e)
    shown false e f = ap (λ (ds : List ℕ). c ∷ ds) f

-- ---- texts with no white space at their end

still_scalars : (cs : List ℕ) → all_scalars cs ≡ true → all_scalars (drop_trailing_whitespace cs) ≡ true
still_scalars [] h = refl
still_scalars (c ∷ cs) h = go (is_whitespace c && eqb (length (drop_trailing_whitespace cs)) 0) (still_scalars cs (and_parts _ (all_scalars cs) h).1)
  where
    go : (t : Bool) → all_scalars (drop_trailing_whitespace cs) ≡ true → all_scalars (cond t [] (c ∷ drop_trailing_whitespace cs)) ≡ true
    go true e = refl
    go false e = and_from _ _ (and_parts _ (all_scalars cs) h).0 e

trimmed : (text : List ℕ) → IsUtf8 text → IsUtf8 (trim_end text) × Settled (chars (trim_end text))
unfolding trim_end
trimmed text u =
    let left = drop_trailing_whitespace (chars text) in
    let utf8 : IsUtf8 (encode_utf8_all left) = (left, (still_scalars (chars text) (scalars-chars text u), refl)) in
    (utf8, subst Settled (chars_from_encodes left (encode_utf8_all left) utf8 refl) (settled_again (chars text)))

not_trimmed : (text : List ℕ) → IsUtf8 text → Settled (chars text) → trim_end text ≡ text
unfolding trim_end
not_trimmed text u h = ap encode_utf8_all h ∙ encodes-chars text u

-- a text that is cut after a space
cut_after : (a r : List ℕ) → IsUtf8 (a ++ (space ∷ r)) → IsUtf8 (a ++ (space ∷ [])) × IsUtf8 r
cut_after a r u =
    let here : get_or (a ++ (space ∷ r)) (length a) 0 ≡ space = get_or-append_seam a space r 0 in
    let edge = IsCharBoundary-after_ascii (a ++ (space ∷ r)) (length a) u (omega (arith, length-append a (space ∷ r))) (omega (arith, here)) in
    let parts : a ++ (space ∷ r) ≡ (a ++ (space ∷ [])) ++ r = sym (append_assoc a (space ∷ []) r) in
    let size : length (a ++ (space ∷ [])) ≡ length a + 1 = length-append a (space ∷ []) in (
      subst IsUtf8 (ap (take (length a + 1)) parts ∙ take_at (a ++ (space ∷ [])) r (length a + 1) size) (IsUtf8-take (a ++ (space ∷ r)) (length a + 1) u edge),
      subst IsUtf8 (ap (drop (length a + 1)) parts ∙ drop_at (a ++ (space ∷ [])) r (length a + 1) size) (IsUtf8-drop (a ++ (space ∷ r)) (length a + 1) u edge),
    )

-- ---- words in Base64

abbrev word : List ℕ → List ℕ
word blob = encode_of standard blob

word_symbols : (b : List ℕ) (i : ℕ) → i < length (word b) → IsDark (get_or (word b) i 0)
word_symbols b i lt = All-get_or IsDark (word b) i 0 lt (word_dark b)

dark_ascii : (cs : List ℕ) → ((i : ℕ) → i < length cs → IsDark (get_or cs i 0)) → IsAscii cs
dark_ascii [] h i = omega arith
dark_ascii (c ∷ cs) h zero = ltb-true c 0x80 (and_parts (nat_lt c 0x80) (not (is_whitespace c)) (h 0 (omega arith))).0
dark_ascii (c ∷ cs) h (suc i) = dark_ascii cs (λ j lt. h (suc j) (omega arith)) i

word_ascii : (b : List ℕ) → IsAscii (word b)
word_ascii b = dark_ascii (word b) (word_symbols b)

space_ascii : IsAscii (space ∷ [])
space_ascii zero = omega arith
space_ascii (suc i) = omega arith

-- ---- lines

-- It is a text, and ends without white space.
abbrev IsDone : List ℕ → Type 0
IsDone text = IsUtf8 text × Settled (chars text)

done_after : (front end : List ℕ) → IsUtf8 front → IsUtf8 end → 0 < length (chars end) → Settled (chars end) → IsDone (front ++ end)
done_after front end u v some h = (IsUtf8-append front end u v, subst Settled (sym (chars-append front end u)) (settled_after (chars front) (chars end) some h))

some_chars : (cs : List ℕ) (c : ℕ) (rest : List ℕ) → encode_utf8_all cs ≡ c ∷ rest → 0 < length cs
some_chars [] c rest e = absurd (cc e)
some_chars (d ∷ ds) c rest e = omega arith

-- the parts of a line, taken together from the left
from_left : (first w m : List ℕ) → first ++ (space ∷ (w ++ (space ∷ m))) ≡ ((first ++ (space ∷ [])) ++ w) ++ (space ∷ m)
from_left first w m = sym (append_assoc first (space ∷ []) (w ++ (space ∷ m))) ∙ sym (append_assoc (first ++ (space ∷ [])) w (space ∷ m))

abbrev fronted : List ℕ → List ℕ → List ℕ
fronted first w = (first ++ (space ∷ [])) ++ w

front_utf8 : (first w m : List ℕ) (b : List ℕ) → IsUtf8 (joined first w m) → IsUtf8 (fronted first (word b))
front_utf8 first w m b u = IsUtf8-append (first ++ (space ∷ [])) (word b) (cut_after first (w ++ after_space m) u).0 (IsUtf8-from_ascii (word b) (word_ascii b))

-- another word of Base64 in the place of the one that stands there
other_word : (first w m b : List ℕ) → 0 < length b → IsDone (joined first w m) → IsDone (joined first (word b) m)
other_word first w [] b some h =
    let shape : first ++ (space ∷ (word b ++ [])) ≡ fronted first (word b) = ap (λ (z : List ℕ). first ++ (space ∷ z)) (append-nil (word b)) ∙ sym (append_assoc first (space ∷ []) (word b)) in
    let codes_ : chars (word b) ≡ word b = chars-IsAscii (word b) (word_ascii b) in
    let front = (cut_after first (w ++ []) h.0).0 in
    subst IsDone (sym shape) (done_after (first ++ (space ∷ [])) (word b) front (IsUtf8-from_ascii (word b) (word_ascii b))
    (omega (arith, ap length codes_, some_word b some)) (subst Settled (sym codes_) (dark_settled (word b) (word_symbols b))))
other_word first w (c ∷ m) b some h =
    let comment = c ∷ m in
    let was = cut_after (fronted first w) comment (subst IsUtf8 (from_left first w comment) h.0) in
    let split : joined first w comment ≡ (fronted first w ++ (space ∷ [])) ++ comment = from_left first w comment ∙ sym (append_assoc (fronted first w) (space ∷ []) comment) in
    let settled : Settled (chars comment) = settled_end (chars (fronted first w ++ (space ∷ []))) (chars comment) (subst Settled (ap chars split ∙ chars-append (fronted first w ++ (space ∷ [])) comment was.0) h.1) in
    let front : IsUtf8 (fronted first (word b) ++ (space ∷ [])) = IsUtf8-append (fronted first (word b)) (space ∷ []) (front_utf8 first w comment b h.0) (IsUtf8-from_ascii (space ∷ []) space_ascii) in
    let shape : joined first (word b) comment ≡ (fronted first (word b) ++ (space ∷ [])) ++ comment = from_left first (word b) comment ∙ sym (append_assoc (fronted first (word b)) (space ∷ []) comment) in
    subst IsDone (sym shape) (done_after (fronted first (word b) ++ (space ∷ [])) comment front was.1 (some_chars (chars comment) c m (encodes-chars comment was.1)) settled)

-- the line of another blob, which is not trimmed
line_again : (text first blob comment other : List ℕ) → IsLine text first blob comment → 0 < length other → IsLine (written first other comment) first other comment
line_again text first blob comment other line some =
    let was : IsDone (written first blob comment) = subst IsDone line.is (trimmed text (IsUtf8-from_is_utf8 text line.utf8)) in
    let now : IsDone (written first other comment) = other_word first (word blob) comment other some was in
    record { utf8 = is_utf8-from_IsUtf8 (written first other comment) now.0; is = not_trimmed (written first other comment) now.0 now.1; some_first = line.some_first; some_blob = some; characters = line.characters }

pub lines_read_back : {V : Type 0} (first : V → List ℕ) (Spelling : V → List ℕ → Type 0) (normal : V → Parts) → IsBlob Spelling → ((v : V) (blob : List ℕ) → Spelling v blob → Spelling v (flat (normal v))) → LinesReadBack first Spelling normal
unfolding LinesReadBack
lines_read_back first Spelling normal blobs normally text comment v line =
    let spelled = normally v line.blob line.spelled in
    record { blob = flat (normal v); spelled = spelled; line = line_again text (first v) line.blob comment (flat (normal v)) line.line (blobs.some v (flat (normal v)) spelled) }

-- ---- keys and certificates

pub key_normally : (k : Key) (blob : List ℕ) → SpellsWith IsKey HasKeyPlaces key k blob → SpellsWith IsKey HasKeyPlaces key k (flat (normal_key k))
key_normally k blob s = record { is = s.is; choices = Plain; place = tt; fits = key_fits k s.choices s.is s.place s.fits; shape = refl }

pub certificate_normally : (c : Certificate) (blob : List ℕ) → SpellsWith IsCertificate HasCertificatePlaces certificate c blob → SpellsWith IsCertificate HasCertificatePlaces certificate c (flat (normal_certificate c))
certificate_normally c blob s = record { is = s.is; choices = plain_choices c.signed; place = plain_choices_have c.signed; fits = certificate_fits c s.choices s.is s.place s.fits; shape = refl }
