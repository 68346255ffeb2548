-- A slice that is filled with the parts of a line.
use Rattle.std.proofs.Common.{◌≡◌, ℕ, zero, suc, ◌<◌, ◌≤◌, ◌+◌, List, [], ◌∷◌, ◌++◌, length, take, take_all, drop, refl, sym, ap, subst, ◌∙◌, arith, Some, inl, inr}
use Rattle.std.specs.Prelude.{◌==◌, false, slice_index}
use Rattle.std.proofs.lemmas.List.{length-append, append_assoc, length-take-le, length-drop, drop-drop}
use Rattle.std.proofs.lemmas.Slice.{take-put_mid, drop-put_mid}
use Rattle.std.specs.Str.{IsUtf8, IsAscii}
use Rattle.std.proofs.lemmas.Str.{IsUtf8-append, IsUtf8-from_ascii}
use Rattle.base64.specs.Engines.{standard}
use Rattle.base64.specs.GeneralPurpose.{encode_of}
use Rattle.base64.proofs.EngineFacts.{IsAscii-encode_of}
use borrow.Rule.Slice.PartMut.{put_mid}
use Rattle.sshkey_model.specs.Lines.{space, after_space, written}
use Rattle.sshkey_model.specs.Parts.{Parts, flat, BoxesFit}
use Rattle.sshkey_base.specs.Sink.{Sink, Written, NotWritten, after}
use Rattle.sshkey_base.specs.declared.encoding.Error.{Error}
use Rattle.sshkey_public.specs.WrittenLines.{filled, Added, BeginsWith, line_size, spaced}
use Rattle.sshkey_base64.proofs.GoodBytes.{length_word}

-- ---- an encoding call for which there is room

pub room_is_left : (fault : Error → Type 0) (p : Parts) (name : ℕ) (slice : List ℕ) (k : ℕ) (t : Sink) (e : Error) → BoxesFit p → k + length (flat p) ≤ length slice → NotWritten fault p (filled name k slice) e t → ⊥
unfolding NotWritten
room_is_left fault p name slice k t e boxes le h =
    elim h [
      | inl l ↦ l.misfit boxes
      | inr o ↦ let full : suc (length slice) < suc (length (take k slice)) + length (flat p) = o.full in omega (arith, length-take-le k slice (omega (arith, le)))
    ]

some_same : (m n : ℕ) → Some (suc m) ≡ Some (suc n) → m ≡ n
some_same m n e = cc

added_after : (p : Parts) (name other : ℕ) (slice new : List ℕ) (k len : ℕ) → Written p (filled name k slice) (filled other len new) → other ∷ take len new ≡ name ∷ (take k slice ++ flat p)
unfolding after
added_after p name other slice new k len h = ap (λ (s : Sink). s.written) h.1

pub same_slice : (p : Parts) (name other : ℕ) (slice new : List ℕ) (k len : ℕ) → Written p (filled name k slice) (filled other len new) → other ≡ name
same_slice p name other slice new k len h = let is = added_after p name other slice new k len h in cc

pub fills : (p : Parts) (name other : ℕ) (slice new : List ℕ) (k len : ℕ) → k ≡ 0 → length slice ≡ length (flat p) → len ≤ length new → Written p (filled name k slice) (filled other len new) → new ≡ flat p
unfolding after
fills p name other slice new k len none all within h =
    let seen = added_after p name other slice new k len h in
    let is : take len new ≡ take k slice ++ flat p = cc in
    let begun : take len new ≡ flat p = is ∙ ap (λ (n : ℕ). take n slice ++ flat p) none in
    let limit : Some (suc (length new)) ≡ Some (suc (length slice)) = ap (λ (s : Sink). s.limit) h.1 in
    let room : length new ≡ length slice = some_same (length new) (length slice) limit in
    sym (take_all len new (omega (arith, length-take-le len new within, ap length begun))) ∙ begun

-- ---- a part of the slice is written

-- the part holds now the bytes that were to be added
pub put_added : (slice put bytes : List ℕ) (start n end : ℕ) → start + n ≤ length slice → length bytes ≡ n → end ≡ start + n → put ≡ bytes → Added start slice bytes end (put_mid start n slice put)
put_added slice put bytes start n end le long at same = rw same (record {
  is = take-put_mid start n slice bytes end (omega arith) (omega arith);
  len = omega arith;
  room = omega (arith, length-append (take start slice) (bytes ++ drop n (drop start slice)), length-append bytes (drop n (drop start slice)), length-drop n (drop start slice), length-drop start slice, length-take-le start slice (omega arith));
  after = drop-put_mid start n slice bytes end (omega arith) (omega arith) long;
})

-- ---- the line

pub added_both : (k n m : ℕ) (slice new last a b : List ℕ) → Added k slice a n new → Added n new b m last → Added k slice (a ++ b) m last
added_both k n m slice new last a b h l = record {
  is = l.is ∙ ap (λ (x : List ℕ). x ++ b) h.is ∙ append_assoc (take k slice) a b;
  len = omega (arith, h.len, l.len, length-append a b);
  room = l.room ∙ h.room;
  after = l.after ∙ ap (λ (x : ℕ). drop x new) l.len ∙ sym (drop-drop (length b) n new) ∙ ap (drop (length b)) h.after ∙ drop-drop (length b) n slice ∙ ap (λ (x : ℕ). drop x slice) (sym l.len);
}

pub comment_added : (comment given : List ℕ) (k n m : ℕ) (s t u : List ℕ) → (length comment == 0) ≡ false → given ≡ comment → Added k s (space ∷ []) n t → Added n t given m u → Added k s (after_space comment) m u
comment_added [] given k n m s t u some same a b = absurd cc
comment_added (c ∷ comment) given k n m s t u some same a b = subst (λ (l : List ℕ). Added k s (space ∷ l) m u) same (added_both k n m s t u (space ∷ []) given a b)

pub spaced_is : (comment : List ℕ) → length (after_space comment) ≡ spaced (length comment)
spaced_is [] = refl
spaced_is (c ∷ comment) = refl

pub length_line : (name blob comment : List ℕ) → length (written name blob comment) ≡ line_size (length name) (length blob) (length comment)
length_line name blob comment =
    let word : List ℕ = encode_of standard blob in
    omega (arith, length-append name (space ∷ (word ++ after_space comment)), length-append word (after_space comment), length_word blob, spaced_is comment)

pub utf8_line : (name blob comment : List ℕ) → IsUtf8 name → IsUtf8 comment → IsUtf8 (written name blob comment)
utf8_line name blob comment n c =
    IsUtf8-append name _ n (IsUtf8-append (space ∷ []) _ (IsUtf8-from_ascii (space ∷ []) one) (IsUtf8-append (encode_of standard blob) (after_space comment) (IsUtf8-from_ascii (encode_of standard blob) (IsAscii-encode_of standard blob)) (spaced comment c)))
  where
    one : IsAscii (space ∷ [])
    one = λ i. below i
      where
        below : (i : ℕ) → slice_index (space ∷ []) i < 128
        below zero = omega arith
        below (suc i) = omega arith

    spaced : (m : List ℕ) → IsUtf8 m → IsUtf8 (after_space m)
    spaced [] u = u
    spaced (x ∷ m) u = IsUtf8-append (space ∷ []) (x ∷ m) (IsUtf8-from_ascii (space ∷ []) one) u

line_added : (first blob comment : List ℕ) (k n m i j : ℕ) (s t u v w : List ℕ) → Added k s first n t → Added n t (space ∷ []) m u → Added m u (encode_of standard blob) i v → Added i v (after_space comment) j w
    → Added k s (first ++ (space ∷ (encode_of standard blob ++ after_space comment))) j w
line_added first blob comment k n m i j s t u v w a b c d =
    added_both k n j s t w first (space ∷ (encode_of standard blob ++ after_space comment)) a
    (added_both n m j t u w (space ∷ []) (encode_of standard blob ++ after_space comment) b (added_both m i j u v w (encode_of standard blob) (after_space comment) c d))

pub line_filled : (name first blob comment : List ℕ) (k n m i j : ℕ) (s t u v w : List ℕ) → k ≡ 0 → first ≡ name → Added k s first n t → Added n t (space ∷ []) m u → Added m u (encode_of standard blob) i v → Added i v (after_space comment) j w
    → BeginsWith (written name blob comment) s j w
line_filled name first blob comment k n m i j s t u v w none same a b c d =
    let all = line_added first blob comment k n m i j s t u v w a b c d in
    let rest : List ℕ = space ∷ (encode_of standard blob ++ after_space comment) in
    record {
      front = all.is ∙ ap (λ (x : ℕ). take x s ++ (first ++ rest)) none ∙ ap (λ (l : List ℕ). l ++ rest) same;
      len = omega (arith, all.len, none, ap (λ (l : List ℕ). length (l ++ rest)) same);
      room = all.room;
      after = all.after;
    }
