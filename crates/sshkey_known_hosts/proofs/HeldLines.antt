-- Lines that are held, and those of them that may be for a name.
use denote.Ref.{Bor}
use Rattle.std.proofs.Common.{◌≡◌, ◌↔◌, ◌∙◌, ◌<◌, ◌≤◌, ◌+◌, ◌-◌, ℕ, List, [], ◌∷◌, ◌++◌, length, take, get_or, None, Some, true, inl, inr, sym, ap, subst, arith, append_assoc, append-nil, Bool, false, drop, refl}
use Rattle.std.proofs.Math.Seq.{take-append_seam, drop-append_seam}
use Rattle.std.proofs.lemmas.List.{flat_map_more, length-append, take_all, take_more, length-drop}
use Rattle.std.specs.List.{Any}
use Rattle.std.specs.Str.Lines.{lines}
use Rattle.sshkey_entries.proofs.ByteLines.{step}
use Rattle.sshkey_entries.specs.Entries.{CutsLine, IsLineEnd}
use Rattle.sshkey_entries.specs.Fields.{filled_lines, is_filled, without_blanks}
use Rattle.sshkey_entries.specs.HostVerdicts.{HidesEntry, IsKnown, IsKnownBy, Lists}
use Rattle.sshkey_entries.specs.KnownHosts.{CertAuthority, Revoked}
use Rattle.sshkey_known_hosts.specs.HeldLines.{held_lines, lines_of, SaySame, ArePlacesOf, IsPlaceOf, total_length}
use Rattle.sshkey_known_hosts.specs.HeldNames.{SayNothing, TellsNames}
use Rattle.sshkey_known_hosts.specs.declared.held_line.HeldLine.{HeldLine}
use Rattle.sshkey_known_hosts.proofs.Verdicts.{either, first, later}
use Rattle.sshkey_known_hosts.specs.declared.places.LinePlace.{LinePlace}

-- ---- a line as it stands in its text

module _ (text line after : List ℕ) (cut : CutsLine text line after) where
  pub one_line : IsLineEnd cut.end after → lines (line ++ cut.end) ≡ line ∷ []
  one_line (inl last) =
      let whole : line ++ (cut.end ++ after) ≡ line ++ cut.end = ap (λ (l : List ℕ). line ++ (cut.end ++ l)) last.1 ∙ ap (λ (l : List ℕ). line ++ l) (append-nil cut.end) in
      ap lines (sym (cut.is ∙ whole)) ∙ cut.first ∙ ap (λ (l : List ℕ). line ∷ lines l) last.1
  one_line (inr (inl feed)) = ended (omega (arith, ap length feed))
    where
      ended : 0 < length cut.end → lines (line ++ cut.end) ≡ line ∷ []
      ended some = ap (λ (l : List ℕ). lines (line ++ l)) (sym (append-nil cut.end)) ∙ cut.any_after some []
  one_line (inr (inr both)) = ended (omega (arith, ap length both))
    where
      ended : 0 < length cut.end → lines (line ++ cut.end) ≡ line ∷ []
      ended some = ap (λ (l : List ℕ). lines (line ++ l)) (sym (append-nil cut.end)) ∙ cut.any_after some []

  pub piece_is : take (length text - length after) text ≡ line ++ cut.end
  piece_is =
      let whole : text ≡ (line ++ cut.end) ++ after = cut.is ∙ sym (append_assoc line cut.end after) in
      let size : length text - length after ≡ length (line ++ cut.end) = omega (arith, ap length whole, length-append (line ++ cut.end) after) in
      ap (λ (n : ℕ). take n text) size ∙ ap (take (length (line ++ cut.end))) whole ∙ take-append_seam (line ++ cut.end) after

  module _ (piece filled : List ℕ) (piece_of : piece ≡ take (length text - length after) text) (is : filled ≡ without_blanks line) (fills : is_filled filled ≡ true) where
    pub piece_line : filled_lines piece ≡ filled ∷ []
    piece_line = step piece line [] filled true (ap lines (piece_of ∙ piece_is) ∙ one_line cut.ends) is fills

    pub one_more : filled_lines text ≡ filled ∷ filled_lines after
    one_more = step text line after filled true cut.first is fills

-- ---- which say the same

module _ {X : Type 0} (P : X → Type 0) (xs ys zs : List X) where
  any_more : Any P xs ↔ Any P ys → Any P (xs ++ zs) ↔ Any P (ys ++ zs)
  any_more same = (
    λ s. elim (either P xs zs s) [ inl a ↦ first P ys zs (same.0 a) | inr b ↦ later P ys zs b ],
    λ s. elim (either P ys zs s) [ inl a ↦ first P xs zs (same.1 a) | inr b ↦ later P xs zs b ],
  )

  any_passed : (Any P zs → ⊥) → Any P xs ↔ Any P ys → Any P (xs ++ zs) ↔ Any P ys
  any_passed none same = (
    λ s. elim (either P xs zs s) [ inl a ↦ same.0 a | inr b ↦ absurd (none b) ],
    λ s. first P xs zs (same.1 s),
  )

module _ (hmac : List ℕ → List ℕ → List ℕ) (name : List ℕ) where
  none_known : (lines : List (List ℕ)) → SayNothing hmac name lines → IsKnown hmac name lines → ⊥
  none_known lines nothing s = elim s.4 [
    | inl one ↦ nothing.0 None one.0 (s.0, s.1, s.2, s.3, one.1)
    | inr other ↦ nothing.1 None (s.0, s.1, s.2, s.3, other)
  ]

  pub no_lines_same : SaySame hmac name [] []
  no_lines_same = record { revoked = λ key. (λ s. s, λ s. s); hidden = (λ s. s, λ s. s); listed = λ key. (λ s. s, λ s. s); known = (λ s. s, λ s. s); authority = λ key. (λ s. s, λ s. s) }

  module _ (xs ys zs : List (List ℕ)) (same : SaySame hmac name xs ys) where
    pub same_more : SaySame hmac name (xs ++ zs) (ys ++ zs)
    same_more = record {
      revoked = λ key. any_more (Lists hmac name (Some Revoked) key) xs ys zs (same.revoked key);
      hidden = any_more (HidesEntry hmac name) xs ys zs same.hidden;
      listed = λ key. any_more (Lists hmac name None key) xs ys zs (same.listed key);
      known = any_more (IsKnownBy hmac name) xs ys zs same.known;
      authority = λ key. any_more (Lists hmac name (Some CertAuthority) key) xs ys zs (same.authority key);
    }

    pub same_passed : SayNothing hmac name zs → SaySame hmac name (xs ++ zs) ys
    same_passed nothing = record {
      revoked = λ key. any_passed (Lists hmac name (Some Revoked) key) xs ys zs (nothing.0 (Some Revoked) key) (same.revoked key);
      hidden = any_passed (HidesEntry hmac name) xs ys zs nothing.2 same.hidden;
      listed = λ key. any_passed (Lists hmac name None key) xs ys zs (nothing.0 None key) (same.listed key);
      known = any_passed (IsKnownBy hmac name) xs ys zs (none_known zs nothing) same.known;
      authority = λ key. any_passed (Lists hmac name (Some CertAuthority) key) xs ys zs (nothing.0 (Some CertAuthority) key) (same.authority key);
    }

-- ---- one held line more

module _ (held : List HeldLine) (i : ℕ) where
  pub all_held : length held ≤ i → held_lines (take i held) ≡ held_lines held
  all_held end = ap held_lines (take_all i held end)

  pub more_held : (d : HeldLine) → i < length held → held_lines (take (i + 1) held) ≡ held_lines (take i held) ++ filled_lines (get_or held i d).text.now
  more_held d l = ap held_lines (take_more held i d l) ∙ sym (flat_map_more (λ (h : HeldLine). filled_lines h.text.now) [] (take i held) (get_or held i d))

pub more_texts : (texts : List (Bor (List ℕ))) (text : Bor (List ℕ)) → lines_of (texts ++ (text ∷ [])) ≡ lines_of texts ++ filled_lines text.now
more_texts texts text = sym (flat_map_more (λ (t : Bor (List ℕ)). filled_lines t.now) [] texts text)

module _ (hmac : List ℕ → List ℕ → List ℕ) (name : List ℕ) (held : List HeldLine) (i : ℕ) (line : HeldLine) (l : i < length held) (is : line ≡ get_or held i line) (texts more : List (Bor (List ℕ))) (same : SaySame hmac name (held_lines (take i held)) (lines_of texts)) where
  next_lines : held_lines (take (i + 1) held) ≡ held_lines (take i held) ++ filled_lines line.text.now
  next_lines = more_held held i line l ∙ ap (λ (h : HeldLine). held_lines (take i held) ++ filled_lines h.text.now) (sym is)

  pub kept : more ≡ texts ++ (line.text ∷ []) → SaySame hmac name (held_lines (take (i + 1) held)) (lines_of more)
  kept added =
      subst (λ (xs : List (List ℕ)). SaySame hmac name xs (lines_of more)) (sym next_lines)
      (subst (SaySame hmac name (held_lines (take i held) ++ filled_lines line.text.now)) (sym (ap lines_of added ∙ more_texts texts line.text))
      (same_more hmac name (held_lines (take i held)) (lines_of texts) (filled_lines line.text.now) same))

  pub left_out : more ≡ texts → SayNothing hmac name (filled_lines line.text.now) → SaySame hmac name (held_lines (take (i + 1) held)) (lines_of more)
  left_out still nothing =
      subst (λ (xs : List (List ℕ)). SaySame hmac name xs (lines_of more)) (sym next_lines)
      (subst (SaySame hmac name (held_lines (take i held) ++ filled_lines line.text.now)) (sym (ap lines_of still))
      (same_passed hmac name (held_lines (take i held)) (lines_of texts) (filled_lines line.text.now) same nothing))

-- one line more that is held
pub line_held : (all left after : List (List ℕ)) (filled : List ℕ) (held items : List HeldLine) (h : HeldLine) → all ≡ held_lines held ++ left → left ≡ filled ∷ after → filled_lines h.text.now ≡ filled ∷ [] → items ≡ held ++ (h ∷ []) → all ≡ held_lines items ++ after
line_held all left after filled held items h was cut piece pushed =
    let one : held_lines items ≡ held_lines held ++ (filled ∷ []) = ap held_lines pushed ∙ sym (flat_map_more (λ (x : HeldLine). filled_lines x.text.now) [] held h) ∙ ap (λ (l : List (List ℕ)). held_lines held ++ l) piece in
    was
    ∙ ap (λ (l : List (List ℕ)). held_lines held ++ l) cut
    ∙ sym (append_assoc (held_lines held) (filled ∷ []) after)
    ∙ ap (λ (l : List (List ℕ)). l ++ after) (sym one)

-- The places of the lines of a text, and the lines among them that may be for a name.

pub nothing : {X : Type 0} (xs : List X) → length xs ≡ 0 → xs ≡ []
nothing [] none = refl
nothing (x ∷ xs) none = absurd (omega (arith, none))

-- ---- the place of the first line

module _ (text line after : List ℕ) (cut : CutsLine text line after) where
  abbrev pub size : ℕ
  size = length text - length after

  whole : text ≡ (line ++ cut.end) ++ after
  whole = cut.is ∙ sym (append_assoc line cut.end after)

  size_is : size ≡ length (line ++ cut.end)
  size_is = omega (arith, ap length whole, length-append (line ++ cut.end) after)

  pub rest_is : drop size text ≡ after
  rest_is = ap (λ (n : ℕ). drop n text) size_is ∙ ap (drop (length (line ++ cut.end))) whole ∙ drop-append_seam (line ++ cut.end) after

  pub first_alone : lines (take size text) ≡ line ∷ []
  first_alone = ap lines (piece_is text line after cut) ∙ one_line text line after cut cut.ends

  -- its lines are that one's and those of what follows
  by_fill : (b : Bool) → is_filled (without_blanks line) ≡ b → filled_lines text ≡ filled_lines (take size text) ++ filled_lines (drop size text)
  by_fill true e = step text line after _ true cut.first refl e ∙ ap (λ (l : List (List ℕ)). l ++ filled_lines after) (sym (step (take size text) line [] _ true first_alone refl e)) ∙ ap (λ (l : List ℕ). filled_lines (take size text) ++ filled_lines l) (sym rest_is)
  by_fill false e = step text line after _ false cut.first refl e ∙ ap (λ (l : List (List ℕ)). l ++ filled_lines after) (sym (step (take size text) line [] _ false first_alone refl e)) ∙ ap (λ (l : List ℕ). filled_lines (take size text) ++ filled_lines l) (sym rest_is)

  pub first_place : (p : LinePlace) → p.length ≡ size → TellsNames p.names (take size text) → IsPlaceOf p text
  first_place p is names = record {
    fits = omega (arith, is);
    cut = subst (λ (n : ℕ). filled_lines text ≡ filled_lines (take n text) ++ filled_lines (drop n text)) (sym is) (by_fill (is_filled (without_blanks line)) refl);
    names = subst (λ (n : ℕ). TellsNames p.names (take n text)) (sym is) names;
  }

  -- places of what follows are, behind it, places of the text
  pub one_before : (p : LinePlace) (more : List LinePlace) → p.length ≡ size → TellsNames p.names (take size text) → ArePlacesOf more after → ArePlacesOf (p ∷ more) text
  one_before p more is names are = (first_place p is names, subst (ArePlacesOf more) (sym (ap (λ (n : ℕ). drop n text) is ∙ rest_is)) are)

-- together they are as long as the text
pub as_long : (places : List LinePlace) (text : List ℕ) → ArePlacesOf places text → total_length places ≡ length text
as_long [] text are = sym (ap length are)
as_long (p ∷ places) text are = omega (arith, are.0.fits, as_long places (drop p.length text) are.1, length-drop p.length text)

-- ---- the lines that may be for a name

module _ (hmac : List ℕ → List ℕ → List ℕ) (name : List ℕ) (before : List (List ℕ)) (texts more : List (Bor (List ℕ))) (same : SaySame hmac name before (lines_of texts)) where
  pub asked : (text : Bor (List ℕ)) (line : List ℕ) → more ≡ texts ++ (text ∷ []) → text.now ≡ line → SaySame hmac name (before ++ filled_lines line) (lines_of more)
  asked text line added is =
      subst (λ (l : List ℕ). SaySame hmac name (before ++ filled_lines l) (lines_of more)) is
      (subst (SaySame hmac name (before ++ filled_lines text.now)) (sym (ap lines_of added ∙ more_texts texts text))
      (same_more hmac name before (lines_of texts) (filled_lines text.now) same))

  pub passed_over : (line : List ℕ) → more ≡ texts → SayNothing hmac name (filled_lines line) → SaySame hmac name (before ++ filled_lines line) (lines_of more)
  passed_over line still nothing =
      subst (SaySame hmac name (before ++ filled_lines line)) (sym (ap lines_of still))
      (same_passed hmac name before (lines_of texts) (filled_lines line) same nothing)
