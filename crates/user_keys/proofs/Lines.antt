-- Where the name of a key stands in a line.
use Rattle.std.proofs.Common.{◌≡◌, ◌∙◌, ◌-◌, ◌<◌, ℕ, List, ◌++◌, true, ap, arith, drop, get_or, inl, inr, length, refl, subst, sym, take, ◌≢◌, ◌≤◌, Bool, false, not, IfOk, Result, Ok, Err}
use Rattle.std.proofs.Math.Seq.{drop-append_seam, take-append_seam}
use Rattle.std.proofs.lemmas.List.{get_or_append_left, get_or-append_right, length-append}
use Rattle.std.proofs.lemmas.List.Sums.{position_or_len_is}
use Rattle.std.specs.List.{before_first, position_or_len, All, Any}
use Rattle.sshkey_entries.proofs.OneEntry.{one_end}
use Rattle.sshkey_entries.specs.Fields.{CutsField, EndsField, without_blanks, EndsOptions, is_blank}
use Rattle.sshkey_model.specs.Keys.{Key}
use Rattle.user_keys.specs.Lines.{BeginsWithName, HasName, IsEntryFor, IsFor, IsTextEntry, MayBeEntryFor, MayBeFor, before_zero, is_zero, AreTerms, MayBeTerms}
use Rattle.std.proofs.Math.Bool.{beq}
use Rattle.std.specs.Prelude.{slice_index}
use Rattle.std.specs.Str.{IsUtf8}
use Rattle.sshkey_entries.specs.AuthorizedKeys.{AuthorizedKey}
use Rattle.sshkey_entries.specs.Entries.{IsNoEntry, hash_sign}
use Rattle.sshkey_entries.specs.Laws.{EntriesDetermineValues}
use Rattle.sshkey_entries.specs.OpenSshLines.{IsAuthorizedLine}
use Rattle.sshkey_entries.proofs.OptionItems.{told_as}
use Rattle.sshkey_entries.specs.Answers.{Tells}
use Rattle.login_terms.specs.Options.{Terms, terms_of}
use Rattle.sshkey_entries.specs.declared.reading.Reading.{Reading}
use Rattle.sshkey_entries.specs.declared.reading.Reading.TheVariants.{Is, Rejected, Unclear}
use Rattle.login_terms.specs.declared.terms.Terms as code
use Rattle.user_keys.specs.Spellings.{AreMarks, HasMark, MaySpell, StandIn, own_part}
use Rattle.user_keys.specs.declared.marks.Marks.{Marks}
use Rattle.user_keys.proofs.Blobs.{entry_spells, spelled_before}
use Rattle.std.proofs.lemmas.List.Elements.{All-get_or}
use Rattle.user_keys.specs.UserLogins.{Credential, Ends, IsListedBy, UserLogin, is_certificate, listed_key}
use Rattle.user_keys.proofs.Judgements.{passes}

ends_there : (field rest : List ℕ) → EndsField rest → length field < length (field ++ rest) → is_blank (get_or (field ++ rest) (length field) 0) ≡ true
ends_there field rest (inl none) less = absurd (omega (arith, less, length-append field rest, ap length none))
ends_there field rest (inr blank) less =
    let start : length field - length field ≡ 0 = omega arith in
    ap is_blank (get_or-append_right field rest (length field) (length field) 0 refl (omega arith) ∙ ap (λ (k : ℕ). get_or rest k 0) start) ∙ blank

-- what stands before the first blank
pub first_field : (text field rest : List ℕ) → CutsField text field rest → field ≡ before_first is_blank text
first_field text field rest cut =
    let at : position_or_len is_blank text ≡ length field = position_or_len_is is_blank text (length field) 0
    (omega (arith, ap length cut.is, length-append field rest))
    (λ k l. ap is_blank (ap (λ (t : List ℕ). get_or t k 0) cut.is ∙ get_or_append_left field rest 0 k l) ∙ cut.one_word k l)
    (λ l. ap (λ (t : List ℕ). is_blank (get_or t (length field) 0)) cut.is ∙ ends_there field rest cut.ends (subst (λ (t : List ℕ). length field < length t) cut.is l)) in
    sym (ap (λ (k : ℕ). take k text) at ∙ ap (take (length field)) cut.is ∙ take-append_seam field rest)

-- ---- behind options

module _ (key : Key) (text : List ℕ) (first : BeginsWithName key text → ⊥) where
  pub behind : (front rest fields : List ℕ) → text ≡ front ++ rest → EndsOptions text (length front) → fields ≡ without_blanks rest → (BeginsWithName key fields → HasName key text) × (HasName key text → BeginsWithName key fields)
  behind front rest fields is ends skips =
      let left : drop (length front) text ≡ rest = ap (drop (length front)) is ∙ drop-append_seam front rest in
      let same : fields ≡ without_blanks (drop (length front) text) = skips ∙ ap without_blanks (sym left) in (
        λ begins. inr (length front, ends, subst (BeginsWithName key) same begins),
        λ has. elim has [
          | inl begins ↦ absurd (first begins)
          | inr later ↦ subst (BeginsWithName key) (ap (λ (k : ℕ). without_blanks (drop k text)) (one_end text later.0 (length front) later.1 ends) ∙ sym same) later.2
        ],
      )

  pub nowhere : ((place : ℕ) → EndsOptions text place → ⊥) → HasName key text → ⊥
  nowhere none (inl begins) = first begins
  nowhere none (inr later) = none later.0 later.1

-- Which key a line is for.

-- ---- marks

pub marks_are : (part text : List ℕ) (m : Marks) → AreMarks part m → HasMark m text → MaySpell part text
marks_are part text m are (inl x) = inl (subst (λ (s : List ℕ). StandIn s text) are.0 x)
marks_are part text m are (inr (inl y)) = inr (inl (subst (λ (s : List ℕ). StandIn s text) are.1 y))
marks_are part text m are (inr (inr z)) = inr (inr (subst (λ (s : List ℕ). StandIn s text) are.2 z))

pub are_marks : (part text : List ℕ) (m : Marks) → AreMarks part m → MaySpell part text → HasMark m text
are_marks part text m are (inl x) = inl (subst (λ (s : List ℕ). StandIn s text) (sym are.0) x)
are_marks part text m are (inr (inl y)) = inr (inl (subst (λ (s : List ℕ). StandIn s text) (sym are.1) y))
are_marks part text m are (inr (inr z)) = inr (inr (subst (λ (s : List ℕ). StandIn s text) (sym are.2) z))

-- ---- bits

pub same_bit : (a b : Bool) → not (beq a b) ≡ false → a ≡ b
same_bit true true e = refl
same_bit true false e = absurd cc
same_bit false true e = absurd cc
same_bit false false e = refl

pub other_bit : (a b : Bool) → not (beq a b) ≡ true → a ≡ b → ⊥
other_bit true true e same = cc
other_bit true false e same = cc
other_bit false true e same = cc
other_bit false false e same = cc

-- ---- an entry of the key

module _ (authority : Bool) (key : Key) (entry : AuthorizedKey) (same : entry.key ≡ key) where
  may_own : MayBeEntryFor key entry → MayBeTerms entry.options
  may_own (inl own) = own.1
  may_own (inr other) = absurd (other.0 same)

  pub is_own : (t : code.Terms) → Tells terms_of (AreTerms entry.options) (MayBeTerms entry.options) (Is t) → (terms_of t).is_authority ≡ authority → Tells terms_of (IsEntryFor authority key entry) (MayBeEntryFor key entry) (Is t)
  is_own t told of = (record { own_key = same; said = told.0; of_authority = of }, (λ y f. told.1 y f.said), λ m. told.2 (may_own m))

  pub of_other : (t : code.Terms) → Tells terms_of (AreTerms entry.options) (MayBeTerms entry.options) (Is t) → ((terms_of t).is_authority ≡ authority → ⊥) → Tells terms_of (IsEntryFor authority key entry) (MayBeEntryFor key entry) Rejected
  of_other t told other = ((λ y f. other (ap (λ (u : Terms). u.is_authority) (sym (told.1 y f.said)) ∙ f.of_authority)), λ m. told.2 (may_own m))

  pub is_rejected : Tells {X = code.Terms} terms_of (AreTerms entry.options) (MayBeTerms entry.options) Rejected → Tells {X = code.Terms} terms_of (IsEntryFor authority key entry) (MayBeEntryFor key entry) Rejected
  is_rejected told = ((λ y f. told.0 y f.said), λ m. told.1 (may_own m))

  pub is_unclear : Tells {X = code.Terms} terms_of (AreTerms entry.options) (MayBeTerms entry.options) Unclear → Tells {X = code.Terms} terms_of (IsEntryFor authority key entry) (MayBeEntryFor key entry) Unclear
  is_unclear told = ((λ y f. told.0 y f.said), inl (same, told.1))

-- ---- a line

module _ (authority : Bool) (key : Key) (line : List ℕ) where
  -- what an entry says its line does
  pub of_entry : EntriesDetermineValues IsAuthorizedLine → (entry : AuthorizedKey) → IsTextEntry (before_zero line) entry → (r : Reading code.Terms) → Tells terms_of (IsEntryFor authority key entry) (MayBeEntryFor key entry) r → Tells terms_of (IsFor authority key line) (MayBeFor key line) r
  of_entry one entry read = told_as terms_of (IsEntryFor authority key entry) (IsFor authority key line) (MayBeEntryFor key entry) (MayBeFor key line)
      (λ t own. (entry, read, own))
      (λ t own. subst (λ (e : AuthorizedKey). IsEntryFor authority key e t) (one (before_zero line) own.0 entry own.1.read read.read) own.2)
      (λ may. inl (entry, read, may))
      (λ may. elim may [
        | inl other ↦ subst (λ (e : AuthorizedKey). MayBeEntryFor key e) (one (before_zero line) other.0 entry other.1.read read.read) other.2
        | inr odd ↦ absurd (odd.no_entry entry read)
      ])

  pub of_entry_read : {E : Type 0} → EntriesDetermineValues IsAuthorizedLine → (entry : AuthorizedKey) → IsTextEntry (before_zero line) entry → (r : Result (Reading code.Terms) E) → IfOk r (Tells terms_of (IsEntryFor authority key entry) (MayBeEntryFor key entry)) → IfOk r (Tells terms_of (IsFor authority key line) (MayBeFor key line))
  of_entry_read one entry read (Ok r) told = of_entry one entry read r told
  of_entry_read one entry read (Err e) told = tt

  same_part : (entry : AuthorizedKey) → MayBeEntryFor key entry → own_part entry.key ≡ own_part key
  same_part entry (inl own) = ap own_part own.0
  same_part entry (inr other) = other.1

  module _ (long : 17 ≤ length (own_part key)) (unmarked : MaySpell (own_part key) line → ⊥) where
    no_mark : (entry : AuthorizedKey) → IsTextEntry (before_zero line) entry → own_part entry.key ≡ own_part key → ⊥
    no_mark entry read same = unmarked (spelled_before is_zero (own_part key) line (subst (λ (p : List ℕ). MaySpell p (before_zero line)) same (entry_spells (before_zero line) entry read.read (subst (λ (p : List ℕ). 17 ≤ length p) (sym same) long))))

    pub not_marked : ((t : Terms) → IsFor authority key line t → ⊥) × (MayBeFor key line → ⊥)
    not_marked = (
      λ t own. no_mark own.0 own.1 (ap own_part own.2.own_key),
      λ may. elim may [
        | inl other ↦ no_mark other.0 other.1 (same_part other.0 other.2)
        | inr odd ↦ unmarked (spelled_before is_zero (own_part key) line odd.spelled)
      ],
    )

  -- a line of the key spells it
  pub own_spells : 17 ≤ length (own_part key) → (t : Terms) → IsFor authority key line t → MaySpell (own_part key) line
  own_spells long t own =
      let same : own_part own.0.key ≡ own_part key = ap own_part own.2.own_key in
      spelled_before is_zero (own_part key) line (subst (λ (p : List ℕ). MaySpell p (before_zero line)) same (entry_spells (before_zero line) own.0 own.1.read (subst (λ (p : List ℕ). 17 ≤ length p) (sym same) long)))

  -- what a line says that is no entry, nor a comment
  module _ (none : IsNoEntry IsTextEntry (before_zero line)) (no_comment : slice_index (without_blanks (before_zero line)) 0 ≢ hash_sign) (m : Marks) (are : AreMarks (own_part key) m) (r : Reading code.Terms) where
    -- one that is no UTF-8
    pub of_no_text : ¬ IsUtf8 (before_zero line) → Tells terms_of (λ _. ⊥) (HasMark m (before_zero line)) r → Tells terms_of (IsFor authority key line) (MayBeFor key line) r
    of_no_text no_utf8 = told_as terms_of (λ _. ⊥) (IsFor authority key line) (HasMark m (before_zero line)) (MayBeFor key line)
        (λ t no. absurd no)
        (λ t own. none own.0 own.1)
        (λ has. inr (record { no_comment = no_comment; no_entry = none; spelled = marks_are (own_part key) (before_zero line) m are has; has_name = λ utf8. absurd (no_utf8 utf8) }))
        (λ may. elim may [
          | inl other ↦ absurd (none other.0 other.1)
          | inr odd ↦ are_marks (own_part key) (before_zero line) m are odd.spelled
        ]) r

    pub of_text : IsUtf8 (before_zero line) → Tells terms_of (λ _. ⊥) (HasMark m (before_zero line) × HasName key (without_blanks (before_zero line))) r → Tells terms_of (IsFor authority key line) (MayBeFor key line) r
    of_text utf8 = told_as terms_of (λ _. ⊥) (IsFor authority key line) (HasMark m (before_zero line) × HasName key (without_blanks (before_zero line))) (MayBeFor key line)
        (λ t no. absurd no)
        (λ t own. none own.0 own.1)
        (λ has. inr (record { no_comment = no_comment; no_entry = none; spelled = marks_are (own_part key) (before_zero line) m are has.0; has_name = λ _. has.1 }))
        (λ may. elim may [
          | inl other ↦ absurd (none other.0 other.1)
          | inr odd ↦ (are_marks (own_part key) (before_zero line) m are odd.spelled, odd.has_name utf8)
        ]) r

-- Lines without a mark are not for the key.

module _ (login : UserLogin) (by : Credential) (long : 17 ≤ length (own_part (listed_key by))) (m : Marks) (are : AreMarks (own_part (listed_key by)) m) where
  passed : (line : List ℕ) → (HasMark m line → ⊥) → ¬ IsListedBy by line × ¬ Ends login by line
  passed line none =
      let not = not_marked (is_certificate by) (listed_key by) line long (λ may. none (are_marks (own_part (listed_key by)) line m are may)) in
      passes login by line not.0 not.1

  module _ (before : List (List ℕ)) (all : All (λ line. ¬ HasMark m line) before) where
    -- one of them has none
    without : (k : ℕ) (line : List ℕ) → k < length before → get_or before k line ≡ line → HasMark m line → ⊥
    without k line l is = subst (λ (x : List ℕ). ¬ HasMark m x) is (All-get_or (λ x. ¬ HasMark m x) before k line l all)

    pub none_listed : ¬ Any (IsListedBy by) before
    none_listed some = (passed some.1 (without some.0 some.1 some.2 some.3)).0 some.4

    pub none_ends : ¬ Any (Ends login by) before
    none_ends some = (passed some.1 (without some.0 some.1 some.2 some.3)).1 some.4
