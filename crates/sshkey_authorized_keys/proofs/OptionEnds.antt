-- Where options end, and what a text is read as.
use Rattle.std.proofs.Common.{◌≡◌, ◌≢◌, ℕ, ◌<◌, ◌≤◌, ◌+◌, List, [], ◌++◌, length, take, drop, slice_index, Bool, true, false, Result, Ok, Err, refl, sym, ap, subst, ◌∙◌, arith, inl, inr, take-append-drop}
use Rattle.std.proofs.lemmas.Bool.{cases_lt}
use Rattle.std.proofs.lemmas.List.{length-take-le}
use Rattle.std.proofs.lemmas.Str.{IsCharBoundary-before_ascii}
use Rattle.std.specs.Str.{IsCharBoundary}
use Rattle.sshkey_base.specs.Causes.{cause, NoMemory}
use Rattle.sshkey_base.specs.declared.error.Error.{Error}
use Rattle.sshkey_base.specs.declared.error.Error.TheVariants.{FormatEncoding}
use Rattle.sshkey_entries.specs.AuthorizedKeys.{AuthorizedKey}
use Rattle.sshkey_entries.specs.Entries.{hash_sign}
use Rattle.sshkey_entries.specs.Fields.{without_blanks, AreKeyFields, AreNoKeyFields, EndsOptions, is_blank, is_inside, HasKeyFault, NeedsKeyFields}
use Rattle.sshkey_entries.specs.OpenSshLines.{IsAfterOptions, IsAuthorizedLine}
use Rattle.sshkey_entries.proofs.Fields.{blank_ascii}
use Rattle.sshkey_entries.proofs.OneEntry.{one_end}
use Rattle.sshkey_entries.proofs.OneOpenSshLine.{same_front}
use Rattle.sshkey_entries.specs.Answers.{ReadsEntry, RefusesFor}
use Rattle.sshkey_model.specs.Keys.{Key}
use Rattle.sshkey_authorized_keys.specs.OpenSshEntries.{AsksFor, NeedsAfterOptions, NeedsEntry, openssh_entry_of, EndsHere, HasNoEnd, HasTextFault, HasLineFault}
use Rattle.sshkey_authorized_keys.specs.declared.openssh.OpenSshEntry.{OpenSshEntry}

-- ---- the end of options

-- Each blank before the place is inside quotes.
abbrev pub NoEndBefore : List ℕ → ℕ → Type 0
NoEndBefore text n = (i : ℕ) → i < n → is_blank (slice_index text i) ≡ true → is_inside text i ≡ true

inside_by : (b : Bool) → (b ≡ false → ⊥) → b ≡ true
inside_by true other = refl
inside_by false other = absurd (other refl)

pub none_more : (text : List ℕ) (n : ℕ) (inside : Bool) → inside ≡ is_inside text n → NoEndBefore text n → (EndsHere (slice_index text n) inside → ⊥) → NoEndBefore text (n + 1)
none_more text n inside same before other i l blank = elim (cases_lt i n) [
  | inl less ↦ before i less blank
  | inr above ↦
      let here : i ≡ n = omega (arith, l, above) in
      ap (is_inside text) here ∙ sym same ∙ inside_by inside (λ outside. other (ap (λ (k : ℕ). is_blank (slice_index text k)) (sym here) ∙ blank, outside))
]

pub ends_there : (text : List ℕ) (n : ℕ) (inside : Bool) → n < length text → inside ≡ is_inside text n → NoEndBefore text n → EndsHere (slice_index text n) inside → EndsOptions text n
ends_there text n inside l same before here = record { within = l; blank = here.0; outside = sym same ∙ here.1; first = before }

pub no_end : (text : List ℕ) (n : ℕ) → length text ≤ n → NoEndBefore text n → HasNoEnd text
no_end text n l before place e = cc (sym e.outside ∙ before place (omega (arith, e.within, l)) e.blank)

pub cut_place : (text bytes : List ℕ) (n : ℕ) → bytes ≡ text → EndsOptions bytes n → IsCharBoundary text n
cut_place text bytes n same e =
    let ends : EndsOptions text n = subst (λ (t : List ℕ). EndsOptions t n) same e in
    IsCharBoundary-before_ascii text n ends.within (blank_ascii (slice_index text n) ends.blank)

pub options_cut : (text bytes front back : List ℕ) (n : ℕ) → bytes ≡ text → EndsOptions bytes n → front ≡ take n text → back ≡ drop n text → (text ≡ front ++ back) × EndsOptions text (length front)
options_cut text bytes front back n same e first rest =
    let ends : EndsOptions text n = subst (λ (t : List ℕ). EndsOptions t n) same e in
    let size : length front ≡ n = ap length first ∙ length-take-le n text (omega (arith, ends.within)) in
    (sym (take-append-drop n text) ∙ (λ j. sym first j ++ sym rest j), subst (EndsOptions text) (sym size) ends)

-- ---- after options

pub uncut : (text : List ℕ) → HasNoEnd text → (a : AuthorizedKey) → IsAfterOptions text a → ⊥
uncut text none a is = none (length a.options) is.ends

pub uncut_fault : (text : List ℕ) → HasNoEnd text → HasTextFault text FormatEncoding
uncut_fault text none = record { no_end = λ _. refl; fields = λ options rest is ends. absurd (none (length options) ends) }

module _ (text front rest fields : List ℕ) (cut : (text ≡ front ++ rest) × EndsOptions text (length front)) (skips : fields ≡ without_blanks rest) where
  same_parts : (options more : List ℕ) → text ≡ options ++ more → EndsOptions text (length options) → (front ≡ options) × (rest ≡ more)
  same_parts options more is ends = same_front front options rest more (one_end text (length front) (length options) cut.1 ends) (sym cut.0 ∙ is)

  pub bad_key : (e : Error) → (cause e ≢ NoMemory → AreNoKeyFields fields) → cause e ≢ NoMemory → (a : AuthorizedKey) → IsAfterOptions text a → ⊥
  bad_key e none other a is =
      let same = same_parts a.options is.rest is.is is.ends in
      none other a.key a.comment (subst (λ (t : List ℕ). AreKeyFields t a.key a.comment) (ap without_blanks (sym same.1) ∙ sym skips) is.fields)

  pub key_fault : (e : Error) → HasKeyFault fields e → HasTextFault text e
  key_fault e fault = record {
    no_end = λ none. absurd (none (length front) cut.1);
    fields = λ options more is ends. subst (λ (t : List ℕ). HasKeyFault t e) (skips ∙ ap without_blanks (same_parts options more is ends).1) fault;
  }

  pub key_needs : NeedsKeyFields fields → NeedsAfterOptions text
  key_needs needed = record { options = front; rest = rest; is = cut.0; ends = cut.1; needed = inl (subst NeedsKeyFields skips needed) }

  pub options_need : (k : Key) (comment : List ℕ) → AreKeyFields fields k comment → NeedsAfterOptions text
  options_need k comment is = record { options = front; rest = rest; is = cut.0; ends = cut.1; needed = inr (k, comment, subst (λ (t : List ℕ). AreKeyFields t k comment) skips is) }

  pub options_read : (a : AuthorizedKey) → AreNoKeyFields text → a.options ≡ front → AreKeyFields fields a.key a.comment → IsAfterOptions text a
  options_read a none same is = record {
    rest = rest;
    is = cut.0 ∙ ap (λ (o : List ℕ). o ++ rest) (sym same);
    ends = subst (λ (o : List ℕ). EndsOptions text (length o)) (sym same) cut.1;
    fields = subst (λ (t : List ℕ). AreKeyFields t a.key a.comment) skips is;
    no_key = none;
  }

-- ---- a line

module _ (line text : List ℕ) (skips : text ≡ without_blanks line) where
  pub comment_read : slice_index text 0 ≡ hash_sign → (a : AuthorizedKey) → IsAuthorizedLine line a → ⊥
  comment_read here a is = is.no_comment (ap (λ (t : List ℕ). slice_index t 0) (sym skips) ∙ here)

  pub comment_fault : slice_index text 0 ≡ hash_sign → HasLineFault line FormatEncoding
  comment_fault here = record { comment = λ _. refl; text = λ other. absurd (other (ap (λ (t : List ℕ). slice_index t 0) (sym skips) ∙ here)) }

  module _ (no_comment : slice_index text 0 ≢ hash_sign) where
    not_comment : slice_index (without_blanks line) 0 ≢ hash_sign
    not_comment here = no_comment (ap (λ (t : List ℕ). slice_index t 0) skips ∙ here)

    pub alone_needs : NeedsKeyFields text → NeedsEntry line
    alone_needs needed = record { no_comment = not_comment; needed = inl (subst NeedsKeyFields skips needed) }

    pub after_needs : (r : Result OpenSshEntry Error) → AsksFor (NeedsAfterOptions text) r → AsksFor (NeedsEntry line) r
    after_needs (Ok x) h = tt
    after_needs (Err e) h = λ memory. record { no_comment = not_comment; needed = inr (subst NeedsAfterOptions skips (h memory)) }

    pub alone_read : (a : AuthorizedKey) → a.options ≡ [] → AreKeyFields text a.key a.comment → IsAuthorizedLine line a
    alone_read a none is = record { no_comment = not_comment; is = inl (record { options = none; fields = subst (λ (t : List ℕ). AreKeyFields t a.key a.comment) skips is }) }

    pub after_read : (r : Result OpenSshEntry Error) → AreNoKeyFields text → ReadsEntry openssh_entry_of IsAfterOptions text r → ReadsEntry openssh_entry_of IsAuthorizedLine line r
    after_read (Ok x) none h = record { no_comment = not_comment; is = inr (subst (λ (t : List ℕ). IsAfterOptions t (openssh_entry_of x)) skips h) }
    after_read (Err e) none h = λ other a is. elim is.is [
      | inl alone ↦ none a.key a.comment (subst (λ (t : List ℕ). AreKeyFields t a.key a.comment) (sym skips) alone.fields)
      | inr after ↦ h other a (subst (λ (t : List ℕ). IsAfterOptions t a) (sym skips) after)
    ]

    pub after_fault : (r : Result OpenSshEntry Error) → RefusesFor HasTextFault text r → RefusesFor HasLineFault line r
    after_fault (Ok x) h = tt
    after_fault (Err e) h = λ other. record {
      comment = λ here. absurd (not_comment here);
      text = λ _. subst (λ (t : List ℕ). HasTextFault t e) skips (h other);
    }
