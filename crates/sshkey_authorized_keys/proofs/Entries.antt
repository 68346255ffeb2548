-- When a line is an entry of authorized_keys.
use Rattle.std.proofs.Common.{◌≡◌, ◌≢◌, ◌⊎◌, ◌<◌, ◌≤◌, ℕ, List, count_by, None, Some, Result, Ok, Err, Bor, refl, sym, ap, subst, ◌∙◌, arith, inl, inr, [], ◌∷◌, Bool}
use Rattle.std.proofs.lemmas.Str.Pattern.{IsSplitOnceResult, split_after, split_parts}
use Rattle.sshkey_base.specs.Causes.{cause, NoMemory}
use Rattle.sshkey_base.specs.declared.error.Error.{Error}
use Rattle.sshkey_model.specs.Lines.{space, IsKeyLine, IsNoKeyLine}
use Rattle.sshkey_entries.specs.Answers.{AsksEntry, ReadsEntry}
use Rattle.sshkey_authorized_keys.specs.AuthorizedEntries.{authorized_key_of, HasFault, HasFaultOfKey, NeedsLine, NeedsOptions, TellsNot, TellsWhether}
use Rattle.sshkey_entries.specs.AuthorizedKeys.{AuthorizedKey, IsAuthorizedKey, HasOptions, is_space, before_line, AreOptionCharacters}
use Rattle.sshkey_entries.proofs.OneEntry.{no_space, one_entry}
use Rattle.sshkey_authorized_keys.specs.Options.{IsNotAllowed}
use Rattle.sshkey_base.specs.declared.error.Error.TheVariants.{FormatEncoding, Memory}
use Rattle.sshkey_authorized_keys.specs.declared.entry.Entry.{Entry}
use Rattle.sshkey_model.proofs.LineTests.{lacks}
use Rattle.sshkey_public.specs.WrittenLines.{IsOneLine, line_feed, carriage_return}
use Rattle.sshkey_public.proofs.WrittenLines.{one_line_front, one_line_rest, one_line_both}
use Rattle.std.specs.Prelude.{IsTrue}
use Rattle.sshkey_model.specs.Keys.{IsKey}
use Rattle.sshkey_entries.specs.Entries.{IsNoEntry}
use Rattle.sshkey_entries.specs.OpenSshLines.{IsAuthorizedLine}
use Rattle.sshkey_entries.proofs.OneOpenSshLine.{one_authorized_line}

pub uncut : (line : List ℕ) → IsSplitOnceResult space line None → (a : AuthorizedKey) → HasOptions line a → ⊥
uncut line none a h = split_after space line a.options h.rest None none (omega arith) h.is (no_space a.options h.options)

module _ (line : List ℕ) (options rest : Bor (List ℕ)) (cut : IsSplitOnceResult space line (Some (options, rest))) where
  same_parts : (a : AuthorizedKey) (h : HasOptions line a) → (options.now ≡ a.options) × (rest.now ≡ h.rest)
  same_parts a h = split_after space line a.options h.rest (Some (options, rest)) cut (omega arith) h.is (no_space a.options h.options)

  pub bad_options : (e : Error) → (AreOptionCharacters options.now × (e ≡ Memory)) ⊎ IsNotAllowed options.now e → cause e ≢ NoMemory → (a : AuthorizedKey) → HasOptions line a → ⊥
  bad_options e why other a h = elim why [
    | inl full ↦ other (ap cause full.1)
    | inr not_allowed ↦ not_allowed.1 (subst AreOptionCharacters (sym (same_parts a h).0) h.options)
  ]

  pub bad_key : (e : Error) → (cause e ≢ NoMemory → IsNoKeyLine rest.now) → cause e ≢ NoMemory → (a : AuthorizedKey) → HasOptions line a → ⊥
  bad_key e none other a h = none other a.key a.comment (subst (λ (r : List ℕ). IsKeyLine r a.key a.comment) (sym (same_parts a h).1) h.line)

-- a line with fewer spaces is a key's line or nothing
pub few_spaces : (line : List ℕ) → IsNoKeyLine line → count_by is_space line < 3 → (a : AuthorizedKey) → IsAuthorizedKey line a → ⊥
few_spaces line none few a (inl alone) = none a.key a.comment alone.line
few_spaces line none few a (inr h) = omega (arith, h.spaces)

-- and one that is no key's line has options
pub only_options : (line : List ℕ) (r : Result Entry Error) → IsNoKeyLine line → ReadsEntry authorized_key_of HasOptions line r → ReadsEntry authorized_key_of IsAuthorizedKey line r
only_options line (Ok e) none h = inr h
only_options line (Err e) none h = λ other a is. elim is [
  | inl alone ↦ none a.key a.comment alone.line
  | inr options ↦ h other a options
]

-- ---- faults

-- a line of three spaces or more without options in front
pub uncut_fault : (line : List ℕ) → IsSplitOnceResult space line None → 3 ≤ count_by is_space line → HasFault line FormatEncoding
uncut_fault line none some = record {
  no_space = λ zero. refl;
  no_key = λ one few. absurd (omega (arith, some, few));
  no_options = λ front rest is without many bad. absurd (split_after space line front rest None none (omega arith) is without);
  no_key_after = λ front rest is without many are. absurd (split_after space line front rest None none (omega arith) is without);
}

module _ (line : List ℕ) (options rest : Bor (List ℕ)) (cut : IsSplitOnceResult space line (Some (options, rest))) (some : 3 ≤ count_by is_space line) where
  pub options_fault : (e : Error) → (AreOptionCharacters options.now × (e ≡ Memory)) ⊎ IsNotAllowed options.now e → cause e ≢ NoMemory → HasFault line e
  options_fault e why other = record {
    no_space = λ zero. absurd (omega (arith, some, zero));
    no_key = λ one few. absurd (omega (arith, some, few));
    no_options = λ front rest is without many bad. elim why [
      | inl full ↦ absurd (other (ap cause full.1))
      | inr not_allowed ↦ not_allowed.0
    ];
    no_key_after = λ front after is without many are. elim why [
      | inl full ↦ absurd (other (ap cause full.1))
      | inr not_allowed ↦ absurd (not_allowed.1 (subst AreOptionCharacters (sym (split_after space line front after (Some (options, rest)) cut (omega arith) is without).0) are))
    ];
  }

  -- options that are allowed, and the fault of the key's line
  pub key_fault : (e : Error) → AreOptionCharacters options.now → HasFaultOfKey rest.now e → HasFault line e
  key_fault e are fault = record {
    no_space = λ zero. absurd (omega (arith, some, zero));
    no_key = λ one few. absurd (omega (arith, some, few));
    no_options = λ front after is without many bad. absurd (bad (subst AreOptionCharacters (split_after space line front after (Some (options, rest)) cut (omega arith) is without).0 are));
    no_key_after = λ front after is without many allowed. subst (λ (t : List ℕ). HasFaultOfKey t e) (split_after space line front after (Some (options, rest)) cut (omega arith) is without).1 fault;
  }

pub no_space_fault : (line : List ℕ) → count_by is_space line ≡ 0 → HasFault line FormatEncoding
no_space_fault line zero = record {
  no_space = λ _. refl;
  no_key = λ one few. absurd (omega (arith, zero, one));
  no_options = λ front rest is without many bad. absurd (omega (arith, zero, many));
  no_key_after = λ front rest is without many are. absurd (omega (arith, zero, many));
}

-- one or two spaces: the fault of the key's line
pub line_fault : (line : List ℕ) (e : Error) → count_by is_space line ≢ 0 → count_by is_space line < 3 → HasFaultOfKey line e → HasFault line e
line_fault line e some few fault = record {
  no_space = λ zero. absurd (some zero);
  no_key = λ _ _. fault;
  no_options = λ front rest is without many bad. absurd (omega (arith, few, many));
  no_key_after = λ front rest is without many are. absurd (omega (arith, few, many));
}

-- ---- memory

module _ (line : List ℕ) (options rest : Bor (List ℕ)) (cut : IsSplitOnceResult space line (Some (options, rest))) (some : 3 ≤ count_by is_space line) where
  -- options that are allowed
  pub options_needed : AreOptionCharacters options.now → NeedsOptions line
  options_needed are = let parts = split_parts space line (Some (options, rest)) cut (omega arith) in
      record { options = options.now; rest = rest.now; is = parts.0; one_word = parts.1; are = are; spaces = some }

  pub options_asked : (e : Error) → (AreOptionCharacters options.now × (e ≡ Memory)) ⊎ IsNotAllowed options.now e → cause e ≡ NoMemory → NeedsOptions line
  options_asked e (inl full) memory = options_needed full.0
  options_asked e (inr not_allowed) memory = cc (sym (ap cause not_allowed.0) ∙ memory)

pub line_asks : (line : List ℕ) (r : Result Entry Error) → AsksEntry NeedsOptions line r → AsksEntry NeedsLine line r
line_asks line (Ok e) asks = tt
line_asks line (Err e) asks = λ memory. inr (asks memory)

-- When an entry is written as one line.

space_alone : IsOneLine (space ∷ [])
space_alone = (lacks line_feed (space ∷ []) refl, lacks carriage_return (space ∷ []) refl)

pub written_so : (options line : List ℕ) → IsOneLine options → IsOneLine line → IsOneLine (before_line options line)
written_so [] line o l = l
written_so (c ∷ options) line o l = one_line_both (c ∷ options) (space ∷ line) o (one_line_both (space ∷ []) line space_alone l)

pub so_written : (options line : List ℕ) → IsOneLine (before_line options line) → IsOneLine options × IsOneLine line
so_written [] line h = ((λ i l. absurd (omega arith), λ i l. absurd (omega arith)), h)
so_written (c ∷ options) line h = (one_line_front (c ∷ options) (space ∷ line) h, one_line_rest (space ∷ []) line (one_line_rest (c ∷ options) (space ∷ line) h))

-- When an entry is read back from its line.

-- ---- the key of an entry that was read is well-formed

pub plain_form : (line : List ℕ) (a : AuthorizedKey) → IsAuthorizedKey line a → IsKey a.key
plain_form line a s = elim s [ inl alone ↦ alone.line.spelled.is | inr after ↦ after.line.spelled.is ]

pub openssh_form : (line : List ℕ) (a : AuthorizedKey) → IsAuthorizedLine line a → IsKey a.key
openssh_form line a s = elim s.is [ inl alone ↦ alone.fields.spelled.is | inr after ↦ after.fields.spelled.is ]

-- ---- what comparing tells

module _ (line : List ℕ) (r a : AuthorizedKey) (b : Bool) (same : IsTrue b → r ≡ a) (every : IsKey a.key → r ≡ a → IsTrue b) where
  pub tells_plainly : IsAuthorizedKey line r → TellsWhether (IsAuthorizedKey line a) (Ok b)
  tells_plainly is = (λ t. subst (IsAuthorizedKey line) (same t) is, λ s. every (plain_form line a s) (one_entry line r a is s))

  pub tells_openssh : IsAuthorizedLine line r → TellsWhether (IsAuthorizedLine line a) (Ok b)
  tells_openssh is = (λ t. subst (IsAuthorizedLine line) (same t) is, λ s. every (openssh_form line a s) (one_authorized_line line r a is s))

pub tells_none : (IsEntry : List ℕ → AuthorizedKey → Type 0) (line : List ℕ) (a : AuthorizedKey) (e : Error) (result : Result Bool Error) → (cause e ≢ NoMemory → IsNoEntry IsEntry line) → TellsNot (cause e ≡ NoMemory) result → TellsWhether (IsEntry line a) result
tells_none IsEntry line a e (Ok b) none h = (λ t. cc (sym t ∙ h.0), λ is. absurd (none h.1 a is))
tells_none IsEntry line a e (Err f) none h = h
