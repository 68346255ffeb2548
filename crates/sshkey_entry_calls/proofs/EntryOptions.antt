-- What is answered of the option at a place.
use Rattle.std.proofs.Common.{◌≡◌, ◌<◌, ◌-◌, ℕ, List, [], length, Some, Result, Ok, Err, take, drop, refl, sym, ap, subst, ◌∙◌, arith, length-drop}
use Rattle.std.specs.Str.{IsUtf8}
use Rattle.std.proofs.lemmas.Str.{IsUtf8-nil}
use Rattle.std.specs.Result.{result_ok}
use Rattle.sshkey_base.specs.declared.error.Error.{Error}
use Rattle.sshkey_authorized_keys.specs.Options.{YieldsOption}
use Rattle.sshkey_authorized_keys.specs.declared.openssh_option.OpenSshOption.{OpenSshOption}
use Rattle.sshkey_authorized_keys.proofs.OptionCuts.{shorter}
use Rattle.sshkey_entries.specs.OptionItems.{IsNoOption, IsOptionAt, KeyOption, without_commas}
use Rattle.sshkey_calls.specs.Rooms.{IsAtFront}
use Rattle.sshkey_calls.proofs.Rooms.{give_one, none_given}
use Rattle.sshkey_entry_calls.specs.Options.{ArePlaced, EndsAt, FindsFirst, FindsKeyOption, GivesOption, IsNoText, TellsOption, option_bytes}
use Rattle.sshkey_entry_calls.specs.declared.options.OptionParts.{OptionParts}
use Rattle.sshkey_entry_calls.proofs.OptionPlaces.{after_place, found, one_end, only}

-- ---- of a text

pub first_of : (text : List ℕ) (r : Result OpenSshOption Error) (left : List ℕ) → YieldsOption text (Some r) left → FindsFirst text (result_ok r)
first_of text (Ok o) left yields = (left, yields)
first_of text (Err e) left yields = yields.2

pub told : (text : List ℕ) (place : ℕ) (o : KeyOption) (rest : List ℕ) (n : ℕ) (was answer : OptionParts) (before after : List ℕ) → IsOptionAt (without_commas text) o rest → GivesOption (λ x. x ≡ o) place n was answer before after → TellsOption text place n was answer before after
told text place o rest n was answer before after is gives = record {
  gives = give_one o n was answer before after (rest, is) gives;
  memory = λ _. (o, (rest, is));
  others = λ not_zero not_one not_two. absurd (gives.none not_zero not_one not_two o refl);
}

pub told_none : (text : List ℕ) (place : ℕ) (was : OptionParts) (before : List ℕ) → IsNoOption (without_commas text) → TellsOption text place 15 was was before before
told_none text place was before none = record {
  gives = none_given 15 was was before before (refl, refl) (λ e. cc e) (λ e. cc e) (λ _ o is. none o is.0 is.1);
  memory = λ one. absurd (cc one);
  others = λ _ _ _. refl;
}

-- ---- where the option at the front ends

is_text : (left : List ℕ) (a : ℕ) → EndsAt left a → IsUtf8 (take a left) → IsNoText left → ⊥
is_text left a ends utf8 other = other.2 (subst (λ (k : ℕ). IsUtf8 (take k left)) (one_end left a other.0 ends other.1) utf8)

no_bytes : (left : List ℕ) → left ≡ [] → IsNoText left → ⊥
no_bytes left none other = let nothing : 0 ≡ other.0 = omega (arith, ap length none, other.1.within) in other.2 (subst (λ (k : ℕ). IsUtf8 (take k left)) nothing IsUtf8-nil)

-- ---- of the options from a place on

module _ (options : List ℕ) (place : ℕ) where
  pub ends_here : (was : OptionParts) (before : List ℕ) → without_commas (drop place options) ≡ [] → FindsKeyOption options place 3 was was before before
  ends_here was before nothing = record {
    found = λ z. absurd (cc z);
    later = λ z. absurd (cc z);
    short = λ z. absurd (cc z);
    memory = λ z. absurd (cc z);
    last = (λ _. nothing, λ _. refl);
    text = (λ z. absurd (cc z), λ other. absurd (no_bytes (without_commas (drop place options)) nothing other));
    none = λ z. absurd (cc z);
    others = λ _ _ _ not_three _. absurd (not_three refl);
    stays = λ _ _. (refl, refl);
  }

  module _ (left : List ℕ) (skips : left ≡ without_commas (drop place options)) (some : 0 < length left) (end_ : ℕ) (ends : EndsAt left end_) where
    something : without_commas (drop place options) ≡ [] → ⊥
    something nothing = omega (arith, some, ap length (skips ∙ nothing))

    pub no_text : (was : OptionParts) (before : List ℕ) → (IsUtf8 (take end_ left) → ⊥) → FindsKeyOption options place 4 was was before before
    no_text was before other = record {
      found = λ z. absurd (cc z);
      later = λ z. absurd (cc z);
      short = λ z. absurd (cc z);
      memory = λ z. absurd (cc z);
      last = (λ z. absurd (cc z), λ nothing. absurd (something nothing));
      text = (λ _. subst IsNoText skips (end_, ends, other), λ _. refl);
      none = λ z. absurd (cc z);
      others = λ _ _ _ _ not_four. absurd (not_four refl);
      stays = λ _ _. (refl, refl);
    }

    first : (o : KeyOption) (rest : List ℕ) → IsOptionAt (without_commas (take end_ left)) o rest → IsOptionAt (without_commas (drop place options)) o (drop end_ left)
    first o rest is = found (drop place options) left skips end_ ends o rest is

    abbrev next : ℕ
    next = length options - (length left - end_)

    pub finds : IsUtf8 (take end_ left) → (n : ℕ) (was answer : OptionParts) (before after : List ℕ) → TellsOption (take end_ left) next n was answer before after → FindsKeyOption options place n was answer before after
    finds utf8 n was answer before after tells = record {
      found = λ z.
          let g = tells.gives.given z in
          let there : drop end_ left ≡ drop answer.next options = sym (after_place options left place end_ skips ends.within) ∙ ap (λ (k : ℕ). drop k options) (sym g.2.placed.next) in
          (g.0, subst (IsOptionAt (without_commas (drop place options)) g.0) there (first g.0 g.1.0 g.1.1), subst (λ (k : ℕ). IsAtFront (option_bytes g.0) (ArePlaced k g.0 answer) before after) (sym g.2.placed.next) g.2);
      later = λ z.
          let g = tells.gives.given z in
          let less = shorter (drop place options) (without_commas (drop place options)) (drop end_ left) g.0 refl (first g.0 g.1.0 g.1.1) in
          let after = ap length (after_place options left place end_ skips ends.within) in
          (omega (arith, less, after, length-drop next options, length-drop place options, g.2.placed.next), omega (arith, g.2.placed.next));
      short = λ two. let g = tells.gives.short two in (g.0, (drop end_ left, first g.0 g.1.0 g.1.1), g.2);
      memory = λ one. let m = tells.memory one in (m.0, (drop end_ left, first m.0 m.1.0 m.1.1));
      last = (λ three. absurd (no_other 3 three (omega arith, omega arith)), λ nothing. absurd (something nothing));
      text = (λ four. absurd (no_other 4 four (omega arith, omega arith)), λ other. absurd (is_text left end_ ends utf8 (subst IsNoText (sym skips) other)));
      none = λ fifteen o rest is. tells.gives.none (λ z. omega (arith, fifteen, z)) (λ z. omega (arith, fifteen, z)) (λ z. omega (arith, fifteen, z)) o ([], only (drop place options) left skips end_ ends o rest is);
      others = λ not_zero not_one not_two _ _. tells.others not_zero not_one not_two;
      stays = tells.gives.stays;
    }
      where
        no_other : (k : ℕ) → n ≡ k → (2 < k) × (k < 15) → ⊥
        no_other k is between = omega (arith, is, between.0, between.1, tells.others (λ z. omega (arith, is, between.0, z)) (λ z. omega (arith, is, between.0, z)) (λ z. omega (arith, is, between.0, z)))
