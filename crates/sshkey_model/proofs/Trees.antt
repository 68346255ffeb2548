-- The tree of parts that a term's spellings are, over the value and the choices that a spelling
-- leaves open; and what follows of a term that reads exactly these.
use Rattle.std.proofs.Common.{◌≡◌, ℕ, Bool, true, cond, List, [], ◌++◌, append-nil, append_assoc, length, Result, Ok, Err, refl, sym, ap, subst, ◌∙◌}
use Rattle.std.specs.Prelude.{◌↔◌}
use Rattle.std.specs.Int.{w32, to_be_bytes}
use Rattle.sshkey_model.specs.Parts.{Parts, box, ◌&◌, flat, Fits, InRange, BoxesFit, IsPrefixFree}
use Rattle.sshkey_model.specs.Reading.{Fault, Front}
use Rattle.sshkey_model.specs.Grammar.{IsGrammar, Spells, normal_is_spelling, SpellsWith, IsSpelled, spelled, MayFollow, SpellsThen, SpellsTested, SpellsBoxed}
use Rattle.sshkey_model.specs.Laws.{DetermineValues, ReadBack}
use Rattle.sshkey_model.proofs.LawfulReaders.{ReadsFront, ok_is, met, fits_both, fits_first, fits_second, fits_box, fits_inside, fits_length}
use Rattle.sshkey_model.proofs.Grammars.{one_front, SpellsBoth}

pub record IsTree {A S : Type 0} (Spelling : A → List ℕ → Type 0) (Is : A × S → Type 0) (tree : A × S → Parts) : Type 0 where
  -- a spelling is the tree of some choices
  pub takes : (a : A) (b : List ℕ) → Spelling a b → (s : S) × Is (a, s) × Fits (tree (a, s)) × (b ≡ flat (tree (a, s)))
  -- and each of these trees is a spelling
  pub again : (x : A × S) → Is x → Fits (tree x) → Spelling x.0 (flat (tree x))

-- The same bytes, in other groups.
pub record Alike (p q : Parts) : Type 0 where
  pub bytes : flat p ≡ flat q
  pub there : Fits p → Fits q
  pub back : Fits q → Fits p

pub alike : (p q : Parts) → p ≡ q → Alike p q
alike p q e = subst (λ (r : Parts). Alike p r) e (record { bytes = refl; there = λ f. f; back = λ f. f })

pub grouped : (p q r : Parts) → Alike ((p & q) & r) (p & q & r)
unfolding flat InRange BoxesFit
grouped p q r = record {
  bytes = append_assoc (flat p) (flat q) (flat r);
  there = λ f. record { range = (f.range.0.0, (f.range.0.1, f.range.1)); boxes = (f.boxes.0.0, (f.boxes.0.1, f.boxes.1)) };
  back = λ f. record { range = ((f.range.0, f.range.1.0), f.range.1.1); boxes = ((f.boxes.0, f.boxes.1.0), f.boxes.1.1) };
}

pub regrouped : (p q r s : Parts) → Alike ((p & q & r) & s) (p & q & r & s)
unfolding flat InRange BoxesFit
regrouped p q r s = record {
  bytes = append_assoc (flat p) (flat q ++ flat r) (flat s) ∙ ap (λ (l : List ℕ). flat p ++ l) (append_assoc (flat q) (flat r) (flat s));
  there = λ f. record { range = (f.range.0.0, (f.range.0.1.0, (f.range.0.1.1, f.range.1))); boxes = (f.boxes.0.0, (f.boxes.0.1.0, (f.boxes.0.1.1, f.boxes.1))) };
  back = λ f. record { range = ((f.range.0, (f.range.1.0, f.range.1.1.0)), f.range.1.1.1); boxes = ((f.boxes.0, (f.boxes.1.0, f.boxes.1.1.0)), f.boxes.1.1.1) };
}

-- ---- of leaves

pub leaf_tree : {A : Type 0} {Is : A → Type 0} {spell : A → Parts} → IsTree {A = A} {S = Unit {0}} (Spells Is spell) (λ x. Is x.0) (λ x. spell x.0)
leaf_tree = record { takes = λ a b s. (tt, s.is, s.fits, s.shape); again = λ x. normal_is_spelling x.0 }

pub open_tree : {A S : Type 0} {Is : A → Type 0} {HasPlace : A → S → Type 0} {spell : A → S → Parts} → IsTree (SpellsWith Is HasPlace spell) (IsSpelled Is HasPlace) (spelled spell)
open_tree = record {
  takes = λ a b s. (s.choices, record { is = s.is; place = s.place }, s.fits, s.shape);
  again = λ x is fits. record { is = is.is; choices = x.1; place = is.place; fits = fits; shape = refl };
}

-- ---- of terms

-- the first always ends by itself
module _ {A B S T : Type 0} {First : A → List ℕ → Type 0} {delimited_at : Front A} {Second : A → B → List ℕ → Type 0} {Is : A × S → Type 0} {IsNext : A → B × T → Type 0} {tree : A × S → Parts} {next : A → B × T → Parts} (ends : (a : A) (front rest : List ℕ) → First a front → MayFollow delimited_at a front rest) (first : IsTree First Is tree) (second : (a : A) → IsTree (Second a) (IsNext a) (next a)) where
  pub dependent_tree : IsTree (SpellsThen First delimited_at Second) (λ (x : (A × B) × (S × T)). Is (x.0.0, x.1.0) × IsNext x.0.0 (x.0.1, x.1.1)) (λ (x : (A × B) × (S × T)). tree (x.0.0, x.1.0) & next x.0.0 (x.0.1, x.1.1))
  unfolding flat
  dependent_tree = record {
    takes = λ p b s.
        let x = first.takes p.0 s.front s.first in
        let y = (second p.0).takes p.1 s.after s.second in
        ((x.0, y.0), (x.1, y.1), fits_both (tree (p.0, x.0)) (next p.0 (p.1, y.0)) x.2 y.2, s.all ∙ ap (λ (l : List ℕ). l ++ s.after) x.3 ∙ ap (λ (l : List ℕ). flat (tree (p.0, x.0)) ++ l) y.3);
    again = λ x is fits.
        let a = first.again (x.0.0, x.1.0) is.0 (fits_first (tree (x.0.0, x.1.0)) (next x.0.0 (x.0.1, x.1.1)) fits) in
        let c = (second x.0.0).again (x.0.1, x.1.1) is.1 (fits_second (tree (x.0.0, x.1.0)) (next x.0.0 (x.0.1, x.1.1)) fits) in
        record { front = flat (tree (x.0.0, x.1.0)); after = flat (next x.0.0 (x.0.1, x.1.1)); first = a; second = c; all = refl; may_follow = ends x.0.0 (flat (tree (x.0.0, x.1.0))) (flat (next x.0.0 (x.0.1, x.1.1))) a };
  }

module _ {A B S T : Type 0} {First : A → List ℕ → Type 0} {delimited_at : Front A} {Second : B → List ℕ → Type 0} {Is : A × S → Type 0} {IsNext : B × T → Type 0} {tree : A × S → Parts} {next : B × T → Parts} (ends : (a : A) (front rest : List ℕ) → First a front → MayFollow delimited_at a front rest) (first : IsTree First Is tree) (second : IsTree Second IsNext next) where
  pub then_tree : IsTree (SpellsBoth First delimited_at Second) (λ (x : (A × B) × (S × T)). Is (x.0.0, x.1.0) × IsNext (x.0.1, x.1.1)) (λ (x : (A × B) × (S × T)). tree (x.0.0, x.1.0) & next (x.0.1, x.1.1))
  then_tree = dependent_tree ends first (λ _. second)

module _ {A S : Type 0} {Spelling : A → List ℕ → Type 0} {Is : A × S → Type 0} {tree : A × S → Parts} (t : IsTree Spelling Is tree) where
  pub box_tree : IsTree (SpellsBoxed Spelling) Is (λ x. box (tree x))
  unfolding flat
  box_tree = record {
    takes = λ a b s.
        let x = t.takes a s.inside s.spelled in
        (x.0, x.1, fits_box (tree (a, x.0)) (rw (← x.3) s.short) x.2, s.whole ∙ ap (λ (l : List ℕ). to_be_bytes w32 (length l) ++ l) x.3);
    again = λ x is fits. record { inside = flat (tree x); spelled = t.again x is (fits_inside (tree x) fits); short = fits_length (tree x) fits; whole = refl };
  }

  -- values that a test makes of these
  pub tested_tree : {B U : Type 0} {IsMade : B × U → Type 0} {made : B × U → Parts} (test : A → Result B Fault) → ((x : A × S) (y : B) → Is x → test x.0 ≡ Ok y → (u : U) × IsMade (y, u) × Alike (tree x) (made (y, u))) → ((y : B × U) → IsMade y → (x : A × S) × Is x × (test x.0 ≡ Ok y.0) × Alike (tree x) (made y)) → IsTree (SpellsTested Spelling test) IsMade made
  tested_tree test there back = record {
    takes = λ c b s.
        let x = t.takes s.inner b s.spelled in
        let y = there (s.inner, x.0) c x.1 s.makes in
        (y.0, y.1, y.2.there x.2, x.3 ∙ y.2.bytes);
    again = λ y is fits.
        let x = back y is in
        record { inner = x.0.0; spelled = subst (Spelling x.0.0) x.3.bytes (t.again x.0 x.1 (x.3.back fits)); makes = x.2 };
  }

  -- values that a test keeps
  pub kept_tree : (test : A → Bool) (fault : A → Fault) → IsTree (SpellsTested Spelling (λ a. cond (test a) (Ok a) (Err (fault a)))) (λ x. Is x × (test x.0 ≡ true)) tree
  kept_tree test fault = tested_tree (λ a. cond (test a) (Ok a) (Err (fault a)))
      (λ x y is e. let h = met (test x.0) (fault x.0) (Ok x.0) y e in subst (λ (z : A). (u : S) × (Is (z, u) × (test z ≡ true)) × Alike (tree x) (tree (z, u))) (ok_is x.0 y h.1) (x.1, (is, h.0), alike _ _ refl))
      (λ y is. (y, is.0, rw is.1 refl, alike _ _ refl))

  -- values that are made of these
  pub made_tree : {B U : Type 0} {IsMade : B × U → Type 0} {made : B × U → Parts} (to : A → B) → ((x : A × S) → Is x → (u : U) × IsMade (to x.0, u) × Alike (tree x) (made (to x.0, u))) → ((y : B × U) → IsMade y → (x : A × S) × Is x × (to x.0 ≡ y.0) × Alike (tree x) (made y)) → IsTree (SpellsTested Spelling (λ a. Ok (to a))) IsMade made
  made_tree {B} {U} {IsMade} {made} to there back = tested_tree (λ a. Ok (to a))
      (λ x y is e. subst (λ (z : B). (u : U) × IsMade (z, u) × Alike (tree x) (made (z, u))) (ok_is (to x.0) y e) (there x is))
      (λ y is. let x = back y is in (x.0, x.1, ap (λ (z : B). Ok z) x.2, x.3))

-- ---- where choices are left open

module _ {V S : Type 0} {Spelling : V → List ℕ → Type 0} {Is : V → Type 0} {HasPlace : V → S → Type 0} {spell : V → S → Parts} (t : IsTree Spelling (IsSpelled Is HasPlace) (spelled spell)) where
  -- The term spells what the tree spells.
  pub spelled_alike : (v : V) (b : List ℕ) → Spelling v b ↔ SpellsWith Is HasPlace spell v b
  spelled_alike v b = (
    λ s. let x = t.takes v b s in record { is = x.1.is; choices = x.0; place = x.1.place; fits = x.2; shape = x.3 },
    λ s. rw s.shape (t.again (v, s.choices) (record { is = s.is; place = s.place }) s.fits),
  )

  -- No spelling begins another, if one value and two choices spell two strings.
  pub prefix_free : {read : Front V} → IsGrammar Spelling read → ((v : V) (s u : S) → IsSpelled Is HasPlace (v, s) → Fits (spell v s) → IsSpelled Is HasPlace (v, u) → Fits (spell v u) → flat (spell v s) ≡ flat (spell v u) → s ≡ u) → IsPrefixFree (IsSpelled Is HasPlace) (spelled spell)
  unfolding IsPrefixFree
  prefix_free g one (v, s) (w, u) r q v-is v-fits w-is w-fits e =
      let x = one_front g v w (flat (spell v s)) (flat (spell w u)) r q (t.again (v, s) v-is v-fits) (t.again (w, u) w-is w-fits) e in
      (same_choices v w s u x.0 v-is v-fits w-is w-fits x.1, x.2)
    where
      same_choices : (v w : V) (s u : S) → v ≡ w → IsSpelled Is HasPlace (v, s) → Fits (spell v s) → IsSpelled Is HasPlace (w, u) → Fits (spell w u) → flat (spell v s) ≡ flat (spell w u) → ◌≡◌ {A = V × S} (v, s) (w, u)
      same_choices v w s u same v-is v-fits w-is w-fits e =
          subst (λ (z : V). IsSpelled Is HasPlace (z, u) → Fits (spell z u) → flat (spell v s) ≡ flat (spell z u) → ◌≡◌ {A = V × S} (v, s) (z, u)) same (λ is fits e. ap (λ (c : S). (v, c)) (one v s u v-is v-fits is fits e)) w-is w-fits e

-- ---- where nothing is left open

module _ {V : Type 0} {Spelling : V → List ℕ → Type 0} {Is : V → Type 0} {spell : V → Parts} (t : IsTree Spelling (λ (x : V × Unit {0}). Is x.0) (λ x. spell x.0)) where
  -- The term spells what the tree spells.
  pub plain_alike : (v : V) (b : List ℕ) → Spelling v b ↔ Spells Is spell v b
  plain_alike v b = (
    λ s. let x = t.takes v b s in record { is = x.1; fits = x.2; shape = x.3 },
    λ s. rw s.shape (t.again (v, tt) s.is s.fits),
  )

-- The term's reader reads what the tree spells.
pub tree_reads : {V S : Type 0} {Spelling : V → List ℕ → Type 0} {Is : V → Type 0} {spell : V → Parts} {read : Front V} → S → IsTree Spelling (λ (x : V × S). Is x.0) (λ x. spell x.0) → IsGrammar Spelling read → ReadsFront Is spell read
tree_reads {V} {S} {Spelling} {Is} {spell} {read} none t g = record {
  takes = λ b x rest e.
      let y = g.takes b x rest e in
      let z = t.takes x y.0 y.1 in
      (z.1, z.2, y.2 ∙ ap (λ (l : List ℕ). l ++ rest) z.3);
  again = λ x rest is fits. g.again x (flat (spell x)) rest (t.again (x, none) is fits);
}

-- No spelling begins another.
pub plain_prefix : {V : Type 0} {Spelling : V → List ℕ → Type 0} (Is : V → Type 0) (spell : V → Parts) {read : Front V} → IsTree Spelling (λ (x : V × Unit {0}). Is x.0) (λ x. spell x.0) → IsGrammar Spelling read → IsPrefixFree Is spell
unfolding IsPrefixFree
plain_prefix Is spell t g v w r q v-is v-fits w-is w-fits e =
    let x = one_front g v w (flat (spell v)) (flat (spell w)) r q (t.again (v, tt) v-is v-fits) (t.again (w, tt) w-is w-fits) e in
    (x.0, x.2)

-- ---- the normal form

-- The normal form of a value is one of its spellings: so it determines the value, and is read back.
module _ {V : Type 0} {Spelling : V → List ℕ → Type 0} {read : Front V} {Is : V → Type 0} {normal : V → Parts} (g : IsGrammar Spelling read) (spells : (v : V) → Is v → Fits (normal v) → Spelling v (flat (normal v))) where
  pub determined : DetermineValues Is normal
  unfolding DetermineValues
  determined v w v-is w-is v-fits w-fits = (λ e. (one_front g v w (flat (normal v)) (flat (normal w)) [] [] (spells v v-is v-fits) (spells w w-is w-fits) (ap (λ (l : List ℕ). l ++ []) e)).0, ap (λ (x : V). flat (normal x)))

  pub read_back : ReadBack Is normal read
  unfolding ReadBack
  read_back v is fits = ap read (sym (append-nil (flat (normal v)))) ∙ g.again v (flat (normal v)) [] (spells v is fits)
