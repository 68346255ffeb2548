-- A lawful reader takes exactly the spellings, and so do readers that are made of such.
use Rattle.std.proofs.Common.{◌≡◌, ◌≤◌, ℕ, List, [], ◌∷◌, ◌++◌, length, take, drop, append-nil, append_assoc, Result, Ok, Err, refl, sym, ap, subst, ◌∙◌, arith, inl, inr}
use Rattle.std.specs.Prelude.{◌↔◌, ◌<◌, ◌^◌}
use Rattle.std.specs.Int.{w32, to_be_bytes}
use Rattle.std.proofs.lemmas.Bool.{cases_lt, lt-ltb, le-ltb}
use Rattle.std.proofs.lemmas.List.{append_cancel_right, length-append, length-take-le, take_at, drop_at, take-append-drop}
use Rattle.sshkey_model.specs.Parts.{Parts, InRange, flat}
use Rattle.sshkey_model.specs.Reading.{Fault, ◌>>=◌, Front, Whole, end_of, whole, number_at, box_at, after_at, checked_at, never_at}
use Rattle.sshkey_model.specs.Grammar.{Spells, SpellsWith, IsSpelled, spelled, value_at, IsGrammar, Grammar, MayFollow, SpellsThen, SpellsTested, SpellsBoxed}
use Rattle.sshkey_model.proofs.LawfulReaders.{ReadsFront, bind_ok, ok_is, done, number_reads, wide32, fits_number}

-- all values end by themselves
abbrev pub AllEnd : {A : Type 0} → Front A → Front A → Type 0
AllEnd read delimited_at = (b : List ℕ) → delimited_at b ≡ read b

-- The second is spelled alike whatever the first is.
abbrev pub SpellsBoth : {A B : Type 0} → (A → List ℕ → Type 0) → Front A → (B → List ℕ → Type 0) → A × B → List ℕ → Type 0
SpellsBoth First delimited_at Second = SpellsThen First delimited_at (λ _. Second)

-- The second is read alike whatever the first is.
abbrev pub both_at : {A B : Type 0} → Front A → Front B → Front (A × B)
both_at read next = after_at read (λ _. next)

pub grammar : {V : Type 0} {Is : V → Type 0} {spell : V → Parts} {read : Front V} → ReadsFront Is spell read → IsGrammar (Spells Is spell) read
grammar {V} {Is} {spell} {read} reads = record {
  takes = λ b x rest e.
      let t = reads.takes b x rest e in
      (flat (spell x), record { is = t.0; fits = t.1; shape = refl }, t.2);
  again = λ x front rest s. rw s.shape (reads.again x rest s.is s.fits);
}

pub grammar_with : {V S : Type 0} {Is : V → Type 0} {HasPlace : V → S → Type 0} {spell : V → S → Parts} {read : Front (V × S)} → ReadsFront (IsSpelled Is HasPlace) (spelled spell) read → IsGrammar (SpellsWith Is HasPlace spell) (value_at read)
grammar_with {V} {S} {Is} {HasPlace} {spell} {read} reads = record {
  takes = λ b x rest e.
      let y = bind_ok (read b) (λ x. Ok (x.0.0, x.1)) (x, rest) e in
      let t = reads.takes b y.0.0 y.0.1 y.1 in
      let made : V × List ℕ = (y.0.0.0, y.0.1) in
      subst (λ (p : V × List ℕ). (front : List ℕ) × SpellsWith Is HasPlace spell p.0 front × (b ≡ front ++ p.1)) (ok_is made (x, rest) y.2)
      (flat (spell y.0.0.0 y.0.0.1), record { is = t.0.is; choices = y.0.0.1; place = t.0.place; fits = t.1; shape = refl }, t.2);
  again = λ x front rest s. rw s.shape (rw (reads.again (x, s.choices) rest (record { is = s.is; place = s.place }) s.fits) refl);
}

-- readers that give the same have one grammar
pub same_grammar : {V : Type 0} {Spelling : V → List ℕ → Type 0} {read other : Front V} → IsGrammar Spelling read → ((b : List ℕ) → read b ≡ other b) → IsGrammar Spelling other
same_grammar g same = record {
  takes = λ b x rest e. g.takes b x rest (same b ∙ e);
  again = λ x front rest s. sym (same (front ++ rest)) ∙ g.again x front rest s;
}

module _ {V : Type 0} {Spelling : V → List ℕ → Type 0} {read : Front V} (g : IsGrammar Spelling read) where
  -- No spelling is the front of another, or of the same value twice.
  pub one_front : (v w : V) (a b r q : List ℕ) → Spelling v a → Spelling w b → a ++ r ≡ b ++ q → (v ≡ w) × (a ≡ b) × (r ≡ q)
  one_front v w a b r q sv sw e =
      let same : done (v, r) ≡ done (w, q) = sym (g.again v a r sv) ∙ ap read e ∙ g.again w b q sw in
      let both : (v, r) ≡ (w, q) = ok_is (v, r) (w, q) same in
      let rests : r ≡ q = ap (λ (p : V × List ℕ). p.1) both in
      (ap (λ (p : V × List ℕ). p.0) both, append_cancel_right a b q (ap (λ (l : List ℕ). a ++ l) (sym rests) ∙ e), rests)

  -- What is refused has no spelling at its front.
  pub none_spelled : (b : List ℕ) (fault : Fault) → read b ≡ Err fault → (v : V) (front rest : List ℕ) → Spelling v front → b ≡ front ++ rest → ⊥
  none_spelled b fault e v front rest s shape = cc (sym e ∙ ap read shape ∙ g.again v front rest s)

-- ---- values that end by themselves

-- what it takes does not exist
pub none_at : {A Z : Type 0} (b : List ℕ) (x : A × List ℕ) → never_at b ≡ Ok x → Z
none_at b x e = absurd cc

module _ {A : Type 0} {Spells : A → List ℕ → Type 0} {read : Front A} where
  pub read_alone : IsGrammar Spells read → (value : A) (front : List ℕ) → Spells value front → read front ≡ Ok (value, [])
  read_alone g value front s = ap read (sym (append-nil front)) ∙ g.again value front [] s

  pub read_before : IsGrammar Spells read → (b : List ℕ) (value : A) (rest more : List ℕ) → read b ≡ Ok (value, rest) → read (b ++ more) ≡ Ok (value, rest ++ more)
  read_before g b value rest more e =
      let t = g.takes b value rest e in
      rw (t.2, append_assoc t.0 rest more) (g.again value t.0 (rest ++ more) t.1)

  pub read_takes : IsGrammar Spells read → (b : List ℕ) (value : A) (rest : List ℕ) → read b ≡ Ok (value, rest) → (front : List ℕ) × Spells value front × (b ≡ front ++ rest) × MayFollow read value front rest
  read_takes g b value rest e =
      let t = g.takes b value rest e in
      (t.0, t.1, t.2, inr (read_alone g value t.0 t.1))

  -- where they all do
  abbrev pub by_itself : IsGrammar Spells read → Grammar Spells read read
  by_itself g = record { same = λ b x e. e; before = read_before g; takes = read_takes g; alone = read_alone g }

  module _ {delimited_at : Front A} (g : Grammar Spells read delimited_at) where
    -- a spelling is taken before what may follow it
    pub taken_before : (value : A) (front rest : List ℕ) → Spells value front → MayFollow delimited_at value front rest → read (front ++ rest) ≡ Ok (value, rest)
    taken_before value front rest s (inl none) = rw (none, append-nil front) (g.alone value front s)
    taken_before value front rest s (inr ends) = g.same (front ++ rest) (value, rest) (g.before front value [] rest ends)

    -- so any bytes may follow
    pub ends : AllEnd read delimited_at → (value : A) (front rest : List ℕ) → Spells value front → MayFollow delimited_at value front rest
    ends all value front rest s = inr (all front ∙ g.alone value front s)

    pub all_end : AllEnd read delimited_at → IsGrammar Spells read
    all_end all = record {
      takes = λ b value rest e. let t = g.takes b value rest e in (t.0, t.1, t.2);
      again = λ value front rest s. taken_before value front rest s (ends all value front rest s);
    }

  pub end_takes : ((b : List ℕ) (value : A) (rest : List ℕ) → read b ≡ Ok (value, rest) → Spells value b × (rest ≡ [])) → (b : List ℕ) (value : A) (rest : List ℕ) → read b ≡ Ok (value, rest) → (front : List ℕ) × Spells value front × (b ≡ front ++ rest) × MayFollow never_at value front rest
  end_takes takes b value rest e =
      let t = takes b value rest e in
      (b, t.0, rw (t.1, append-nil b) refl, inl t.1)

  -- where none does
  abbrev pub to_the_end : ((b : List ℕ) (value : A) (rest : List ℕ) → read b ≡ Ok (value, rest) → Spells value b × (rest ≡ [])) → ((value : A) (b : List ℕ) → Spells value b → read b ≡ Ok (value, [])) → Grammar Spells read never_at
  to_the_end takes alone = record {
    same = λ b x e. none_at b x e;
    before = λ b value rest more e. none_at b (value, rest) e;
    takes = end_takes takes;
    alone = alone;
  }

-- ---- a front that is all there is

-- nothing follows what ended
ended : {Y : Type 0} (y : Y) (rest : List ℕ) (z : Y) → end_of y rest ≡ Ok z → (rest ≡ []) × (y ≡ z)
ended y [] z e = (refl, ok_is y z e)
ended y (b ∷ rest) z e = absurd cc

-- What a reader takes whole is a spelling, and a spelling is taken whole.
pub whole_spells : {A : Type 0} {Spells : A → List ℕ → Type 0} {read delimited_at : Front A} → Grammar Spells read delimited_at → (b : List ℕ) (y : A) → (whole read b ≡ Ok y) ↔ Spells y b
whole_spells {A} {Spells} {read} {delimited_at} g b y = (taken, λ s. rw (g.alone y b s) refl)
  where
    taken : whole read b ≡ Ok y → Spells y b
    taken e =
        let x = bind_ok (read b) (λ x. end_of x.0 x.1) y e in
        let end = ended x.0.0 x.0.1 y x.2 in
        let a = g.takes b x.0.0 x.0.1 x.1 in
        let all : b ≡ a.0 = a.2 ∙ ap (λ (rest : List ℕ). a.0 ++ rest) end.0 ∙ append-nil a.0 in
        subst (λ (bytes : List ℕ). Spells y bytes) (sym all) (subst (λ (v : A). Spells v a.0) end.1 a.1)

-- ---- a value in a box

module _ {Y : Type 0} {Spells : Y → List ℕ → Type 0} {read : Whole Y} (spells : (b : List ℕ) (y : Y) → (read b ≡ Ok y) ↔ Spells y b) where
  abbrev Taken : List ℕ → Y → List ℕ → Type 0
  Taken b y rest = (front : List ℕ) × SpellsBoxed Spells y front × (b ≡ front ++ rest)

  abbrev before : List ℕ → Y → Result (Y × List ℕ) Fault
  before rest y = Ok (y, rest)

  box_taken : (b : List ℕ) (y : Y) (rest : List ℕ) (n : ℕ × List ℕ) → number_at w32 b ≡ Ok n → n.0 ≤ length n.1 → (read (take n.0 n.1) >>= before (drop n.0 n.1)) ≡ before rest y → Taken b y rest
  unfolding flat InRange
  box_taken b y rest n e le inside =
      let num = (grammar (number_reads w32 wide32)).takes b n.0 n.1 e in
      let x = bind_ok (read (take n.0 n.1)) (before (drop n.0 n.1)) (y, rest) inside in
      let same : ◌≡◌ {A = Y × List ℕ} (x.0, drop n.0 n.1) (y, rest) = ok_is _ _ x.2 in
      let value : x.0 ≡ y = ap (λ (p : Y × List ℕ). p.0) same in
      let after : drop n.0 n.1 ≡ rest = ap (λ (p : Y × List ℕ). p.1) same in
      let len : length (take n.0 n.1) ≡ n.0 = length-take-le n.0 n.1 le in
      let lt : n.0 < 2 ^ 32 = num.1.fits.range in
      let parts : n.1 ≡ take n.0 n.1 ++ rest = sym (take-append-drop n.0 n.1) ∙ ap (λ (l : List ℕ). take n.0 n.1 ++ l) after in (
        to_be_bytes w32 (length (take n.0 n.1)) ++ take n.0 n.1,
        record { inside = take n.0 n.1; spelled = rw (← value) ((spells _ x.0).0 x.1); short = rw len lt; whole = refl },
        num.2 ∙ ap (λ (f : List ℕ). f ++ n.1) num.1.shape ∙ ap (λ (l : List ℕ). to_be_bytes w32 n.0 ++ l) parts ∙ ap (λ (k : ℕ). to_be_bytes w32 k ++ take n.0 n.1 ++ rest) (sym len),
      )

  box_takes : (b : List ℕ) (y : Y) (rest : List ℕ) → box_at read b ≡ Ok (y, rest) → Taken b y rest
  unfolding box_at
  box_takes b y rest e =
      let n = bind_ok (number_at w32 b) _ (y, rest) e in
      elim (cases_lt (length n.0.1) n.0.0) [
        | inl lt ↦ let few = rw (lt-ltb _ _ lt) at n.2 in absurd cc
        | inr ge ↦ box_taken b y rest n.0 n.1 ge (rw (le-ltb _ _ ge) at n.2)
      ]

  box_again : (y : Y) (front rest : List ℕ) → SpellsBoxed Spells y front → box_at read (front ++ rest) ≡ Ok (y, rest)
  unfolding box_at flat
  box_again y front rest s =
      let n = length s.inside in
      let num : number_at w32 (to_be_bytes w32 n ++ s.inside ++ rest) ≡ Ok (n, s.inside ++ rest) = (number_reads w32 wide32).again n (s.inside ++ rest) tt (fits_number w32 n s.short) in
      let long : n ≤ length (s.inside ++ rest) = omega (arith, length-append s.inside rest) in
      let all : front ++ rest ≡ to_be_bytes w32 n ++ s.inside ++ rest = ap (λ (f : List ℕ). f ++ rest) s.whole in
      rw (all, num, le-ltb _ _ long, take_at s.inside rest n refl, drop_at s.inside rest n refl, (spells s.inside y).1 s.spelled) refl

  pub box_grammar : IsGrammar (SpellsBoxed Spells) (box_at read)
  box_grammar = record { takes = box_takes; again = box_again }

-- ---- one after the other

-- of two lists that are empty together, each is
pub none_in : (a b : List ℕ) → a ++ b ≡ [] → (a ≡ []) × (b ≡ [])
none_in [] b e = (refl, e)
none_in (x ∷ a) b e = absurd cc

module _ {A B : Type 0} {S : A → List ℕ → Type 0} {T : A → B → List ℕ → Type 0} {read delimited_at : Front A} {next next_delimited_at : A → Front B} (f : Grammar S read delimited_at) (g : (a : A) → Grammar (T a) (next a) (next_delimited_at a)) where
  abbrev both_delimited_at : Front (A × B)
  both_delimited_at = after_at delimited_at next_delimited_at

  pub both_same : (b : List ℕ) (x : (A × B) × List ℕ) → both_delimited_at b ≡ Ok x → after_at read next b ≡ Ok x
  unfolding after_at
  both_same b x e =
      let y = bind_ok (delimited_at b) _ x e in
      let z = bind_ok (next_delimited_at y.0.0 y.0.1) _ x y.2 in
      rw (f.same b y.0 y.1, (g y.0.0).same y.0.1 z.0 z.1) z.2

  pub both_before : (b : List ℕ) (value : A × B) (rest more : List ℕ) → both_delimited_at b ≡ Ok (value, rest) → both_delimited_at (b ++ more) ≡ Ok (value, rest ++ more)
  unfolding after_at
  both_before b value rest more e =
      let y = bind_ok (delimited_at b) _ (value, rest) e in
      let z = bind_ok (next_delimited_at y.0.0 y.0.1) _ (value, rest) y.2 in
      subst (λ (p : (A × B) × List ℕ). both_delimited_at (b ++ more) ≡ Ok (p.0, p.1 ++ more)) (ok_is ((y.0.0, z.0.0), z.0.1) (value, rest) z.2)
      (rw (f.before b y.0.0 y.0.1 more y.1, (g y.0.0).before y.0.1 z.0.0 z.0.1 more z.1) refl)

  -- what may follow both
  both_ends : (a : A) (c : B) (front after rest : List ℕ) → MayFollow delimited_at a front (after ++ rest) → MayFollow (next_delimited_at a) c after rest → MayFollow both_delimited_at (a, c) (front ++ after) rest
  unfolding after_at
  both_ends a c front after rest (inl none) k = inl (none_in after rest none).1
  both_ends a c front after rest (inr h) (inl none) = inl none
  both_ends a c front after rest (inr h) (inr k) = inr (rw (f.before front a [] after h, k) refl)

  first_ends : (a : A) (front after rest : List ℕ) → MayFollow delimited_at a front (after ++ rest) → MayFollow delimited_at a front after
  first_ends a front after rest (inl none) = inl (none_in after rest none).0
  first_ends a front after rest (inr h) = inr h

  pub both_takes : (b : List ℕ) (value : A × B) (rest : List ℕ) → after_at read next b ≡ Ok (value, rest) → (front : List ℕ) × SpellsThen S delimited_at T value front × (b ≡ front ++ rest) × MayFollow both_delimited_at value front rest
  unfolding after_at
  both_takes b value rest e =
      let x = bind_ok (read b) _ (value, rest) e in
      let y = bind_ok (next x.0.0 x.0.1) _ (value, rest) x.2 in
      let a = f.takes b x.0.0 x.0.1 x.1 in
      let c = (g x.0.0).takes x.0.1 y.0.0 y.0.1 y.1 in
      let ends : MayFollow delimited_at x.0.0 a.0 (c.0 ++ y.0.1) = rw (← c.2) a.3 in
      subst (λ (p : (A × B) × List ℕ). (front : List ℕ) × SpellsThen S delimited_at T p.0 front × (b ≡ front ++ p.1) × MayFollow both_delimited_at p.0 front p.1) (ok_is ((x.0.0, y.0.0), y.0.1) (value, rest) y.2) (
        a.0 ++ c.0,
        record { front = a.0; after = c.0; first = a.1; second = c.1; all = refl; may_follow = first_ends x.0.0 a.0 c.0 y.0.1 ends },
        a.2 ∙ ap (λ (l : List ℕ). a.0 ++ l) c.2 ∙ sym (append_assoc a.0 c.0 y.0.1),
        both_ends x.0.0 y.0.0 a.0 c.0 y.0.1 ends c.3,
      )

  pub both_alone : (value : A × B) (front : List ℕ) → SpellsThen S delimited_at T value front → after_at read next front ≡ Ok (value, [])
  unfolding after_at
  both_alone value front s =
      rw (s.all, taken_before f value.0 s.front s.after s.first s.may_follow, (g value.0).alone value.1 s.after s.second) refl

  abbrev pub then_grammar : Grammar (SpellsThen S delimited_at T) (after_at read next) (after_at delimited_at next_delimited_at)
  then_grammar = record { same = both_same; before = both_before; takes = both_takes; alone = both_alone }

-- ---- a test on what was read

module _ {A B : Type 0} {S : A → List ℕ → Type 0} {read delimited_at : Front A} (test : A → Result B Fault) (f : Grammar S read delimited_at) where
  abbrev tested_delimited_at : Front B
  tested_delimited_at = checked_at test delimited_at

  value_of_test : (b : List ℕ) (a : A) (value : B) (rest : List ℕ) → delimited_at b ≡ Ok (a, rest) → test a ≡ Ok value → tested_delimited_at b ≡ Ok (value, rest)
  value_of_test b a value rest h makes = rw (h, makes) refl

  pub tested_same : (b : List ℕ) (x : B × List ℕ) → tested_delimited_at b ≡ Ok x → checked_at test read b ≡ Ok x
  tested_same b x e =
      let y = bind_ok (delimited_at b) _ x e in
      rw (f.same b y.0 y.1) y.2

  pub tested_before : (b : List ℕ) (value : B) (rest more : List ℕ) → tested_delimited_at b ≡ Ok (value, rest) → tested_delimited_at (b ++ more) ≡ Ok (value, rest ++ more)
  tested_before b value rest more e =
      let x = bind_ok (delimited_at b) _ (value, rest) e in
      let y = bind_ok (test x.0.0) _ (value, rest) x.2 in
      subst (λ (p : B × List ℕ). tested_delimited_at (b ++ more) ≡ Ok (p.0, p.1 ++ more)) (ok_is (y.0, x.0.1) (value, rest) y.2) (value_of_test (b ++ more) x.0.0 y.0 (x.0.1 ++ more) (f.before b x.0.0 x.0.1 more x.1) y.1)

  tested_ends : (a : A) (value : B) (front rest : List ℕ) → test a ≡ Ok value → MayFollow delimited_at a front rest → MayFollow tested_delimited_at value front rest
  tested_ends a value front rest makes (inl none) = inl none
  tested_ends a value front rest makes (inr h) = inr (value_of_test front a value [] h makes)

  pub tested_takes : (b : List ℕ) (value : B) (rest : List ℕ) → checked_at test read b ≡ Ok (value, rest) → (front : List ℕ) × SpellsTested S test value front × (b ≡ front ++ rest) × MayFollow tested_delimited_at value front rest
  tested_takes b value rest e =
      let x = bind_ok (read b) _ (value, rest) e in
      let y = bind_ok (test x.0.0) _ (value, rest) x.2 in
      let a = f.takes b x.0.0 x.0.1 x.1 in
      subst (λ (p : B × List ℕ). (front : List ℕ) × SpellsTested S test p.0 front × (b ≡ front ++ p.1) × MayFollow tested_delimited_at p.0 front p.1) (ok_is (y.0, x.0.1) (value, rest) y.2) (a.0, record { inner = x.0.0; spelled = a.1; makes = y.1 }, a.2, tested_ends x.0.0 y.0 a.0 x.0.1 y.1 a.3)

  pub tested_alone : (value : B) (front : List ℕ) → SpellsTested S test value front → checked_at test read front ≡ Ok (value, [])
  tested_alone value front s = rw (f.alone s.inner front s.spelled, s.makes) refl

  abbrev pub tested_grammar : Grammar (SpellsTested S test) (checked_at test read) (checked_at test delimited_at)
  tested_grammar = record { same = tested_same; before = tested_before; takes = tested_takes; alone = tested_alone }
