-- Places inside quotes, one by one.
use Rattle.std.proofs.Common.{◌≡◌, ℕ, ◌+◌, List, [], ◌∷◌, ◌++◌, count_by, Bool, true, false, not, cond, map-id, sym, ap, ◌∙◌, refl, arith, add-one, add-zero, ◌⊎◌, ◌||◌, ◌&&◌, ◌==◌, zero, suc, ◌<◌, ◌≤◌, ◌-◌, length, drop, slice_index, Option, None, Some, subst, inl, inr, append_assoc, ◌↔◌, get_or, map, IsTrue, Result, Ok, Err, IfOk}
use Rattle.std.specs.List.{range_with_len}
use Rattle.std.proofs.lemmas.List.FromFn.{map-range_with_len_more}
use Rattle.std.proofs.lemmas.List.Sums.{sum_by_push}
use Rattle.sshkey_entries.specs.Items.{is_odd, is_comma, is_quote}
use Rattle.sshkey_entries.specs.Fields.{is_plain_quote, is_inside, is_blank}
use Rattle.std.proofs.lemmas.Bool.{cases_lt}
use Rattle.std.proofs.lemmas.List.{length-append, get_or_append_left, drop_all, drop_more}
use Rattle.sshkey_entries.specs.OptionItems.{KeyOption, quote, equals_sign, is_name_character, AreNameCharacters, IsQuoted, unescaped, IsValueAt, EndsOption, IsOptionAt, without_commas, AreKeyOptions, IsSameName, FindsWord, Names, row_of, IsNoOption, MaySay, Says, StandFirst}
use Rattle.sshkey_entries.proofs.Fronts.{same_word}
use Rattle.sshkey_entries.proofs.OneOpenSshLine.{same_front}
use Rattle.sshkey_entries.specs.Answers.{IsTheOne, Tells}
use Rattle.sshkey_entries.specs.declared.reading.Reading.{Reading}
use Rattle.sshkey_entries.specs.declared.reading.Reading.TheVariants.{Is, Rejected, Unclear}
use denote.Ref.{Bor}

range_more : (n : ℕ) → range_with_len 0 (n + 1) ≡ range_with_len 0 n ++ (n ∷ [])
range_more n = sym (map-id (range_with_len 0 (n + 1))) ∙ map-range_with_len_more (λ (x : ℕ). x) 0 n n (omega arith) ∙ ap (λ (l : List ℕ). l ++ (n ∷ [])) (map-id (range_with_len 0 n))

pub inside_first : (line : List ℕ) → is_inside line 0 ≡ false
unfolding is_inside is_odd
inside_first line = refl

inside_by : (line : List ℕ) (i : ℕ) (b : Bool) → is_plain_quote line i ≡ b → is_inside line (i + 1) ≡ cond b (not (is_inside line i)) (is_inside line i)
unfolding is_inside is_odd
inside_by line i true e =
    ap is_odd (ap (count_by (is_plain_quote line)) (range_more i) ∙ sum_by_push (λ x. cond (is_plain_quote line x) 1 0) (range_with_len 0 i) i ∙ ap (λ (b : Bool). count_by (is_plain_quote line) (range_with_len 0 i) + cond b 1 0) e ∙ add-one _)
inside_by line i false e =
    ap is_odd (ap (count_by (is_plain_quote line)) (range_more i) ∙ sum_by_push (λ x. cond (is_plain_quote line x) 1 0) (range_with_len 0 i) i ∙ ap (λ (b : Bool). count_by (is_plain_quote line) (range_with_len 0 i) + cond b 1 0) e ∙ add-zero _)

pub inside_more : (line : List ℕ) (i : ℕ) → is_inside line (i + 1) ≡ cond (is_plain_quote line i) (not (is_inside line i)) (is_inside line i)
inside_more line i = inside_by line i (is_plain_quote line i) refl

-- A text is one list of options at most.

-- ---- names

abbrev pub EndsName : List ℕ → Type 0
EndsName text = (text ≡ []) ⊎ (is_name_character (slice_index text 0) ≡ false)

pub same_name : (a b r s : List ℕ) → AreNameCharacters a → AreNameCharacters b → EndsName r → EndsName s → a ++ r ≡ b ++ s → (a ≡ b) × (r ≡ s)
same_name = same_word is_name_character true false (λ e. cc e)

-- ---- quoted texts

quote_same : (a b : List ℕ) (i : ℕ) → ((k : ℕ) → k ≤ i → slice_index a k ≡ slice_index b k) → is_plain_quote a i ≡ is_plain_quote b i
quote_same a b zero same = ap (λ (c : ℕ). is_quote c && true) (same 0 (omega arith))
quote_same a b (suc i) same =
    let here : slice_index a (suc i) ≡ slice_index b (suc i) = same (suc i) (omega arith) in
    let before : slice_index a (suc i - 1) ≡ slice_index b (suc i - 1) = same (suc i - 1) (omega arith) in
    rw (here, before) refl

-- what follows a text makes no quote of it plain
pub quote_front : (a x : List ℕ) (i : ℕ) → i < length a → is_plain_quote (a ++ x) i ≡ is_plain_quote a i
quote_front a x i l = quote_same (a ++ x) a i (λ k le. get_or_append_left a x 0 k (omega (arith, l, le)))

quote_after : (q r : List ℕ) → IsQuoted q → is_plain_quote (q ++ (quote ∷ r)) (length q) ≡ true
quote_after q r is =
    ap (λ (t : List ℕ). is_plain_quote t (length q)) (sym (append_assoc q (quote ∷ []) r))
    ∙ quote_front (q ++ (quote ∷ [])) r (length q) (omega (arith, length-append q (quote ∷ [])))
    ∙ is.ends

-- where a text is quoted, it is not quoted further on
not_shorter : (q p r s : List ℕ) → IsQuoted q → IsQuoted p → q ++ (quote ∷ r) ≡ p ++ (quote ∷ s) → length q < length p → ⊥
not_shorter q p r s a b e l =
    let here : is_plain_quote (p ++ (quote ∷ s)) (length q) ≡ true = ap (λ (t : List ℕ). is_plain_quote t (length q)) (sym e) ∙ quote_after q r a in
    cc (sym here ∙ quote_front p (quote ∷ s) (length q) l ∙ b.inner (length q) l)

pub same_quoted : (q p r s : List ℕ) → IsQuoted q → IsQuoted p → q ++ (quote ∷ r) ≡ p ++ (quote ∷ s) → (q ≡ p) × (r ≡ s)
same_quoted q p r s a b e = elim (cases_lt (length q) (length p)) [
  | inl less ↦ absurd (not_shorter q p r s a b e less)
  | inr above ↦ elim (cases_lt (length p) (length q)) [
    | inl less ↦ absurd (not_shorter p q s r b a (sym e) less)
    | inr below ↦
        let parts = same_front q p (quote ∷ r) (quote ∷ s) (omega (arith, above, below)) e in
        (parts.0, cc parts.1)
  ]
]

-- ---- values

-- no option ends where a value begins
pub no_value : (r more : List ℕ) → EndsOption r → r ≡ equals_sign ∷ more → ⊥
no_value r more (inl none) e = absurd (omega (arith, ap length (sym none ∙ e)))
no_value r more (inr comma) e = cc (sym comma ∙ ap (λ (t : List ℕ). is_comma (slice_index t 0)) e)

pub same_value : (text : List ℕ) (v w : Option (List ℕ)) (r s : List ℕ) → IsValueAt text v r → IsValueAt text w s → EndsOption r → EndsOption s → (v ≡ w) × (r ≡ s)
same_value text None None r s a b m n = (refl, sym a ∙ b)
same_value text None (Some w) r s a b m n = absurd (no_value r (quote ∷ (b.0 ++ (quote ∷ s))) m (sym a ∙ b.1))
same_value text (Some v) None r s a b m n = absurd (no_value s (quote ∷ (a.0 ++ (quote ∷ r))) n (sym b ∙ a.1))
same_value text (Some v) (Some w) r s a b m n =
    let quoted : a.0 ++ (quote ∷ r) ≡ b.0 ++ (quote ∷ s) = ap (drop 2) (sym a.1 ∙ b.1) in
    let same = same_quoted a.0 b.0 r s a.2 b.2 quoted in
    (ap (λ (x : List ℕ). Some x) (a.3 ∙ ap unescaped same.0 ∙ sym b.3), same.1)

-- ---- options

-- a name ends where an option does, and before a value
pub value_ends : (text : List ℕ) (v : Option (List ℕ)) (r : List ℕ) → IsValueAt text v r → EndsOption r → EndsName text
value_ends text None r a (inl none) = inl (a ∙ none)
value_ends text None r a (inr comma) = inr (comma_ends (slice_index text 0) (ap (λ (t : List ℕ). is_comma (slice_index t 0)) a ∙ comma))
  where
    comma_ends : (c : ℕ) → is_comma c ≡ true → is_name_character c ≡ false
    comma_ends c e = ap (λ (b : Bool). not (b || is_quote c || c == equals_sign || is_blank c)) e
value_ends text (Some v) r a m = inr (ap (λ (t : List ℕ). is_name_character (slice_index t 0)) a.1)

same_option : (o p : KeyOption) → o.name ≡ p.name → o.value ≡ p.value → o ≡ p
same_option o p n v = λ j. record { name = n j; value = v j }

pub one_option : (text : List ℕ) (o p : KeyOption) (r s : List ℕ) → IsOptionAt text o r → IsOptionAt text p s → (o ≡ p) × (r ≡ s)
one_option text o p r s a b =
    let names = same_name o.name p.name a.after b.after a.characters b.characters (value_ends a.after o.value r a.value a.ends) (value_ends b.after p.value s b.value b.ends) (sym a.is ∙ b.is) in
    let values = same_value b.after o.value p.value r s (subst (λ (t : List ℕ). IsValueAt t o.value r) names.1 a.value) b.value a.ends b.ends in
    (same_option o p names.0 values.0, values.1)

-- no option is nothing
pub some_option : (text : List ℕ) (o : KeyOption) (r : List ℕ) → IsOptionAt text o r → 0 < length text
some_option text o r a = omega (arith, a.some, ap length a.is, length-append o.name a.after)

pub one_options : (text : List ℕ) (a b : List KeyOption) → AreKeyOptions text a → AreKeyOptions text b → a ≡ b
one_options text [] [] x y = refl
one_options text [] (p ∷ more) x y = absurd (omega (arith, some_option (without_commas text) p y.0 y.1, ap length x))
one_options text (o ∷ more) [] x y = absurd (omega (arith, some_option (without_commas text) o x.0 x.1, ap length y))
one_options text (o ∷ more) (p ∷ others) x y =
    let first = one_option (without_commas text) o p x.0 y.0 x.1 y.1 in
    let rest = one_options y.0 more others (subst (λ (t : List ℕ). AreKeyOptions t more) first.1 x.2) y.2 in
    ap (λ (q : KeyOption). q ∷ more) first.0 ∙ ap (λ (l : List KeyOption). p ∷ l) rest

-- What is read of a part, and what of the whole.

-- one fact in place of another
pub told_as : {X Y : Type 0} (means : X → Y) (P Q : Y → Type 0) (U V : Type 0) → ((y : Y) → P y → Q y) → ((y : Y) → Q y → P y) → (U → V) → (V → U) → (r : Reading X) → Tells means P U r → Tells means Q V r
told_as means P Q U V there back may back_may (Is x) t = (there _ t.0, (λ y q. t.1 y (back y q)), λ v. t.2 (back_may v))
told_as means P Q U V there back may back_may Rejected t = ((λ y q. t.0 y (back y q)), λ v. t.1 (back_may v))
told_as means P Q U V there back may back_may Unclear t = ((λ y q. t.0 y (back y q)), may t.1)

pub one_as : {X Y : Type 0} (means : X → Y) (P Q : Y → Type 0) → ((y : Y) → P y → Q y) → ((y : Y) → Q y → P y) → (r : Option X) → IsTheOne means P r → IsTheOne means Q r
one_as means P Q there back (Some x) t = (there _ t.0, λ y q. t.1 y (back y q))
one_as means P Q there back None t = λ y q. t y (back y q)

-- What a table of names says.

pub not_so : (b : Bool) (P : Type 0) → (IsTrue b ↔ P) → b ≡ false → P → ⊥
not_so b P judged never_so p = let chosen : b ≡ true = judged.1 p in cc (sym chosen ∙ never_so)

pub after : {W : Type 0} (row : List ℕ × W) (more : List (List ℕ × W)) (name : List ℕ) (r : Option W) → (IsSameName name row.0 → ⊥) → FindsWord more name r → FindsWord (row ∷ more) name r
after row more name None other none = λ w names. elim names [ inl same ↦ other same.0 | inr rest ↦ none w rest.1 ]
after row more name (Some w) other found = inr (other, found)

pub is_none_left : {W : Type 0} (table : List (Bor (List ℕ) × W)) (i : ℕ) (name : List ℕ) → length table ≤ i → FindsWord (map row_of (drop i table)) name None
is_none_left {W} table i name past = subst (λ (l : List (Bor (List ℕ) × W)). FindsWord (map row_of l) name None) (sym (drop_all i table past)) (λ w named. named)

module _ {W : Type 0} (table : List (Bor (List ℕ) × W)) (i : ℕ) (name : List ℕ) (row : Bor (List ℕ) × W) (inside : i < length table) (is : row ≡ get_or table i row) where
  first_row : row ∷ drop (i + 1) table ≡ drop i table
  first_row = ap (λ (r : Bor (List ℕ) × W). r ∷ drop (i + 1) table) is ∙ sym (drop_more table i row inside)

  pub is_found : IsSameName name row.0.now → FindsWord (map row_of (drop i table)) name (Some row.1)
  is_found same = subst (λ (l : List (Bor (List ℕ) × W)). FindsWord (map row_of l) name (Some row.1)) first_row (inl (same, refl))

  pub is_after : (r : Option W) → (IsSameName name row.0.now → ⊥) → FindsWord (map row_of (drop (i + 1) table)) name r → FindsWord (map row_of (drop i table)) name r
  is_after r other found = subst (λ (l : List (Bor (List ℕ) × W)). FindsWord (map row_of l) name r) first_row (after (row_of row) (map row_of (drop (i + 1) table)) name r other found)

-- A name is one word.
pub one_word : {W : Type 0} (table : List (List ℕ × W)) (name : List ℕ) (w v : W) → Names table name w → Names table name v → w ≡ v
one_word [] name w v a b = absurd a
one_word (row ∷ more) name w v (inl a) (inl b) = a.1 ∙ sym b.1
one_word (row ∷ more) name w v (inl a) (inr b) = absurd (b.0 a.0)
one_word (row ∷ more) name w v (inr a) (inl b) = absurd (a.0 b.0)
one_word (row ∷ more) name w v (inr a) (inr b) = one_word more name w v a.1 b.1

-- what its one word says
pub by_word : {W X Y E : Type 0} (means : X → Y) (Holds : W → Y → Type 0) (May : W → Type 0) (table : List (List ℕ × W)) (name : List ℕ) (w : W) → Names table name w → (r : Result (Reading X) E) → IfOk r (Tells means (Holds w) (May w)) → IfOk r (Tells means (λ y. (v : W) × Names table name v × Holds v y) ((v : W) × Names table name v × May v))
by_word means Holds May table name w named (Err e) told = tt
by_word {W} {X} {Y} means Holds May table name w named (Ok t) told =
    told_as means (Holds w) (λ y. (v : W) × Names table name v × Holds v y) (May w) ((v : W) × Names table name v × May v)
    (λ y is. (w, named, is)) (λ y a. subst (λ (v : W). Holds v y) (one_word table name a.0 w a.1 named) a.2)
    (λ m. (w, named, m)) (λ m. subst May (one_word table name m.0 w m.1 named) m.2) t told

-- What options say, one after the other.

module _ {X Y : Type 0} (means : X → Y) (Adds : List ℕ → Option (List ℕ) → Y → Y → Type 0) (MayBe : List ℕ → Option (List ℕ) → Type 0) (old : List ℕ) where
  module _ (new : List ℕ) (o : KeyOption) (s : Y) (is : IsOptionAt (without_commas old) o new) where
    -- the first of them is this one
    first_adds : (t : Y) → Says Adds s old t → (u : Y) × Adds o.name o.value s u × Says Adds u new t
    first_adds t ([], none, say) = absurd (omega (arith, some_option (without_commas old) o new is, ap length none))
    first_adds t (p ∷ more, are, say) =
        let same = one_option (without_commas old) p o are.0 new are.1 is in
        (say.0, subst (λ (q : KeyOption). Adds q.name q.value s say.0) same.0 say.1, (more, subst (λ (l : List ℕ). AreKeyOptions l more) same.1 are.2, say.2))

    first_may : MaySay Adds MayBe s old → MayBe o.name o.value ⊎ ((u : Y) × Adds o.name o.value s u × MaySay Adds MayBe u new)
    first_may ([], first, may) = absurd may
    first_may (p ∷ more, first, may) =
        let same = one_option (without_commas old) p o first.0 new first.1 is in elim may [
          | inl here ↦ inl (subst (λ (q : KeyOption). MayBe q.name q.value) same.0 here)
          | inr later ↦ inr (later.0, subst (λ (q : KeyOption). Adds q.name q.value s later.0) same.0 later.1, (more, subst (λ (l : List ℕ). StandFirst l more) same.1 first.2, later.2))
        ]

    -- this one is read, and then what is left
    pub read_on : (u : X) → Tells means (Adds o.name o.value s) (MayBe o.name o.value) (Is u) → (r : Reading X) → Tells means (Says Adds (means u) new) (MaySay Adds MayBe (means u) new) r → Tells means (Says Adds s old) (MaySay Adds MayBe s old) r
    read_on u here =
        told_as means (Says Adds (means u) new) (Says Adds s old) (MaySay Adds MayBe (means u) new) (MaySay Adds MayBe s old)
        (λ t says. (o ∷ says.0, (new, is, says.1), (means u, here.0, says.2)))
        (λ t says. let first = first_adds t says in subst (λ (v : Y). Says Adds v new t) (here.1 first.0 first.1) first.2)
        (λ may. (o ∷ may.0, (new, is, may.1), inr (means u, here.0, may.2)))
        (λ may. elim (first_may may) [
          | inl unclear ↦ absurd (here.2 unclear)
          | inr later ↦ subst (λ (v : Y). MaySay Adds MayBe v new) (here.1 later.0 later.1) later.2
        ])

    -- this one ends it
    pub rejected_here : Tells {X = X} means (Adds o.name o.value s) (MayBe o.name o.value) Rejected → Tells {X = X} means (Says Adds s old) (MaySay Adds MayBe s old) Rejected
    rejected_here here = (
      (λ t says. let first = first_adds t says in here.0 first.0 first.1),
      λ may. elim (first_may may) [ inl unclear ↦ here.1 unclear | inr later ↦ here.0 later.0 later.1 ],
    )

    pub unclear_here : Tells {X = X} means (Adds o.name o.value s) (MayBe o.name o.value) Unclear → Tells {X = X} means (Says Adds s old) (MaySay Adds MayBe s old) Unclear
    unclear_here here = ((λ t says. let first = first_adds t says in here.0 first.0 first.1), (o ∷ [], (new, is, tt), inl here.1))

  -- no option more
  no_may : (s : Y) → IsNoOption (without_commas old) → MaySay Adds MayBe s old → ⊥
  no_may s none ([], first, may) = may
  no_may s none (o ∷ more, first, may) = none o first.0 first.1

  no_says : (s : Y) → 0 < length (without_commas old) → IsNoOption (without_commas old) → (t : Y) → Says Adds s old t → ⊥
  no_says s some none t ([], are, say) = omega (arith, some, ap length are)
  no_says s some none t (o ∷ more, are, say) = none o are.0 are.1

  pub no_options : (s : Y) → 0 < length (without_commas old) → IsNoOption (without_commas old) → Tells {X = X} means (Says Adds s old) (MaySay Adds MayBe s old) Rejected
  no_options s some none = (no_says s some none, no_may s none)

  nothing_more : (s : Y) → without_commas old ≡ [] → (t : Y) → Says Adds s old t → t ≡ s
  nothing_more s none t ([], are, say) = say
  nothing_more s none t (o ∷ more, are, say) = absurd (omega (arith, some_option (without_commas old) o are.0 are.1, ap length none))

  pub all_read : (x : X) → without_commas old ≡ [] → Tells means (Says Adds (means x) old) (MaySay Adds MayBe (means x) old) (Is x)
  all_read x none = (([], none, refl), nothing_more (means x) none, no_may (means x) (λ o rest is. omega (arith, some_option (without_commas old) o rest is, ap length none)))
