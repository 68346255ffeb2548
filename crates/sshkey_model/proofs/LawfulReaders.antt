-- A reader and the spelling that it reads: steps, bytes and numbers.
use Rattle.std.proofs.Common.{◌≡◌, ◌⊎◌, ℕ, zero, suc, ◌^◌, ◌%◌, ◌<◌, ◌≤◌, Bool, true, false, cond, ltb, List, [], ◌∷◌, ◌++◌, length, get_or, take, drop, Result, Ok, Err, refl, sym, ap, subst, ◌∙◌, arith, inl, inr}
use Rattle.std.specs.Int.{Width, w8, w32, w64, byte_len, byte_at, bytes_high_first, from_be_bytes, to_be_bytes}
use mir.Val.{bits}
use Rattle.std.proofs.lemmas.Bool.{ltb-false, ltb-true, le-ltb, lt-ltb, and_parts}
use Rattle.std.proofs.lemmas.List.{take_at, drop_at, take-append-drop, length-append, length-take}
use Rattle.std.proofs.lemmas.Nat.{be_bytes_4, be_bytes_8, from_be_bytes-to_be_bytes_4, from_be_bytes-to_be_bytes_8}
pub use Rattle.sshkey_model.specs.Parts.{Any}
use Rattle.sshkey_model.specs.Parts.{Parts, HasLength, bytes, number, box, ◌&◌, flat, Fits, InRange, BoxesFit, are_bytes}
use Rattle.sshkey_model.specs.Reading.{Fault, Length, ◌>>=◌, Front, Whole, all_from, number_at, bytes_at}

-- ---- steps that did not fail

-- the value of a step that did not fail
pub bind_ok : {A B : Type 0} (r : Result A Fault) (f : A → Result B Fault) (y : B) → (r >>= f) ≡ Ok y → (x : A) × (r ≡ Ok x) × (f x ≡ Ok y)
bind_ok (Ok x) f y e = (x, refl, e)
bind_ok (Err d) f y e = absurd cc

pub bind_assoc : {A B C : Type 0} (r : Result A Fault) (f : A → Result B Fault) (g : B → Result C Fault) → ((r >>= f) >>= g) ≡ (r >>= λ x. f x >>= g)
bind_assoc (Ok x) f g = refl
bind_assoc (Err d) f g = refl

abbrev pub done : {A : Type 0} → A → Result A Fault
done x = Ok x

pub ok_is : {A : Type 0} (x y : A) → done x ≡ done y → x ≡ y
ok_is x y e = cc

-- which way a test went
pub chosen : {A : Type 0} (b : Bool) (x y z : A) → cond b x y ≡ z → ((b ≡ true) × (x ≡ z)) ⊎ ((b ≡ false) × (y ≡ z))
chosen true x y z e = inl (refl, e)
chosen false x y z e = inr (refl, e)

-- a test that did not refuse
pub passed : {A : Type 0} (b : Bool) (d : Fault) (r : Result A Fault) (y : A) → cond b (Err d) r ≡ Ok y → (b ≡ false) × (r ≡ Ok y)
passed true d r y e = absurd cc
passed false d r y e = (refl, e)

-- a test that was met
pub met : {A : Type 0} (b : Bool) (d : Fault) (r : Result A Fault) (y : A) → cond b r (Err d) ≡ Ok y → (b ≡ true) × (r ≡ Ok y)
met true d r y e = (refl, e)
met false d r y e = absurd cc

-- ---- bytes

pub bytes_fit : (b : List ℕ) → are_bytes b ≡ true → (i : ℕ) → get_or b i 0 < 256
bytes_fit [] e i = omega arith
bytes_fit (c ∷ b) e zero = ltb-true c 256 (and_parts _ _ e).0
bytes_fit (c ∷ b) e (suc i) = bytes_fit b (and_parts _ _ e).1 i

pub fit_bytes : (b : List ℕ) → ((i : ℕ) → get_or b i 0 < 256) → are_bytes b ≡ true
fit_bytes [] h = refl
fit_bytes (c ∷ b) h = rw (lt-ltb c 256 (h 0), fit_bytes b (λ i. h (suc i))) refl

pub are_bytes-append : (a b : List ℕ) → are_bytes a ≡ true → are_bytes b ≡ true → are_bytes (a ++ b) ≡ true
are_bytes-append [] b e f = f
are_bytes-append (c ∷ a) b e f = let p = and_parts (ltb c 256) (are_bytes a) e in rw (p.0, are_bytes-append a b p.1 f) refl

byte_fits : (i n : ℕ) → byte_at i n < 256
byte_fits zero n = omega arith
byte_fits (suc i) n = omega arith

pub number_bytes : (k n : ℕ) → are_bytes (bytes_high_first k n) ≡ true
number_bytes zero n = refl
number_bytes (suc k) n = rw (lt-ltb (byte_at k n) 256 (byte_fits k n), number_bytes k n) refl

-- ---- what fits

pub fits_both : (p q : Parts) → Fits p → Fits q → Fits (p & q)
unfolding InRange BoxesFit
fits_both p q f g = record { range = (f.range, g.range); boxes = (f.boxes, g.boxes) }

pub fits_first : (p q : Parts) → Fits (p & q) → Fits p
unfolding InRange BoxesFit
fits_first p q f = record { range = f.range.0; boxes = f.boxes.0 }

pub fits_second : (p q : Parts) → Fits (p & q) → Fits q
unfolding InRange BoxesFit
fits_second p q f = record { range = f.range.1; boxes = f.boxes.1 }

pub fits_box : (p : Parts) → length (flat p) < 2 ^ 32 → Fits p → Fits (box p)
unfolding InRange BoxesFit
fits_box p small f = record { range = f.range; boxes = (small, f.boxes) }

pub fits_inside : (p : Parts) → Fits (box p) → Fits p
unfolding InRange BoxesFit
fits_inside p f = record { range = f.range; boxes = f.boxes.1 }

pub fits_length : (p : Parts) → Fits (box p) → length (flat p) < 2 ^ 32
unfolding BoxesFit
fits_length p f = f.boxes.0

pub fits_bytes : (b : List ℕ) → are_bytes b ≡ true → Fits (bytes b)
unfolding InRange BoxesFit
fits_bytes b e = record { range = e; boxes = tt }

pub fits_number : (w : Width) (n : ℕ) → n < 2 ^ bits w → Fits (number w n)
unfolding InRange BoxesFit
fits_number w n lt = record { range = lt; boxes = tt }

-- ---- the two laws

-- What a front reader gives is spelled so, and what is spelled so it gives, whatever follows.
pub record ReadsFront {A : Type 0} (Is : A → Type 0) (spell : A → Parts) (read : Front A) : Type 0 where
  pub takes : (b : List ℕ) (x : A) (rest : List ℕ) → read b ≡ Ok (x, rest) → Is x × Fits (spell x) × (b ≡ flat (spell x) ++ rest)
  pub again : (x : A) (rest : List ℕ) → Is x → Fits (spell x) → read (flat (spell x) ++ rest) ≡ Ok (x, rest)

-- The same of all bytes.
pub record ReadsWhole {A : Type 0} (Is : A → Type 0) (spell : A → Parts) (read : Whole A) : Type 0 where
  pub takes : (b : List ℕ) (x : A) → read b ≡ Ok x → Is x × Fits (spell x) × (b ≡ flat (spell x))
  pub again : (x : A) → Is x → Fits (spell x) → read (flat (spell x)) ≡ Ok x

-- ---- bytes with no length before them

pub bytes_reads : (n : ℕ) → ReadsFront (HasLength n) bytes (bytes_at n)
unfolding flat InRange BoxesFit bytes_at
bytes_reads n = record {
  takes = λ b x rest e.
      let g = passed (ltb (length b) n) Length (cond (are_bytes (take n b)) (Ok (take n b, drop n b)) (Err Length)) (x, rest) e in
      let h = met (are_bytes (take n b)) Length (Ok (take n b, drop n b)) (x, rest) g.1 in
      let long : n ≤ length b = ltb-false _ _ g.0 in
      let len : length (take n b) ≡ n = omega (arith, length-take n b) in
      subst (λ (p : List ℕ × List ℕ). HasLength n p.0 × Fits (bytes p.0) × (b ≡ p.0 ++ p.1)) (ok_is (take n b, drop n b) (x, rest) h.1) (len, record { range = h.0; boxes = tt }, sym (take-append-drop n b));
  again = λ x rest len fits.
      let long : ltb (length (x ++ rest)) n ≡ false = le-ltb _ _ (omega (arith, length-append x rest)) in
      rw (long, take_at x rest n len, drop_at x rest n len, fits.range) refl;
}

-- all the bytes
pub all_reads : ReadsWhole Any bytes all_from
unfolding flat InRange BoxesFit
all_reads = record {
  takes = λ b x e.
      let h = met (are_bytes b) Length (Ok b) x e in
      subst (λ (z : List ℕ). Any z × Fits (bytes z) × (b ≡ z)) (ok_is b x h.1) (tt, record { range = h.0; boxes = tt }, refl);
  again = λ x is fits. rw fits.range refl;
}

-- ---- numbers

pub record IsWide (w : Width) : Type 0 where
  pub len : (n : ℕ) → length (to_be_bytes w n) ≡ byte_len w
  pub are : (n : ℕ) → are_bytes (to_be_bytes w n) ≡ true
  pub back : (b : List ℕ) → length b ≡ byte_len w → ((i : ℕ) → get_or b i 0 < 256) → to_be_bytes w (from_be_bytes w b) ≡ b
  pub again : (n : ℕ) → n < 2 ^ bits w → from_be_bytes w (to_be_bytes w n) ≡ n
  pub below : (b : List ℕ) → ((i : ℕ) → get_or b i 0 < 256) → from_be_bytes w b < 2 ^ bits w

one_byte : (b : List ℕ) → length b ≡ 1 → ((i : ℕ) → get_or b i 0 < 256) → to_be_bytes w8 (from_be_bytes w8 b) ≡ b
one_byte [] len fits = absurd (omega arith)
one_byte (a ∷ []) len fits = let small : a < 256 = fits 0 in let e : a % 256 ≡ a = omega arith in ap (λ (x : ℕ). x ∷ []) e
one_byte (a ∷ c ∷ rest) len fits = absurd (omega arith)

pub wide8 : IsWide w8
wide8 = record {
  len = λ n. refl;
  are = λ n. number_bytes 1 n;
  back = one_byte;
  again = λ n lt. omega arith;
  below = λ b fits. omega (arith, fits 0);
}

pub wide32 : IsWide w32
wide32 = record {
  len = λ n. refl;
  are = λ n. number_bytes 4 n;
  back = λ b len fits. be_bytes_4 b _ len fits refl;
  again = λ n lt. from_be_bytes-to_be_bytes_4 n lt;
  below = λ b fits. omega (arith, fits 0, fits 1, fits 2, fits 3);
}

pub wide64 : IsWide w64
wide64 = record {
  len = λ n. refl;
  are = λ n. number_bytes 8 n;
  back = λ b len fits. be_bytes_8 b _ len fits refl;
  again = λ n lt. from_be_bytes-to_be_bytes_8 n lt;
  below = λ b fits. omega (arith, fits 0, fits 1, fits 2, fits 3, fits 4, fits 5, fits 6, fits 7);
}

pub number_reads : (w : Width) → IsWide w → ReadsFront Any (number w) (number_at w)
unfolding flat InRange BoxesFit number_at
number_reads w wide = record {
  takes = λ b n rest e.
      let x = bind_ok (bytes_at (byte_len w) b) (λ n. Ok (from_be_bytes w n.0, n.1)) (n, rest) e in
      let t = (bytes_reads (byte_len w)).takes b x.0.0 x.0.1 x.1 in
      let fits = bytes_fit x.0.0 t.1.range in
      let front : x.0.0 ≡ to_be_bytes w (from_be_bytes w x.0.0) = sym (wide.back x.0.0 t.0 fits) in
      subst (λ (p : ℕ × List ℕ). Any p.0 × Fits (number w p.0) × (b ≡ to_be_bytes w p.0 ++ p.1)) (ok_is (from_be_bytes w x.0.0, x.0.1) (n, rest) x.2)
      (tt, record { range = wide.below x.0.0 fits; boxes = tt }, t.2 ∙ ap (λ (z : List ℕ). z ++ x.0.1) front);
  again = λ n rest is fits.
      let a : bytes_at (byte_len w) (to_be_bytes w n ++ rest) ≡ Ok (to_be_bytes w n, rest) = (bytes_reads (byte_len w)).again (to_be_bytes w n) rest (wide.len n) (record { range = wide.are n; boxes = tt }) in
      rw (a, wide.again n fits.range) refl;
}
