-- What a name stands for, and what it says: for worked examples.
use Rattle.std.proofs.Common.{◌≡◌, ◌∙◌, ◌⊎◌, ◌<◌, ℕ, List, [], ◌∷◌, Bool, true, false, Option, Some, None, inl, inr, map, refl, subst, sym, arith}
use Rattle.std.proofs.lemmas.Bool.Decides.{Decides-eqb}
use Rattle.std.proofs.lemmas.List.Sums.{AllPass-from_list_all}
use Rattle.std.proofs.lemmas.Slice.Eq.{bytes_eq-Decides}
use Rattle.std.specs.Prelude.{◌==◌, not, if◌then◌else◌, codes}
use Rattle.std.specs.Char.{to_ascii_lowercase}
use Rattle.std.specs.List.{list_all}
use Rattle.std.specs.Str.{bytes_eq}
use Rattle.std.specs.Bool.{Decides}
use Rattle.sshkey_model.specs.Lines.{IsWithout}
use Rattle.sshkey_entries.specs.OptionItems.{IsSameName, FindsWord, Names}
use Rattle.sshkey_entries.proofs.OptionItems.{after, one_word}
use Rattle.login_terms.specs.Examples.{Refuses, Says}
use Rattle.login_terms.specs.Options.{AddsWord, MayBeWord, Terms, words}
use Rattle.login_terms.specs.declared.words.Word.{Word}
use Rattle.std.specs.Net.Grammar.{IsNumber}
use Rattle.login_terms.specs.Values.{IsPermitListen, IsPermitOpen, IsPort, colon, slash, closing_bracket}

abbrev pub found : {W : Type 0} → List (List ℕ × W) → List ℕ → Option W
found [] name = None
found (row ∷ more) name = if bytes_eq (map to_ascii_lowercase name) (map to_ascii_lowercase row.0) then Some row.1 else found more name

row_found : {W : Type 0} (row : List ℕ × W) (more : List (List ℕ × W)) (name : List ℕ) (same : Bool) (r : Option W) → Decides same (IsSameName name row.0) → FindsWord more name r → FindsWord (row ∷ more) name (if same then Some row.1 else r)
row_found row more name true r is rest = inl (is.0 refl, refl)
row_found row more name false r is rest = after row more name r (λ e. cc (is.1 e)) rest

finds : {W : Type 0} (table : List (List ℕ × W)) (name : List ℕ) → FindsWord table name (found table name)
finds [] name = λ w n. n
finds (row ∷ more) name = row_found row more name _ (found more name) (bytes_eq-Decides (map to_ascii_lowercase name) (map to_ascii_lowercase row.0)) (finds more name)

named : (name : List ℕ) (w : Word) → found words name ≡ Some w → Names words name w
named name w e = subst (FindsWord words name) e (finds words name)

unnamed : (name : List ℕ) → found words name ≡ None → (w : Word) → Names words name w → ⊥
unnamed name e = subst (FindsWord words name) e (finds words name)

module _ (name : List ℕ) (value : Option (List ℕ)) (s : Terms) where
  pub says : (w : Word) (t : Terms) → found words name ≡ Some w → AddsWord w value s t → ((u : Terms) → AddsWord w value s u → u ≡ t) → Says name value s t
  says w t e adds one = (
    (w, named name w e, adds),
    λ u is. one u (subst (λ (v : Word). AddsWord v value s u) (one_word words name is.0 w is.1 (named name w e)) is.2),
  )

  pub refuses : (w : Word) → found words name ≡ Some w → ((t : Terms) → AddsWord w value s t → ⊥) → (MayBeWord w value → ⊥) → Refuses name value s
  refuses w e none never = (
    (λ t is. none t (subst (λ (v : Word). AddsWord v value s t) (one_word words name is.0 w is.1 (named name w e)) is.2)),
    (λ m. never (subst (λ (v : Word). MayBeWord v value) (one_word words name m.0 w m.1 (named name w e)) m.2)),
  )

  pub unknown : found words name ≡ None → Refuses name value s
  unknown e = ((λ t is. unnamed name e is.0 is.1), (λ m. unnamed name e m.0 m.1))

  pub adds : (w : Word) (t : Terms) → found words name ≡ Some w → AddsWord w value s t → (v : Word) × Names words name v × AddsWord v value s t
  adds w t e is = (w, named name w e, is)

-- ---- characters that stand nowhere

differs : (c d : ℕ) → not (d == c) ≡ true → d ≡ c → ⊥
differs c d e same = let never : false ≡ true = subst (λ (b : Bool). not b ≡ true) ((Decides-eqb d c).1 same) e in absurd cc

pub without : (c : ℕ) (text : List ℕ) → list_all (λ d. not (d == c)) text ≡ true → IsWithout c text
without c text e i l = differs c _ (AllPass-from_list_all (λ d. not (d == c)) text e i 0 l)

-- ---- what is not so

pub never : false ≡ true → ⊥
never e = absurd cc

pub some_none : {A : Type 0} (x : A) → Some x ≡ None → ⊥
some_none x e = absurd cc

pub few_digits : (n : ℕ) → n < 8 → (n ≡ 8) ⊎ (n ≡ 12) ⊎ (n ≡ 14) → ⊥
few_digits n few (inl a) = omega (arith, few, a)
few_digits n few (inr (inl a)) = omega (arith, few, a)
few_digits n few (inr (inr a)) = omega (arith, few, a)

pub unlike : (xs ys : List ℕ) → xs ≡ ys → bytes_eq xs ys ≡ false → ⊥
unlike xs ys e other = never (sym other ∙ (bytes_eq-Decides xs ys).1 e)

-- A host and its port: for worked examples.

eighty : IsNumber 10 (codes "80") 80
eighty = ((omega arith, (omega arith, (omega arith, tt))), refl)

at_80 : IsPort (codes "80") (Some 80)
at_80 = ((λ e. unlike _ _ e refl), eighty, omega arith, omega arith)

pub plain : IsPermitOpen (codes "h:80") (record { host = codes "h"; port = Some 80 })
plain = (
  without slash (codes "h:80") refl,
  ((codes "h", codes "80"), inr ((λ inside e. unlike _ _ e refl), record { is = refl; one_host = without colon (codes "h") refl }, omega arith), (refl, at_80)),
)

pub bracketed : IsPermitOpen (codes "[::1]:*") (record { host = codes "::1"; port = None })
bracketed = (
  without slash (codes "[::1]:*") refl,
  ((codes "::1", codes "*"), inl (codes "::1]:*", refl, record { is = refl; one_host = without closing_bracket (codes "::1") refl }, omega arith), (refl, refl)),
)

pub port : IsPermitListen (codes "80") (record { host = codes "*"; port = Some 80 })
port = inr (without colon (codes "80") refl, (refl, at_80))
