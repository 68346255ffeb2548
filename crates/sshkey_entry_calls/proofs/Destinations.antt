-- Where colons stand: for worked examples.
use Rattle.std.proofs.Common.{◌≡◌, ℕ, List, [], ◌∷◌, length, Bool, false, true, ap, arith, length-append, refl, subst, sym, ◌≢◌, ◌∙◌, ◌<◌, Option, Some, None, eqb-true, inl, inr}
use Rattle.std.proofs.lemmas.Bool.Decides.{Decides-eqb}
use Rattle.std.proofs.lemmas.List.Sums.{AllPass-from_list_all}
use Rattle.std.specs.Prelude.{◌==◌, codes, get_or, not}
use Rattle.std.specs.List.{list_all}
use Rattle.sshkey_model.specs.Lines.{IsWithout}
use Rattle.sshkey_entry_calls.specs.Destinations.{HasOneColon, colon, Destination, IsAfter, IsDestination, IsInBrackets, IsPlain, IsPlainWith, IsPort, destination_of, opening_bracket}
use Rattle.sshkey_entries.specs.Answers.{IsTheOne}
use denote.Ref.{Bor}

differs : (c d : ℕ) → not (d == c) ≡ true → d ≡ c → ⊥
differs c d e same = let never : false ≡ true = subst (λ (b : Bool). not b ≡ true) ((Decides-eqb d c).1 same) e in absurd cc

without : (c : ℕ) (text : List ℕ) → list_all (λ d. not (d == c)) text ≡ true → IsWithout c text
without c text e i l = differs c _ (AllPass-from_list_all (λ d. not (d == c)) text e i 0 l)

pub after_h : HasOneColon (codes "h:22") (codes "h") (codes "22")
after_h = record { is = refl; before = without colon (codes "h") refl; behind = without colon (codes "22") refl }

pub after_nothing : HasOneColon (codes ":22") [] (codes "22")
after_nothing = record { is = refl; before = without colon [] refl; behind = without colon (codes "22") refl }

pub none_in_one : (host port : List ℕ) → HasOneColon (codes "h") host port → ⊥
none_in_one [] port is = let first : 104 ≡ 58 = ap (λ (l : List ℕ). get_or l 0 0) is.is in omega (arith, first)
none_in_one (b ∷ host) port is = omega (arith, ap length is.is, length-append host (colon ∷ port))

pub two_at_front : (host port : List ℕ) → HasOneColon (codes "::1") host port → ⊥
two_at_front [] port is =
    let rest : codes ":1" ≡ port = cc is.is in
    subst (λ (l : List ℕ). IsWithout colon l) (sym rest) is.behind 0 (omega arith) refl
two_at_front (b ∷ host) port is = let first : 58 ≡ b = cc is.is in is.before 0 (omega arith) (sym first)

pub two_within : (host port : List ℕ) → HasOneColon (codes "a::22") host port → ⊥
two_within [] port is = let first : 97 ≡ 58 = ap (λ (l : List ℕ). get_or l 0 0) is.is in omega (arith, first)
two_within (b ∷ []) port is =
    let rest : codes ":22" ≡ port = cc is.is in
    subst (λ (l : List ℕ). IsWithout colon l) (sym rest) is.behind 0 (omega arith) refl
two_within (b ∷ d ∷ host) port is = let second : 58 ≡ d = cc is.is in is.before 1 (omega arith) (sym second)

-- A text is one host and one port.

pub same_destination : (d : Destination) (h : List ℕ) (p : Option ℕ) → d.host ≡ h → d.port ≡ p → d ≡ record { host = h; port = p }
same_destination d h p e f = λ j. record { host = e j; port = f j }

pub one_number : (text : List ℕ) (n m : ℕ) → IsPort text n → IsPort text m → n ≡ m
one_number text n m is js = sym is.0.1 ∙ js.0.1

-- ---- behind a bracket

pub no_port_at_end : (after : List ℕ) (p : Option ℕ) → IsAfter after p → after ≡ [] → p ≡ None
no_port_at_end after None is e = refl
no_port_at_end after (Some n) is e = absurd (cc (is.1, e))

pub port_behind : (after port : List ℕ) (n : ℕ) (p : Option ℕ) → IsAfter after p → after ≡ colon ∷ port → IsPort port n → p ≡ Some n
port_behind after port n None is e own = absurd (cc (is, e))
port_behind after port n (Some m) is e own =
    let same : is.0 ≡ port = cc (is.1, e) in
    ap Some (one_number port m n (subst (λ (l : List ℕ). IsPort l m) same is.2) own)

pub no_port_behind : (after port : List ℕ) (p : Option ℕ) → IsAfter after p → after ≡ colon ∷ port → ((n : ℕ) → IsPort port n → ⊥) → ⊥
no_port_behind after port None is e none = cc (is, e)
no_port_behind after port (Some m) is e none =
    let same : is.0 ≡ port = cc (is.1, e) in
    none m (subst (λ (l : List ℕ). IsPort l m) same is.2)

pub no_colon_behind : (after : List ℕ) (p : Option ℕ) → IsAfter after p → (after ≡ [] → ⊥) → ((port : List ℕ) → after ≢ colon ∷ port) → ⊥
no_colon_behind after None is some none = some is
no_colon_behind after (Some m) is some none = none is.0 is.1

pub empty : (text : List ℕ) (r : Bool) → r ≡ (length text == 0) → (r ≡ true → text ≡ []) × (r ≡ false → text ≡ [] → ⊥)
empty [] r is = ((λ _. refl), λ no e. let never : false ≡ true = sym no ∙ is in absurd cc)
empty (c ∷ text) r is = (
  (λ yes. let zero : length (c ∷ text) ≡ 0 = eqb-true _ 0 (sym is ∙ yes) in absurd (omega arith)),
  λ no e. absurd cc,
)

-- ---- with brackets or without

same_inside : (text inside other : List ℕ) → text ≡ opening_bracket ∷ inside → text ≡ opening_bracket ∷ other → other ≡ inside
same_inside text inside other is e = cc (is, e)

pub in_brackets : (text inside : List ℕ) (r : Option (Bor (List ℕ) × Option ℕ)) → text ≡ opening_bracket ∷ inside → IsTheOne destination_of (IsInBrackets inside) r → IsTheOne destination_of (IsDestination text) r
in_brackets text inside None is told = λ d e. elim e [ inl b ↦ told d (subst (λ (l : List ℕ). IsInBrackets l d) (same_inside text inside b.0 is b.1) b.2) | inr x ↦ absurd (x.0 inside is) ]
in_brackets text inside (Some r) is told = (
  inl (inside, is, told.0),
  λ d e. elim e [ inl b ↦ told.1 d (subst (λ (l : List ℕ). IsInBrackets l d) (same_inside text inside b.0 is b.1) b.2) | inr x ↦ absurd (x.0 inside is) ],
)

pub plain : (text : List ℕ) (r : Option (Bor (List ℕ) × Option ℕ)) → ((inside : List ℕ) → text ≢ opening_bracket ∷ inside) → IsTheOne destination_of (IsPlain text) r → IsTheOne destination_of (IsDestination text) r
plain text None other told = λ d e. elim e [ inl b ↦ other b.0 b.1 | inr x ↦ told d x.1 ]
plain text (Some r) other told = (
  inr (other, told.0),
  λ d e. elim e [ inl b ↦ absurd (other b.0 b.1) | inr x ↦ told.1 d x.1 ],
)

-- ---- without brackets

no_port : (text host : List ℕ) (p : Option ℕ) → ((x : List ℕ × List ℕ) → HasOneColon text x.0 x.1 → ⊥) → IsPlainWith text host p → (host ≡ text) × (p ≡ None)
no_port text host None none is = (is.0, refl)
no_port text host (Some n) none is = absurd (none (host, is.0) is.1)

-- A text in which not one colon stands is a host alone.
pub alone : (text : List ℕ) → ((x : List ℕ × List ℕ) → HasOneColon text x.0 x.1 → ⊥) → ((text ≡ text) × ((x : List ℕ × List ℕ) → HasOneColon text x.0 x.1 → ⊥)) × ((d : Destination) → IsPlain text d → d ≡ record { host = text; port = None })
alone text none = (
  (refl, none),
  λ d is. let told = no_port text d.host d.port none is in same_destination d text None told.0 told.1,
)

pub no_second : (port other : List ℕ) → port ≡ other → IsWithout colon port → ((k : ℕ) × (k < length other) × (get_or other k 0 ≡ colon)) → ⊥
no_second port other same none second = subst (λ (l : List ℕ). IsWithout colon l) same none second.0 second.1 second.2

module _ (text host port : List ℕ) (own : HasOneColon text host port) where
  no_port_with : (h : List ℕ) (p : Option ℕ) → ((x : List ℕ × List ℕ) → HasOneColon text x.0 x.1 → port ≡ x.1) → ((n : ℕ) → IsPort port n → ⊥) → IsPlainWith text h p → ⊥
  no_port_with h None one none is = is.1 (host, port) own
  no_port_with h (Some n) one none is = none n (subst (λ (l : List ℕ). IsPort l n) (sym (one (h, is.0) is.1)) is.2)

  pub no_plain : ((x : List ℕ × List ℕ) → HasOneColon text x.0 x.1 → port ≡ x.1) → ((n : ℕ) → IsPort port n → ⊥) → (d : Destination) → IsPlain text d → ⊥
  no_plain one none d is = no_port_with d.host d.port one none is

module _ (text host port : List ℕ) (n : ℕ) (own : HasOneColon text host port) (one : (x : List ℕ × List ℕ) → HasOneColon text x.0 x.1 → (host ≡ x.0) × (port ≡ x.1)) (is_port : IsPort port n) where
  both : (h : List ℕ) (p : Option ℕ) → IsPlainWith text h p → (h ≡ host) × (p ≡ Some n)
  both h None is = absurd (is.1 (host, port) own)
  both h (Some m) is =
      let same = one (h, is.0) is.1 in
      (sym same.0, ap Some (one_number port m n (subst (λ (l : List ℕ). IsPort l m) (sym same.1) is.2) is_port))

  pub one_plain : IsPlainWith text host (Some n) × ((d : Destination) → IsPlain text d → d ≡ record { host = host; port = Some n })
  one_plain = (
    (port, own, is_port),
    λ d is. let told = both d.host d.port is in same_destination d host (Some n) told.0 told.1,
  )
