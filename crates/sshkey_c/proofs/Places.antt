-- Hosts and ports, one after the other, as they are laid out and read again.
use Rattle.std.proofs.Common.{◌≡◌, ◌∙◌, ◌<◌, ◌↔◌, ℕ, zero, suc, List, [], ◌∷◌, ◌++◌, length, Option, None, Some, Bool, false, Result, Ok, Err, ap, append-nil, arith, inl, inr, map, refl, subst, sym, true, length-append}
use Rattle.std.specs.Char.{to_ascii_lowercase}
use Rattle.std.specs.List.{AllByRecursion, Any}
use Rattle.std.specs.Int.{to_be_bytes, w16}
use Rattle.sshkey_base.proofs.Lawful.{string_grammar, text_grammar}
use Rattle.sshkey_model.proofs.LawfulReaders.{fits_box, fits_bytes, number_bytes}
use Rattle.sshkey_model.proofs.TextReaders.{box_shows}
use Rattle.sshkey_model.specs.Grammar.{normal_is_spelling}
use Rattle.sshkey_model.specs.Parts.{Fits, bytes, flat}
use Rattle.sshkey_model.specs.Reading.{Fault, string_at}
use Rattle.sshkey_model.specs.Texts.{IsText, string, text_at}
use Rattle.sshkey_terms.specs.Slices.{found_or}
use Rattle.login_terms.specs.Questions.{IsNamed, Listens, Opens}
use Rattle.login_terms.specs.Values.{HostAndPort}
use Rattle.sshkey_c.specs.Grants.{IsPlace, anywhere, permit_strings, places, port_bytes}

-- ---- one string at the front

text_front : (h r : List ℕ) → IsText h → Fits (string h) → text_at (flat (string h) ++ r) ≡ Ok (h, r)
text_front h r is fits = text_grammar.again h (flat (string h)) r (normal_is_spelling h is fits)

string_front : (s r : List ℕ) → Fits (string s) → string_at (flat (string s) ++ r) ≡ Ok (s, r)
string_front s r fits = string_grammar.again s (flat (string s)) r (normal_is_spelling s tt fits)

pair : (a b c d : List ℕ) → ◌≡◌ {A = Result (List ℕ × List ℕ) Fault} (Ok (a, b)) (Ok (c, d)) → (a ≡ c) × (b ≡ d)
pair a b c d e = (ap (λ (r : Result (List ℕ × List ℕ) Fault). (found_or (a, b) r).0) e, ap (λ (r : Result (List ℕ × List ℕ) Fault). (found_or (a, b) r).1) e)

neither : (a b : List ℕ) (f : Fault) → ◌≡◌ {A = Result (List ℕ × List ℕ) Fault} (Ok (a, b)) (Err f) → ⊥
neither a b f e = absurd cc

module _ (all h r : List ℕ) (is : all ≡ flat (string h) ++ r) where
  pub text_taken : (found rest : List ℕ) → IsText h → Fits (string h) → text_at all ≡ Ok (found, rest) → (h ≡ found) × (r ≡ rest)
  text_taken found rest text fits got = pair h r found rest (sym (text_front h r text fits) ∙ ap text_at (sym is) ∙ got)

  pub string_taken : (found rest : List ℕ) → Fits (string h) → string_at all ≡ Ok (found, rest) → (h ≡ found) × (r ≡ rest)
  string_taken found rest fits got = pair h r found rest (sym (string_front h r fits) ∙ ap string_at (sym is) ∙ got)

  pub string_there : (f : Fault) → Fits (string h) → string_at all ≡ Err f → ⊥
  string_there f fits got = neither h r f (sym (string_front h r fits) ∙ ap string_at (sym is) ∙ got)

pub port_fits : (port : Option ℕ) → Fits (string (port_bytes port))
unfolding flat
port_fits None = fits_box (bytes []) (omega arith) (fits_bytes [] refl)
port_fits (Some port) = fits_box (bytes (to_be_bytes w16 port)) (omega arith) (fits_bytes (to_be_bytes w16 port) (number_bytes 2 port))

pub shorter : (all front rest next more s : List ℕ) → all ≡ front ++ rest → rest ≡ next ++ more → next ≡ flat (string s) → length more < length all
shorter all front rest next more s is then string_is =
    omega (arith, ap length is, ap length then, ap length string_is, box_shows (bytes s), length-append front rest, length-append next more)

pub some_is : (x y : Option ℕ) → ◌≡◌ {A = Option (Option ℕ)} (Some x) (Some y) → x ≡ y
some_is x y e = cc

pub none_some : (x : Option ℕ) → ◌≡◌ {A = Option (Option ℕ)} None (Some x) → ⊥
none_some x e = absurd cc

-- ---- what is left of a list

module _ (P : HostAndPort → Type 0) where
  pub nowhere : Any P [] → ⊥
  nowhere any = omega (arith, any.2)

  pub here : (p : HostAndPort) (left : List HostAndPort) → P p → Any P (p ∷ left)
  here p left holds = (zero, p, omega arith, refl, holds)

  pub later : (p : HostAndPort) (left : List HostAndPort) → Any P left → Any P (p ∷ left)
  later p left any = (suc any.0, any.1, omega (arith, any.2), any.3, any.4)

  pub not_here : (p : HostAndPort) (left : List HostAndPort) → (P p → ⊥) → Any P (p ∷ left) → Any P left
  not_here p left none (zero, q, l, is, holds) = absurd (none (subst P (sym is) holds))
  not_here p left none (suc k, q, l, is, holds) = (k, q, omega (arith, l), is, holds)

pub no_bytes : (left : List HostAndPort) → length (permit_strings left) ≡ 0 → left ≡ []
unfolding flat
no_bytes [] e = refl
no_bytes (p ∷ left) e = absurd (omega (arith, e))

-- What stands next, where bytes are left, and what is asked of it.
pub record Next (P : HostAndPort → Type 0) (all : List HostAndPort) (rest : List ℕ) : Type 0 where
  pub first : HostAndPort
  pub more : List HostAndPort
  pub is : IsPlace first
  pub each : AllByRecursion IsPlace more
  pub bytes : rest ≡ flat (string first.host) ++ (flat (string (port_bytes first.port)) ++ permit_strings more)
  pub same : Any P all ↔ Any P (first ∷ more)

pub next : (P : HostAndPort → Type 0) (all : List HostAndPort) (rest : List ℕ) (left : List HostAndPort) → AllByRecursion IsPlace left → rest ≡ permit_strings left → (Any P all ↔ Any P left) → (length rest ≡ 0 → ⊥) → Next P all rest
next P all rest [] each is same some = absurd (some (ap length is))
next P all rest (p ∷ more) each is same some = record { first = p; more = more; is = each.0; each = each.1; bytes = is; same = same }

-- ---- where nothing is named

module _ (P : HostAndPort → Type 0) (port : ℕ) (any : P anywhere) where
  pub of_terms : (forwarding : Bool) (named : List HostAndPort) → ((port < 65536) × Any P (places forwarding named)) ↔ ((forwarding ≡ true) × (port < 65536) × IsNamed P named)
  of_terms false named = ((λ x. absurd (nowhere P x.1)), (λ y. absurd cc))
  of_terms true [] = ((λ x. (refl, x.0, inl refl)), (λ y. (y.1, here P anywhere [] any)))
  of_terms true (p ∷ named) = ((λ x. (refl, x.0, inr x.1)), (λ y. (y.1, elim y.2 [ inl none ↦ absurd cc | inr some ↦ some ])))

pub any_opens : (host : List ℕ) (port : ℕ) → Opens anywhere.host anywhere.port host port
any_opens host port = (tt, inl refl)

pub any_listens : (host : List ℕ) (port : ℕ) → Listens anywhere.host anywhere.port host port
any_listens host port = (tt, (map to_ascii_lowercase host, [], sym (append-nil (map to_ascii_lowercase host)), inl refl, refl))
