-- Tests that compute what may be forwarded, for worked examples.
use Rattle.std.proofs.Common.{◌≡◌, ◌∙◌, ◌<◌, ℕ, List, [], ◌∷◌, length, Bool, true, false, ◌==◌, ◌&&◌, ◌||◌, Option, Some, None, ap, map, sym, arith, refl}
use Rattle.std.specs.Prelude.{codes, nat_lt}
use Rattle.std.specs.Bool.{Decides}
use Rattle.std.specs.Char.{to_ascii_lowercase}
use Rattle.std.specs.List.{list_any}
use Rattle.std.specs.Str.{bytes_eq}
use Rattle.std.proofs.lemmas.Bool.Decides.{Decides-and, Decides-eqb, Decides-like, Decides-ltb, Decides-or}
use Rattle.std.proofs.lemmas.Slice.Eq.{bytes_eq-Decides}
use Rattle.sshkey_matching.proofs.PatternTests.{decides_any, decides_match, matches}
use Rattle.login_terms.specs.Questions.{IsNamed, IsPortOf, Listens, MayListen, MayOpen, Opens}
use Rattle.login_terms.specs.Options.{Terms}
use Rattle.login_terms.specs.Values.{HostAndPort}

-- ---- one that is named

abbrev is_port : Option ℕ → ℕ → Bool
is_port None port = true
is_port (Some named) port = named == port

decides_port : (named : Option ℕ) (port : ℕ) → Decides (is_port named port) (IsPortOf named port)
decides_port None port = (λ e. tt, λ u. refl)
decides_port (Some named) port = Decides-eqb named port

abbrev opens : List ℕ → ℕ → HostAndPort → Bool
opens host port p = is_port p.port port && (bytes_eq p.host (codes "*") || bytes_eq p.host host)

decides_opens : (host : List ℕ) (port : ℕ) (p : HostAndPort) → Decides (opens host port p) (Opens p.host p.port host port)
decides_opens host port p = Decides-and _ _ (decides_port p.port port) (Decides-or _ _ (bytes_eq-Decides p.host (codes "*")) (bytes_eq-Decides p.host host))

abbrev listens : List ℕ → ℕ → HostAndPort → Bool
listens host port p = is_port p.port port && matches (λ c. c) p.host (map to_ascii_lowercase host)

decides_listens : (host : List ℕ) (port : ℕ) (p : HostAndPort) → Decides (listens host port p) (Listens p.host p.port host port)
decides_listens host port p = Decides-and _ _ (decides_port p.port port) (decides_match (λ c. c) p.host (map to_ascii_lowercase host))

-- ---- all that are

nobody : (named : List HostAndPort) → length named ≡ 0 → named ≡ []
nobody [] e = refl
nobody (p ∷ named) e = absurd (omega (arith, e))

abbrev pub permits : (HostAndPort → Bool) → Bool → ℕ → List HostAndPort → Bool
permits test forwarding port named = forwarding && (nat_lt port 65536 && ((length named == 0) || list_any test named))

module _ (test : HostAndPort → Bool) (Holds : HostAndPort → Type 0) (each : (p : HostAndPort) → Decides (test p) (Holds p)) (forwarding : Bool) (port : ℕ) (named : List HostAndPort) where
  decides : Decides (permits test forwarding port named) ((forwarding ≡ true) × (port < 65536) × IsNamed Holds named)
  decides =
      Decides-like (permits test forwarding port named) (λ b. (b.0, b.1.0, b.1.1)) (λ is. (is.0, (is.1, is.2)))
      (Decides-and _ _ (λ e. e, λ e. e) (Decides-and _ _ (Decides-ltb port 65536) (Decides-or _ _ (Decides-like (length named == 0) (nobody named) (ap length) (Decides-eqb (length named) 0)) (decides_any test Holds each named))))

  no : permits test forwarding port named ≡ false → (forwarding ≡ true) × (port < 65536) × IsNamed Holds named → ⊥
  no e is = let never : false ≡ true = sym e ∙ decides.1 is in absurd cc

module _ (t : Terms) (host : List ℕ) (port : ℕ) where
  pub opened : permits (opens host port) t.permissions.port_forwarding port t.permit_open ≡ true → MayOpen t host port
  opened e = (decides (opens host port) (λ p. Opens p.host p.port host port) (decides_opens host port) t.permissions.port_forwarding port t.permit_open).0 e

  pub not_opened : permits (opens host port) t.permissions.port_forwarding port t.permit_open ≡ false → MayOpen t host port → ⊥
  not_opened e = no (opens host port) (λ p. Opens p.host p.port host port) (decides_opens host port) t.permissions.port_forwarding port t.permit_open e

  pub listened : permits (listens host port) t.permissions.port_forwarding port t.permit_listen ≡ true → MayListen t host port
  listened e = (decides (listens host port) (λ p. Listens p.host p.port host port) (decides_listens host port) t.permissions.port_forwarding port t.permit_listen).0 e

  pub not_listened : permits (listens host port) t.permissions.port_forwarding port t.permit_listen ≡ false → MayListen t host port → ⊥
  not_listened e = no (listens host port) (λ p. Listens p.host p.port host port) (decides_listens host port) t.permissions.port_forwarding port t.permit_listen e
