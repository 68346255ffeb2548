-- Which keys are those of authorities, line by line.
use Rattle.std.proofs.Common.{◌≡◌, ◌⊎◌, ℕ, List, [], ◌∷◌, ◌++◌, Option, None, Some, option_map, true, false, inl, inr, refl, sym, ap, subst, ◌↔◌, ◌∙◌, append-nil, arith}
use Rattle.std.specs.List.{Any}
use Rattle.sshkey_entries.specs.HostVerdicts.{AreFor, IsAuthority, Lists}
use Rattle.sshkey_entries.specs.Fields.{IsKept}
use Rattle.sshkey_entries.specs.KnownHosts.{KnownHost, CertAuthority}
use Rattle.sshkey_entries.specs.OpenSshLines.{IsHostLine}
use Rattle.sshkey_model.specs.Keys.{Key}
use Rattle.sshkey_public.specs.PublicKeys.{comment_of, public_of}
use Rattle.sshkey_public.specs.declared.public_key.PublicKey.{PublicKey}
use Rattle.sshkey_known_hosts.specs.Verdicts.{AreAuthorities, AreInOrder, IsAuthorityLine, in_front, is_authority_of}
use Rattle.sshkey_known_hosts.specs.HostEntries.{marker_of}
use Rattle.sshkey_known_hosts.specs.declared.marker.Marker.{Marker}
use Rattle.sshkey_known_hosts.specs.declared.marker.Marker.TheVariants as marker
use Rattle.sshkey_known_hosts.proofs.Verdicts.{first, later, either, this, only, same_entry}

pub authority_mark : (m : Option Marker) → is_authority_of m ≡ true → option_map marker_of m ≡ Some CertAuthority
authority_mark (Some marker.CertAuthority) e = refl
authority_mark (Some marker.Revoked) e = cc e
authority_mark None e = cc e

pub other_mark : (m : Option Marker) → is_authority_of m ≡ false → option_map marker_of m ≡ Some CertAuthority → ⊥
other_mark (Some marker.CertAuthority) e same = cc e
other_mark (Some marker.Revoked) e same = cc same
other_mark None e same = cc same

module _ (hmac : List ℕ → List ℕ → List ℕ) (name : List ℕ) where
  -- ---- of a line

  module _ (line : List ℕ) (h : KnownHost) (is : IsHostLine line h) where
    pub no_authority : (h.marker ≡ Some CertAuthority → ⊥) ⊎ (AreFor hmac name h.hosts → ⊥) → IsAuthorityLine hmac name line None
    no_authority why key l =
        let e = same_entry hmac name key line h is (Some CertAuthority) key l in
        elim why [
          | inl other ↦ other e.0
          | inr never ↦ never e.2
        ]

    pub an_authority : (k : PublicKey) → h.key ≡ public_of k → IsKept h.comment (comment_of k) → h.marker ≡ Some CertAuthority → AreFor hmac name h.hosts → IsAuthorityLine hmac name line (Some k)
    an_authority k same comment mark fits = (record { entry = h; read = is; marker_is = mark; key_is = same; is_for = fits }, comment)

  -- ---- in the order of the lines

  front_append : (found : Option PublicKey) (keys more : List PublicKey) → in_front found keys ++ more ≡ in_front found (keys ++ more)
  front_append None keys more = refl
  front_append (Some k) keys more = refl

  in_order : (lines : List (List ℕ)) (keys : List PublicKey) (line : List ℕ) (found : Option PublicKey) → AreInOrder hmac name lines keys → IsAuthorityLine hmac name line found → AreInOrder hmac name (lines ++ (line ∷ [])) (keys ++ in_front found [])
  in_order [] keys line found were is = (found, [], is, refl, ap (λ (ks : List PublicKey). ks ++ in_front found []) were)
  in_order (l ∷ lines) keys line found were is = (
    were.0,
    were.1 ++ in_front found [],
    were.2,
    in_order lines were.1 line found were.3 is,
    ap (λ (ks : List PublicKey). ks ++ in_front found []) were.4 ∙ front_append were.0 were.1 (in_front found []),
  )

  pub no_more : (lines : List (List ℕ)) (keys : List PublicKey) (line : List ℕ) → AreInOrder hmac name lines keys → IsAuthorityLine hmac name line None → AreInOrder hmac name (lines ++ (line ∷ [])) keys
  no_more lines keys line were is = subst (AreInOrder hmac name (lines ++ (line ∷ []))) (append-nil keys) (in_order lines keys line None were is)

  pub one_more : (lines : List (List ℕ)) (keys : List PublicKey) (line : List ℕ) (k : PublicKey) → AreInOrder hmac name lines keys → IsAuthorityLine hmac name line (Some k) → AreInOrder hmac name (lines ++ (line ∷ [])) (keys ++ (k ∷ []))
  one_more lines keys line k were is = in_order lines keys line (Some k) were is

  -- ---- whatever the order

  of_line : (line : List ℕ) (found : Option PublicKey) → IsAuthorityLine hmac name line found → (key : Key) → Any (λ k. public_of k ≡ key) (in_front found []) ↔ IsAuthority hmac name key (line ∷ [])
  of_line line None none key = (λ s. absurd (omega (arith, s.2)), λ s. absurd (none key (only (Lists hmac name (Some CertAuthority) key) line s)))
  of_line line (Some k) one key = (
    λ s. this (Lists hmac name (Some CertAuthority) key) line (subst (λ (x : Key). Lists hmac name (Some CertAuthority) x line) (only (λ (x : PublicKey). public_of x ≡ key) k s) one.0),
    λ s. this (λ (x : PublicKey). public_of x ≡ key) k (sym one.0.key_is ∙ (same_entry hmac name key line one.0.entry one.0.read (Some CertAuthority) key (only (Lists hmac name (Some CertAuthority) key) line s)).1),
  )

  front_is : (found : Option PublicKey) (keys : List PublicKey) → in_front found [] ++ keys ≡ in_front found keys
  front_is found keys = front_append found [] keys

  pub in_any_order : (lines : List (List ℕ)) (keys : List PublicKey) → AreInOrder hmac name lines keys → AreAuthorities hmac name lines keys
  in_any_order [] keys are key = (
    λ s. let none = subst (Any (λ (k : PublicKey). public_of k ≡ key)) are s in absurd (omega (arith, none.2)),
    λ s. absurd (omega (arith, s.2)),
  )
  in_any_order (line ∷ lines) keys are key =
      let here = of_line line are.0 are.2 key in
      let after = in_any_order lines are.1 are.3 key in
      let all : keys ≡ in_front are.0 [] ++ are.1 = are.4 ∙ sym (front_is are.0 are.1) in (
        λ s. elim (either (λ (x : PublicKey). public_of x ≡ key) (in_front are.0 []) are.1 (subst (Any (λ (k : PublicKey). public_of k ≡ key)) all s)) [
          | inl a ↦ first (Lists hmac name (Some CertAuthority) key) (line ∷ []) lines (here.0 a)
          | inr b ↦ later (Lists hmac name (Some CertAuthority) key) (line ∷ []) lines (after.0 b)
        ],
        λ s. subst (Any (λ (k : PublicKey). public_of k ≡ key)) (sym all) (elim (either (Lists hmac name (Some CertAuthority) key) (line ∷ []) lines s) [
          | inl a ↦ first (λ (x : PublicKey). public_of x ≡ key) (in_front are.0 []) are.1 (here.1 a)
          | inr b ↦ later (λ (x : PublicKey). public_of x ≡ key) (in_front are.0 []) are.1 (after.1 b)
        ]),
      )
