-- The verdict on a line, and on the lines of two parts.
use Rattle.std.proofs.Common.{◌≡◌, ◌⊎◌, ◌↔◌, IsTrue, Bool, true, false, option_map, ℕ, zero, suc, ◌+◌, ◌-◌, ◌<◌, List, [], ◌∷◌, ◌++◌, Option, None, Some, get_or, length, inl, inr, refl, sym, ap, subst, ◌∙◌, arith}
use Rattle.std.proofs.lemmas.Bool.{cases_lt}
use Rattle.std.proofs.lemmas.List.{length-append, get_or_append_left, get_or-append-add, get_or-append_right}
use Rattle.std.specs.List.{Any}
use Rattle.sshkey_model.specs.Keys.{Key}
use Rattle.sshkey_entries.specs.Entries.{IsNoEntry}
use Rattle.sshkey_entries.specs.HostVerdicts.{AreFor, Lists, HidesEntry, IsForOthers, IsRevoked, HidesSome, IsListed, IsKnown, IsKnownBy}
use Rattle.sshkey_entries.specs.KnownHosts as known
use Rattle.sshkey_entries.specs.KnownHosts.{Hosts, KnownHost}
use Rattle.sshkey_entries.specs.OpenSshLines.{IsHostLine, IsOtherHostLine}
use Rattle.sshkey_entries.proofs.OneOpenSshLine.{one_host_line}
use Rattle.sshkey_entries.proofs.OtherKeys.{one_other_line, other_line_none}
use Rattle.sshkey_known_hosts.specs.HostEntries.{marker_of}
use Rattle.sshkey_known_hosts.specs.Verdicts.{IsVerdict, marked_verdict_of, max_severity_of}
use Rattle.sshkey_known_hosts.specs.declared.marker.Marker.{Marker}
use Rattle.sshkey_known_hosts.specs.declared.marker.Marker.TheVariants as marker
use Rattle.sshkey_known_hosts.specs.declared.verdict.Verdict.{Verdict}
use Rattle.sshkey_known_hosts.specs.declared.verdict.Verdict.TheVariants.{Revoked, Unreadable, Trusted, Changed, Unknown}
use Rattle.sshkey_known_hosts.proofs.HostCuts.{lists_no_other, lists_none}

-- ---- of two lists

module _ {X : Type 0} (P : X → Type 0) (xs ys : List X) where
  pub first : Any P xs → Any P (xs ++ ys)
  first s = (s.0, s.1, omega (arith, s.2, length-append xs ys), get_or_append_left xs ys s.1 s.0 s.2 ∙ s.3, s.4)

  pub later : Any P ys → Any P (xs ++ ys)
  later s = (length xs + s.0, s.1, omega (arith, s.2, length-append xs ys), get_or-append-add xs ys s.0 s.1 ∙ s.3, s.4)

  pub either : Any P (xs ++ ys) → Any P xs ⊎ Any P ys
  either s = elim (cases_lt s.0 (length xs)) [
    | inl less ↦ inl (s.0, s.1, less, sym (get_or_append_left xs ys s.1 s.0 less) ∙ s.3, s.4)
    | inr above ↦ inr (s.0 - length xs, s.1, omega (arith, s.2, above, length-append xs ys), sym (get_or-append_right xs ys (length xs) s.0 s.1 refl above) ∙ s.3, s.4)
  ]

  neither : (Any P xs → ⊥) → (Any P ys → ⊥) → Any P (xs ++ ys) → ⊥
  neither x y s = elim (either s) [
    | inl a ↦ x a
    | inr b ↦ y b
  ]

-- ---- of one line

module _ {X : Type 0} (P : X → Type 0) (line : X) where
  pub this : P line → Any P (line ∷ [])
  this p = (0, line, omega arith, refl, p)

  by_place : (k : ℕ) (x : X) → k < length (line ∷ []) → get_or (line ∷ []) k x ≡ x → P x → P line
  by_place zero x l e p = subst P (sym e) p
  by_place (suc k) x l e p = absurd (omega (arith, l))

  pub only : Any P (line ∷ []) → P line
  only s = by_place s.0 s.1 s.2 s.3 s.4

-- ---- verdicts

pub no_lines : (lines : List (List ℕ)) → (0 < length lines → ⊥) → lines ≡ []
no_lines [] none = refl
no_lines (line ∷ lines) none = absurd (none (omega arith))

module _ (hmac : List ℕ → List ℕ → List ℕ) (name : List ℕ) (key : Key) where
  known_one : (lines : List (List ℕ)) → IsListed hmac name key lines → IsKnown hmac name lines
  known_one lines s = (s.0, s.1, s.2, s.3, inl (key, s.4))

  pub one_verdict : (lines : List (List ℕ)) (v w : Verdict) → IsVerdict hmac name key lines v → IsVerdict hmac name key lines w → v ≡ w
  one_verdict lines Revoked Revoked a b = refl
  one_verdict lines Revoked w a b = absurd (b.0 a)
  one_verdict lines v Revoked a b = absurd (a.0 b)
  one_verdict lines Unreadable Unreadable a b = refl
  one_verdict lines Unreadable w a b = absurd (b.1 a.1)
  one_verdict lines v Unreadable a b = absurd (a.1 b.1)
  one_verdict lines Trusted Trusted a b = refl
  one_verdict lines Trusted Changed a b = absurd (b.2 a.2)
  one_verdict lines Trusted Unknown a b = absurd (b.2 (known_one lines a.2))
  one_verdict lines Changed Trusted a b = absurd (a.2 b.2)
  one_verdict lines Unknown Trusted a b = absurd (a.2 (known_one lines b.2))
  one_verdict lines Changed Changed a b = refl
  one_verdict lines Changed Unknown a b = absurd (b.2 a.3)
  one_verdict lines Unknown Changed a b = absurd (a.2 b.3)
  one_verdict lines Unknown Unknown a b = refl

  pub nothing : IsVerdict hmac name key [] Unknown
  nothing = (λ s. omega (arith, s.2), λ s. omega (arith, s.2), λ s. omega (arith, s.2))

  module _ (xs ys : List (List ℕ)) where
    no_revoked : (IsRevoked hmac name key xs → ⊥) → (IsRevoked hmac name key ys → ⊥) → IsRevoked hmac name key (xs ++ ys) → ⊥
    no_revoked = neither (Lists hmac name (Some known.Revoked) key) xs ys

    none_hidden : (HidesSome hmac name xs → ⊥) → (HidesSome hmac name ys → ⊥) → HidesSome hmac name (xs ++ ys) → ⊥
    none_hidden = neither (HidesEntry hmac name) xs ys

    none_listed : (IsListed hmac name key xs → ⊥) → (IsListed hmac name key ys → ⊥) → IsListed hmac name key (xs ++ ys) → ⊥
    none_listed = neither (Lists hmac name None key) xs ys

    none_known : (IsKnown hmac name xs → ⊥) → (IsKnown hmac name ys → ⊥) → IsKnown hmac name (xs ++ ys) → ⊥
    none_known = neither (IsKnownBy hmac name) xs ys

    pub both : (v w : Verdict) → IsVerdict hmac name key xs v → IsVerdict hmac name key ys w → IsVerdict hmac name key (xs ++ ys) (max_severity_of v w)
    both Revoked w a b = first (Lists hmac name (Some known.Revoked) key) xs ys a
    both v Revoked a b = later (Lists hmac name (Some known.Revoked) key) xs ys b
    both Unreadable w a b = (no_revoked a.0 b.0, first (HidesEntry hmac name) xs ys a.1)
    both v Unreadable a b = (no_revoked a.0 b.0, later (HidesEntry hmac name) xs ys b.1)
    both Trusted w a b = (no_revoked a.0 b.0, none_hidden a.1 b.1, first (Lists hmac name None key) xs ys a.2)
    both v Trusted a b = (no_revoked a.0 b.0, none_hidden a.1 b.1, later (Lists hmac name None key) xs ys b.2)
    both Changed Changed a b = (no_revoked a.0 b.0, none_hidden a.1 b.1, none_listed a.2 b.2, first (IsKnownBy hmac name) xs ys a.3)
    both Changed Unknown a b = (no_revoked a.0 b.0, none_hidden a.1 b.1, none_listed a.2 (λ s. b.2 (known_one ys s)), first (IsKnownBy hmac name) xs ys a.3)
    both Unknown Changed a b = (no_revoked a.0 b.0, none_hidden a.1 b.1, none_listed (λ s. a.2 (known_one xs s)) b.2, later (IsKnownBy hmac name) xs ys b.3)
    both Unknown Unknown a b = (no_revoked a.0 b.0, none_hidden a.1 b.1, none_known a.2 b.2)

  -- ---- the verdict on an entry

  module _ (line : List ℕ) (h : KnownHost) (is : IsHostLine line h) where
    pub same_entry : (m : Option known.Marker) (k : Key) → Lists hmac name m k line → (h.marker ≡ m) × (h.key ≡ k) × AreFor hmac name h.hosts
    same_entry m k l =
        let same = one_host_line line h l.entry is l.read in (
          ap (λ (x : KnownHost). x.marker) same ∙ l.marker_is,
          ap (λ (x : KnownHost). x.key) same ∙ l.key_is,
          subst (λ (x : KnownHost). AreFor hmac name x.hosts) (sym same) l.is_for,
        )

    pub listed : (m : Option known.Marker) (k : Key) → h.marker ≡ m → h.key ≡ k → AreFor hmac name h.hosts → Lists hmac name m k line
    listed m k mark key fits = record { entry = h; read = is; marker_is = mark; key_is = key; is_for = fits }

    not_hidden : HidesSome hmac name (line ∷ []) → ⊥
    not_hidden s = (only (HidesEntry hmac name) line s).0 h is

    pub not_listed : (m : Option known.Marker) (k : Key) → ((h.marker ≡ m) → (h.key ≡ k) → AreFor hmac name h.hosts → ⊥) → Any (Lists hmac name m k) (line ∷ []) → ⊥
    not_listed m k never s = let e = same_entry m k (only (Lists hmac name m k) line s) in never e.0 e.1 e.2

    not_known : ((h.marker ≡ None) → AreFor hmac name h.hosts → ⊥) → IsKnown hmac name (line ∷ []) → ⊥
    not_known never s = elim (only (IsKnownBy hmac name) line s) [
      | inl one ↦ let e = same_entry None one.0 one.1 in never e.0 e.2
      | inr other ↦ other_line_none line None other.hosts other.read h is
    ]

    pub revoked : h.marker ≡ Some known.Revoked → h.key ≡ key → AreFor hmac name h.hosts → IsVerdict hmac name key (line ∷ []) Revoked
    revoked mark same fits = this (Lists hmac name (Some known.Revoked) key) line (listed (Some known.Revoked) key mark same fits)

    pub other_revoked : h.marker ≡ Some known.Revoked → (h.key ≡ key → ⊥) → IsVerdict hmac name key (line ∷ []) Unknown
    other_revoked mark other = (not_listed (Some known.Revoked) key (λ _ same _. other same), not_hidden, not_known (λ none _. cc (sym mark ∙ none)))

    pub authority : h.marker ≡ Some known.CertAuthority → IsVerdict hmac name key (line ∷ []) Unknown
    authority mark = (not_listed (Some known.Revoked) key (λ other _ _. cc (sym mark ∙ other)), not_hidden, not_known (λ none _. cc (sym mark ∙ none)))

    pub trusted : h.marker ≡ None → h.key ≡ key → AreFor hmac name h.hosts → IsVerdict hmac name key (line ∷ []) Trusted
    trusted mark same fits = (not_listed (Some known.Revoked) key (λ other _ _. cc (sym mark ∙ other)), not_hidden, this (Lists hmac name None key) line (listed None key mark same fits))

    pub changed : h.marker ≡ None → (h.key ≡ key → ⊥) → AreFor hmac name h.hosts → IsVerdict hmac name key (line ∷ []) Changed
    changed mark other fits = (
      not_listed (Some known.Revoked) key (λ revoked _ _. cc (sym mark ∙ revoked)),
      not_hidden,
      not_listed None key (λ _ same _. other same),
      this (IsKnownBy hmac name) line (inl (h.key, listed None h.key mark refl fits)),
    )

    pub by_marker : (m : Option Marker) (same : Bool) → h.marker ≡ option_map marker_of m → IsTrue same ↔ (h.key ≡ key) → AreFor hmac name h.hosts → IsVerdict hmac name key (line ∷ []) (marked_verdict_of m same)
    by_marker (Some marker.Revoked) true e k fits = revoked e (k.0 refl) fits
    by_marker (Some marker.Revoked) false e k fits = other_revoked e (λ s. cc (k.1 s))
    by_marker (Some marker.CertAuthority) true e k fits = authority e
    by_marker (Some marker.CertAuthority) false e k fits = authority e
    by_marker None true e k fits = trusted e (k.0 refl) fits
    by_marker None false e k fits = changed e (λ s. cc (k.1 s)) fits

  -- ---- and on a line that is none

  module _ (line : List ℕ) (none : IsNoEntry IsHostLine line) where
    pub none_lists : (m : Option known.Marker) (k : Key) → Any (Lists hmac name m k) (line ∷ []) → ⊥
    none_lists m k s = let l = only (Lists hmac name m k) line s in none l.entry l.read

    pub hides : (HidesEntry hmac name line) → IsVerdict hmac name key (line ∷ []) Unreadable
    hides fits = (none_lists (Some known.Revoked) key, this (HidesEntry hmac name) line fits)

  -- ---- and on a line for others

  pub passed_over : (line : List ℕ) → IsForOthers hmac name line → IsVerdict hmac name key (line ∷ []) Unknown
  passed_over line f = (
    λ s. lists_none hmac name line f (Some known.Revoked) key (only (Lists hmac name (Some known.Revoked) key) line s),
    λ s. (only (HidesEntry hmac name) line s).1 f,
    λ s. elim (only (IsKnownBy hmac name) line s) [
      | inl one ↦ lists_none hmac name line f None one.0 one.1
      | inr other ↦ lists_no_other hmac name line f None other
    ],
  )

  -- ---- and on one of a key whose kind is none here

  module _ (line : List ℕ) (m : Option known.Marker) (hosts : Hosts) (is : IsOtherHostLine line m hosts) where
    shown : HidesSome hmac name (line ∷ []) → ⊥
    shown s = (only (HidesEntry hmac name) line s).2 (m, hosts, is)

    lists_nothing : (n : Option known.Marker) (k : Key) → Any (Lists hmac name n k) (line ∷ []) → ⊥
    lists_nothing = none_lists line (other_line_none line m hosts is)

    not_other : ((m ≡ None) → AreFor hmac name hosts → ⊥) → IsKnown hmac name (line ∷ []) → ⊥
    not_other never s = elim (only (IsKnownBy hmac name) line s) [
      | inl one ↦ other_line_none line m hosts is one.1.entry one.1.read
      | inr other ↦
          let same = one_other_line line m None hosts other.hosts is other.read in
          never same.0 (subst (AreFor hmac name) (sym same.1) other.is_for)
    ]

    other_marked : (n : known.Marker) → m ≡ Some n → IsVerdict hmac name key (line ∷ []) Unknown
    other_marked n mark = (lists_nothing (Some known.Revoked) key, shown, not_other (λ none _. cc (sym mark ∙ none)))

    pub by_other_marker : (n : Option Marker) → m ≡ option_map marker_of n → AreFor hmac name hosts → IsVerdict hmac name key (line ∷ []) (marked_verdict_of n false)
    by_other_marker (Some marker.Revoked) e fits = other_marked known.Revoked e
    by_other_marker (Some marker.CertAuthority) e fits = other_marked known.CertAuthority e
    by_other_marker None e fits = (
      lists_nothing (Some known.Revoked) key,
      shown,
      lists_nothing None key,
      this (IsKnownBy hmac name) line (inr (record { hosts = hosts; read = subst (λ (n : Option known.Marker). IsOtherHostLine line n hosts) e is; is_for = fits })),
    )
