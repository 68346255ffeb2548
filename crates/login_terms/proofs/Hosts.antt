-- A text is one host and port, and what is read of both.
use Rattle.std.proofs.Common.{◌≡◌, ◌≢◌, ◌<◌, ℕ, List, ◌∷◌, length, Option, Result, Ok, Err, IfOk, inl, inr, subst}
use Rattle.std.specs.Prelude.{codes}
use Rattle.sshkey_model.specs.Lines.{IsWithout}
use Rattle.sshkey_entries.specs.Answers.{IsTheOne, Tells}
use Rattle.login_terms.specs.Values.{HostAndPort, IsHostAndPort, IsPermitListen, IsPermitOpen, IsPlainHost, MayBeListen, MayBePermit, MayBePort, SplitsHost, colon, opening_bracket, parts_of, permit_of, slash}
use Rattle.login_terms.specs.declared.permits.Permit.{Permit}
use Rattle.sshkey_entries.specs.declared.reading.Reading.{Reading}
use Rattle.sshkey_entries.proofs.OptionItems.{one_as, told_as}
use denote.Ref.{Bor}

abbrev pub Parts : Type 0
Parts = List ℕ × List ℕ

pub same_parts : (a b r s : List ℕ) → a ≡ b → r ≡ s → ◌≡◌ {A = Parts} (a, r) (b, s)
same_parts a b r s e f = λ j. (e j, f j)

pub plain_host : (text : List ℕ) (r : Option (Bor (List ℕ) × Bor (List ℕ))) → ((rest : List ℕ) → text ≢ opening_bracket ∷ rest) → IsTheOne parts_of (λ p. IsPlainHost text p.0 p.1 × (length p.0 < 1025)) r → IsTheOne parts_of (SplitsHost text) r
plain_host text r other told =
    one_as parts_of (λ p. IsPlainHost text p.0 p.1 × (length p.0 < 1025)) (SplitsHost text)
    (λ p is. inr (other, is.0, is.1)) (λ p s. elim s [ inl b ↦ absurd (other b.0 b.1) | inr x ↦ (x.1, x.2) ]) r told

-- ---- permits

pub no_permit : (text : List ℕ) → IsWithout slash text → ((y : Parts) → SplitsHost text y → ⊥) → ((y : HostAndPort) → IsPermitOpen text y → ⊥) × (MayBePermit text → ⊥)
no_permit text plain none = ((λ y is. none is.1.0 is.1.1), λ m. elim m [ inl slashed ↦ slashed plain | inr s ↦ none s.0 s.1 ])

module _ {E : Type 0} (text : List ℕ) where
  pub permit_open : (x : Parts) → IsWithout slash text → SplitsHost text x → ((y : Parts) → SplitsHost text y → y ≡ x) → (r : Result (Reading Permit) E) → IfOk r (Tells permit_of (IsHostAndPort x.0 x.1) (MayBePort x.1)) → IfOk r (Tells permit_of (IsPermitOpen text) (MayBePermit text))
  permit_open x plain split one (Err e) told = tt
  permit_open x plain split one (Ok t) told =
      told_as permit_of (IsHostAndPort x.0 x.1) (IsPermitOpen text) (MayBePort x.1) (MayBePermit text)
      (λ y is. (plain, (x, split, is))) (λ y is. subst (λ (p : Parts). IsHostAndPort p.0 p.1 y) (one is.1.0 is.1.1) is.1.2)
      (λ m. inr (x, split, m)) (λ m. elim m [ inl slashed ↦ absurd (slashed plain) | inr s ↦ subst (λ (p : Parts). MayBePort p.1) (one s.0 s.1) s.2 ]) t told

  pub listen_open : (IsWithout colon text → ⊥) → (r : Result (Reading Permit) E) → IfOk r (Tells permit_of (IsPermitOpen text) (MayBePermit text)) → IfOk r (Tells permit_of (IsPermitListen text) (MayBeListen text))
  listen_open has (Err e) told = tt
  listen_open has (Ok t) told =
      told_as permit_of (IsPermitOpen text) (IsPermitListen text) (MayBePermit text) (MayBeListen text)
      (λ y is. inl (has, is)) (λ y is. elim is [ inl o ↦ o.1 | inr p ↦ absurd (has p.0) ])
      (λ m. inl (has, m)) (λ m. elim m [ inl o ↦ o.1 | inr p ↦ absurd (has p.0) ]) t told

  pub listen_port : IsWithout colon text → (r : Result (Reading Permit) E) → IfOk r (Tells permit_of (IsHostAndPort (codes "*") text) (MayBePort text)) → IfOk r (Tells permit_of (IsPermitListen text) (MayBeListen text))
  listen_port none (Err e) told = tt
  listen_port none (Ok t) told =
      told_as permit_of (IsHostAndPort (codes "*") text) (IsPermitListen text) (MayBePort text) (MayBeListen text)
      (λ y is. inr (none, is)) (λ y is. elim is [ inl o ↦ absurd (o.0 none) | inr p ↦ p.1 ])
      (λ m. inr (none, m)) (λ m. elim m [ inl o ↦ absurd (o.0 none) | inr p ↦ p.1 ]) t told
