-- How the steps of a call that takes no memory refuse a source with a fault.
use Rattle.std.proofs.Common.{◌≡◌, inl, inr, ◌<◌, ◌+◌, ℕ, zero, suc, List, length, Result, Ok, Err, refl, sym, subst, ◌∙◌}
use Rattle.std.specs.Int.{w32}
use Rattle.std.specs.Prelude.{IsOkAnd}
use Rattle.sshkey_model.specs.Reading.{Fault, Length, number_at}
use Rattle.sshkey_model.proofs.CombinedReaders.{ok_is}
use Rattle.sshkey_base.specs.declared.encoding.Error as encoding
use Rattle.sshkey_base.specs.Causes.{Cause, Faulty, encoding_cause}
use Rattle.sshkey_model.specs.Formats.{Format, IsFormat}
use Rattle.sshkey_base.specs.Nested.{PastIs}
use Rattle.sshkey_base.specs.Reading.{Reads, Refuses}
use Rattle.sshkey_base.specs.Source.{Source}
use Rattle.sshkey_model.specs.Overruns.{NoOverrun, OverrunsString, OverrunsThen}
use Rattle.sshkey_base.proofs.Stopping.{read_past}
use Rattle.sshkey_terms.specs.Past.{StopsPastAlways}

-- said of any source, it is said of those with a fault
said : (X : Type 0) {E : Type 0} (why : E → Cause) (overruns : List ℕ → ℕ → Type 0) (b : List ℕ) (m : ℕ) (e : E) → (overruns b m → why e ≡ Faulty Length) → StopsPastAlways {X = X} why overruns b m (Err e)
said X why overruns b zero e h = tt
said X why overruns b (suc m) e h = h

-- and the other way round, where the plain reader refuses
meant : (X : Type 0) {E Y : Type 0} (why : E → Cause) (f : Format Y) → IsFormat f → (s : Source) (e : E) → Refuses s.missing (why e) (f.read s.left) → StopsPastAlways {X = X} why f.overruns s.left s.missing (Err e) → f.overruns s.left s.missing → why e ≡ Faulty Length
meant X why f laws s e h k o = go s.missing refl k
  where
    go : (m : ℕ) → s.missing ≡ m → StopsPastAlways {X = X} why f.overruns s.left m (Err e) → why e ≡ Faulty Length
    go zero is k = let same = h.same is in let met = h.is in let long = laws.lengths s.left s.missing o in cc
    go (suc m) is k = k (rw is at o)

-- no length stands in it
pub past_none : {X E : Type 0} (why : E → Cause) (b : List ℕ) (m : ℕ) (r : Result X E) → StopsPastAlways why NoOverrun b m r
past_none why b zero r = tt
past_none why b (suc m) (Ok x) = tt
past_none why b (suc m) (Err e) = λ o. absurd o

-- a string
pub past_string : {X : Type 0} (s : Source) (r : Result X encoding.Error) → PastIs (λ x y. y ≡ x) s r → StopsPastAlways encoding_cause OverrunsString s.left s.missing r
past_string {X} s r h = go s.missing refl r h
  where
    go : (m : ℕ) → s.missing ≡ m → (r : Result X encoding.Error) → PastIs (λ x y. y ≡ x) s r → StopsPastAlways encoding_cause OverrunsString s.left m r
    go zero is r h = tt
    go (suc m) is (Ok x) h = tt
    go (suc m) is (Err e) h = λ o. by (number_at w32 s.left) refl (rw (← is) at o)
      where
        by : (n : Result (ℕ × List ℕ) Fault) → number_at w32 s.left ≡ n → IsOkAnd n (λ x. length x.1 + s.missing < x.0) → encoding_cause e ≡ Faulty Length
        by (Ok n) at o = let same = h n.0 n.1 at o in rw same refl
        by (Err f) at o = absurd o

module _ {A B : Type 0} (first : Format A) (second : Format B) (p : IsFormat first) (q : IsFormat second) where
  -- the second is refused
  pub past_second : {C : Type 0} (X Z : Type 0) {E : Type 0} (means : C → A) (why : E → Cause) (s t : Source) (x : C) (e : E) → Reads means first.read s x t → Refuses t.missing (why e) (second.read t.left) → StopsPastAlways {X = X} why second.overruns t.left t.missing (Err e) → StopsPastAlways {X = Z} why (OverrunsThen first.overruns first.delimited_at (λ _. second.overruns)) s.left s.missing (Err e)
  past_second X Z means why s t x e r h k = said Z why (OverrunsThen first.overruns first.delimited_at (λ _. second.overruns)) s.left s.missing e go
    where
      passed : (y : Result (A × List ℕ) Fault) → first.delimited_at s.left ≡ y → IsOkAnd y (λ y. second.overruns y.1 s.missing) → second.overruns t.left t.missing
      passed (Ok y) is o =
          let same = p.grammar.same s.left y is in
          let both : Ok y ≡ Ok (means x, t.left) = sym same ∙ r.value in
          rw r.missing (subst (λ (p : A × List ℕ). second.overruns p.1 s.missing) (ok_is y (means x, t.left) both) o)
      passed (Err f) is o = absurd o

      go : OverrunsThen first.overruns first.delimited_at (λ _. second.overruns) s.left s.missing → why e ≡ Faulty Length
      go (inl o) = read_past means first.read first.overruns s t x p.lengths r o
      go (inr o) = meant X why second q t e h k (passed (first.delimited_at s.left) refl o)

pub ruleset past = (past_none, past_string)
