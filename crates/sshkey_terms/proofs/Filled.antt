-- A number of values, with a byte each.
use Rattle.std.proofs.Common.{◌≡◌, ◌⊎◌, ◌≤◌, ◌<◌, ◌+◌, ℕ, List, length, IsOk, Result, Ok, Err, inl, inr, refl, arith}
use Rattle.std.proofs.lemmas.Bool.{cases_lt, le-ltb, lt-ltb}
use Rattle.std.proofs.lemmas.Result.{err_from_is_err_and}
use Rattle.sshkey_model.specs.Reading.{Fault, Length}
use Rattle.sshkey_base.specs.Causes.{Cause, Faulty}
use Rattle.sshkey_model.specs.Formats.{Format, IsFormat}
use Rattle.sshkey_base.specs.Reading.{Reads, IsRefused}
use Rattle.sshkey_base.specs.Source.{Source, announced_len}
use Rattle.sshkey_base.specs.Stops.{RanOut, Stopped}
use Rattle.sshkey_base.proofs.Stopping.{not_taken, step_ok}
use Rattle.sshkey_model.specs.Counted.{NeedsCounted, NeedsValues, OverrunsCounted, OverrunsValues, filled, times_at, values_at}
use Rattle.sshkey_terms.proofs.CountedLists.{values_lengths, values_same}

module _ {A : Type 0} (f : Format A) (laws : IsFormat f) (n : ℕ) (s : Source) where
  -- ---- too few bytes

  length_refused : (c : Cause) → values_at f.read n s.left ≡ Err Length → c ≡ Faulty Length → IsRefused s.missing c (values_at f.read n s.left)
  length_refused c e is = record { fault = λ other sound. rw e is }

  length_stopped : (c : Cause) → values_at f.read n s.left ≡ Err Length → c ≡ Faulty Length → Stopped c (values_at f.delimited_at n) (NeedsCounted f n) (OverrunsCounted f n) s
  length_stopped c e is = record { takes = λ ok. not_taken (values_at f.read n s.left) Length e (also_read (values_at f.delimited_at n s.left) refl ok); past = λ o. inl is }
    where
      also_read : (r : Result (List A × List ℕ) Fault) → values_at f.delimited_at n s.left ≡ r → IsOk r → IsOk (values_at f.read n s.left)
      also_read (Ok x) is ok = rw (values_same laws.grammar n s.left x is) refl
      also_read (Err fault) is ok = absurd cc

  pub few_refused : (c : Cause) → announced_len s < n → c ≡ Faulty Length → IsRefused s.missing c (values_at f.read n s.left)
  few_refused c lt is = length_refused c (values_lengths f laws n s.left s.missing (inl lt)) is

  pub few_stopped : (c : Cause) → announced_len s < n → c ≡ Faulty Length → Stopped c (values_at f.delimited_at n) (NeedsCounted f n) (OverrunsCounted f n) s
  few_stopped c lt is = length_stopped c (values_lengths f laws n s.left s.missing (inl lt)) is

  -- ---- a value is refused

  pub inner_refused : (c : Cause) → n ≤ announced_len s → IsRefused s.missing c (times_at f.read n s.left) → IsRefused s.missing c (values_at f.read n s.left)
  unfolding values_at
  inner_refused c le h = record {
    fault = λ other sound.
        let x = err_from_is_err_and (times_at f.read n s.left) (h.fault other sound) in
        rw (le-ltb (length s.left) n (omega (arith, le, sound)), x.1) x.2;
  }

  pub inner_stopped : (c : Cause) → n ≤ announced_len s → Stopped c (times_at f.delimited_at n) (NeedsValues f n) (OverrunsValues f n) s → Stopped c (values_at f.delimited_at n) (NeedsCounted f n) (OverrunsCounted f n) s
  unfolding values_at
  inner_stopped c le h = record {
    takes = λ ok. elim (cases_lt (length s.left) n) [
      | inl lt ↦ not_taken (values_at f.delimited_at n s.left) Length (rw (lt-ltb (length s.left) n lt) refl) ok
      | inr ge ↦
          let inner : IsOk (times_at f.delimited_at n s.left) = step_ok (times_at f.delimited_at n s.left) (filled n s.left) (rw (le-ltb (length s.left) n ge) at ok) in
          more (h.takes inner)
    ];
    past = go;
  }
    where
      more : RanOut c (NeedsValues f n) s → RanOut c (NeedsCounted f n) s
      more m = record { memory = m.memory; needed = (le, m.needed) }

      go : OverrunsCounted f n s.left s.missing → (c ≡ Faulty Length) ⊎ RanOut c (NeedsCounted f n) s
      go (inl o) = absurd (omega (arith, o, le))
      go (inr o) = elim (h.past o) [
        | inl is ↦ inl is
        | inr m ↦ inr (more m)
      ]

  -- ---- the values were read

  module _ {V : Type 0} (means : V → List A) (v : V) (t : Source) (h : Reads means (times_at f.read n) s v t) where
    short_is : length s.left < length t.left + n → values_at f.read n s.left ≡ Err Length
    unfolding values_at
    short_is short = elim (cases_lt (length s.left) n) [
      | inl lt ↦ rw (lt-ltb (length s.left) n lt) refl
      | inr ge ↦ rw (le-ltb (length s.left) n ge, h.value, lt-ltb (length s.left) (length t.left + n) short) refl
    ]

    pub short_refused : (c : Cause) → length s.left < length t.left + n → c ≡ Faulty Length → IsRefused s.missing c (values_at f.read n s.left)
    short_refused c short is = length_refused c (short_is short) is

    pub short_stopped : (c : Cause) → length s.left < length t.left + n → c ≡ Faulty Length → Stopped c (values_at f.delimited_at n) (NeedsCounted f n) (OverrunsCounted f n) s
    short_stopped c short is = length_stopped c (short_is short) is

    pub filled_reads : length t.left + n ≤ length s.left → Reads means (values_at f.read n) s v t
    unfolding values_at
    filled_reads long = record {
      value = rw (le-ltb (length s.left) n (omega (arith, long)), h.value, le-ltb (length s.left) (length t.left + n) long) refl;
      missing = h.missing;
      outer = h.outer;
    }
