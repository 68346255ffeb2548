-- What is decided in each row of a table of worked examples.
use Rattle.std.proofs.Common.{◌≡◌, Bool, true, false, not, List, [], ◌∷◌, map, drop, slice_index_or, option_map, Result, Ok, Err, refl, sym, ap, subst, ◌∙◌}
use Rattle.std.specs.List.{All, list_all}
use Rattle.std.proofs.lemmas.Bool.Decides.{Decides-not}
use Rattle.std.proofs.lemmas.List.Elements.{All-nil, All-cons, All-weaker}
use Rattle.sshkey_matching.proofs.PatternTests.{decides_all}
use Rattle.sshkey_matching.specs.AskedExamples.{NoneDecided, Question}
use Rattle.sshkey_matching.specs.AddressExamples.{AllComeFrom, AllDecided, NoneComeFrom, Row, Source, lent}
use Rattle.sshkey_matching.specs.FromLists.{DecidesFrom}
use Rattle.sshkey_matching.specs.SourceAddresses.{MayComeFrom}
use Rattle.sshkey_matching.specs.declared.from.FromFault.{FromFault}
use Rattle.sshkey_matching.proofs.AddressTests.{decided, decides_may_come, from_answer, may_come_from, only}

pub same_each : {R X : Type 0} (f g : R → X) (rows : List R) → map f rows ≡ map g rows → All (λ r. f r ≡ g r) rows
same_each f g [] e = All-nil (λ r. f r ≡ g r)
same_each f g (r ∷ rows) e = All-cons (λ r. f r ≡ g r) r rows (ap (λ l. slice_index_or l 0 (f r)) e) (same_each f g rows (ap (drop 1) e))

pub each_decided : (rows : List Row) → map (λ (r : Row). from_answer r.0 (option_map lent r.1) r.2) rows ≡ map (λ (r : Row). r.3) rows → AllDecided rows
each_decided rows e =
    All-weaker (λ (r : Row). from_answer r.0 (option_map lent r.1) r.2 ≡ r.3) (λ (r : Row). DecidesFrom r.0 (option_map lent r.1) r.2 r.3)
    (λ r same. subst (DecidesFrom r.0 (option_map lent r.1) r.2) same (decided r.0 (option_map lent r.1) r.2)) rows
    (same_each (λ (r : Row). from_answer r.0 (option_map lent r.1) r.2) (λ (r : Row). r.3) rows e)

abbrev pub may : Source → Bool
may r = may_come_from (option_map lent r.0) r.1

pub each_comes : (rows : List Source) → list_all may rows ≡ true → AllComeFrom rows
each_comes rows e = (decides_all may (λ r. MayComeFrom (option_map lent r.0) r.1) (λ r. decides_may_come (option_map lent r.0) r.1) rows).0 e

pub none_comes : (rows : List Source) → list_all (λ r. not (may r)) rows ≡ true → NoneComeFrom rows
none_comes rows e = (decides_all (λ r. not (may r)) (λ r. ¬ MayComeFrom (option_map lent r.0) r.1) (λ r. Decides-not _ (decides_may_come (option_map lent r.0) r.1)) rows).0 e

abbrev is_ok_of : Bool → Result Bool FromFault → Bool
is_ok_of true (Ok lets) = lets
is_ok_of false (Ok lets) = not lets
is_ok_of true (Err e) = false
is_ok_of false (Err e) = false

of_itself : (lets : Bool) → is_ok_of lets (Ok lets) ≡ true
of_itself true = refl
of_itself false = refl

pub never : false ≡ true → ⊥
never e = cc

pub none_decided : (lets : Bool) (rows : List Question) → list_all (λ (r : Question). not (is_ok_of lets (from_answer r.0 (option_map lent r.1) r.2))) rows ≡ true → NoneDecided lets rows
none_decided lets rows e =
    All-weaker (λ (r : Question). not (is_ok_of lets (from_answer r.0 (option_map lent r.1) r.2)) ≡ true) (λ (r : Question). ¬ DecidesFrom r.0 (option_map lent r.1) r.2 (Ok lets))
    (λ r no d. never (sym (ap not (ap (is_ok_of lets) (only r.0 (option_map lent r.1) r.2 lets d) ∙ of_itself lets)) ∙ no)) rows
    ((decides_all (λ (r : Question). not (is_ok_of lets (from_answer r.0 (option_map lent r.1) r.2))) (λ (r : Question). not (is_ok_of lets (from_answer r.0 (option_map lent r.1) r.2)) ≡ true) (λ r. (λ t. t, λ t. t)) rows).0 e)
