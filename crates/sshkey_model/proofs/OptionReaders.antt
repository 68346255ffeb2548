-- Options are read as they are spelled.
use Rattle.std.proofs.Common.{◌≡◌, ℕ, ◌<◌, Option, Some, None, true, cond, List, [], ◌∷◌, length, Result, Ok, Err, refl, sym, ap, subst, ◌∙◌, arith}
use Rattle.std.proofs.lemmas.Str.{is_utf8-from_IsUtf8, IsUtf8-nil}
use Rattle.sshkey_model.specs.Parts.{Parts, ◌&◌, box, each, flat, Fits, InRange, BoxesFit}
use Rattle.sshkey_model.specs.Reading.{Fault, FormatEncoding, ◌>>=◌, end_of, whole, checked_whole, list_whole, to_end, IsChain}
use Rattle.sshkey_model.specs.Grammar.{IsSpelled, spelled, Checks}
use Rattle.sshkey_model.specs.Texts.{string, IsText, text_format}
use Rattle.sshkey_model.specs.Terms.{tested}
use Rattle.sshkey_model.specs.Options.{CertificateOption, Nesting, Plain, Nested, option_value, option, each_option, options, is_after, Rises, AreOptions, HasNesting, HasOptionPlaces, may_follow, name_before, nesting_of, spelled_text, spelled_value_format, spelled_option_format, option_before, option_at, firsts, seconds, apart, options_at}
use Rattle.sshkey_model.proofs.CombinedReaders.{ok_is, met, ReadsFront, ReadsWhole, whole_reads, box_reads, then_reads, checked_reads, checked_whole_reads, boxed_checks, to_form, list_reads}
use Rattle.sshkey_model.proofs.TextReaders.{text_reads}

pub no_text : IsText []
no_text = is_utf8-from_IsUtf8 [] IsUtf8-nil

IsOptionValue : List ℕ × Nesting → Type 0
IsOptionValue x = IsText x.0 × HasNesting x.0 x.1

nested_value : (d : List ℕ) → IsText d → IsOptionValue (d, nesting_of d) × (string d ≡ option_value d (nesting_of d))
unfolding IsOptionValue
nested_value [] is = ((is, refl), refl)
nested_value (c ∷ d) is = ((is, tt), refl)

-- bytes that are some are read as a text
text_value_reads : ReadsWhole (λ x. IsOptionValue x × (x.1 ≡ nesting_of x.0)) (λ x. option_value x.0 x.1) (whole (tested spelled_text text_format).read)
unfolding IsOptionValue
text_value_reads = whole_reads (checked_reads (to_form (λ d. (d, nesting_of d)) (λ d is. let n = nested_value d is in ((n.0, refl), n.1)) (λ x h. (x.0, h.0.0, ap (λ (n : Nesting). (x.0, n)) (sym h.1), rw h.1 (nested_value x.0 h.0.0).1))) text_reads)

value_takes : (b : List ℕ) (x : List ℕ × Nesting) → whole spelled_value_format.read b ≡ Ok x → IsOptionValue x × Fits (option_value x.0 x.1) × (b ≡ flat (option_value x.0 x.1))
unfolding flat InRange BoxesFit IsOptionValue
value_takes [] x e = subst (λ (z : List ℕ × Nesting). IsOptionValue z × Fits (option_value z.0 z.1) × ([] ≡ flat (option_value z.0 z.1))) (ok_is ([], Plain) x e) ((no_text, tt), record { range = tt; boxes = tt }, refl)
value_takes (c ∷ rest) x e = let t = text_value_reads.takes (c ∷ rest) x e in (t.0.0, t.1, t.2)

value_again : (x : List ℕ × Nesting) → IsOptionValue x → Fits (option_value x.0 x.1) → whole spelled_value_format.read (flat (option_value x.0 x.1)) ≡ Ok x
unfolding flat IsOptionValue
value_again x is fits = go x.0 x.1 is.0 is.1 fits
  where
    go : (d : List ℕ) (n : Nesting) → IsText d → HasNesting d n → Fits (option_value d n) → whole spelled_value_format.read (flat (option_value d n)) ≡ Ok (d, n)
    go [] Plain text has fits = refl
    go [] Nested text has fits = text_value_reads.again ([], Nested) ((text, has), refl) fits
    go (c ∷ d) Plain text has fits = text_value_reads.again (c ∷ d, Plain) ((text, has), refl) fits
    go (c ∷ d) Nested text has fits = absurd (cc has)

option_value_reads : ReadsWhole IsOptionValue (λ x. option_value x.0 x.1) (whole spelled_value_format.read)
option_value_reads = record { takes = value_takes; again = value_again }

-- ---- options, each with its choice

abbrev Pair : Type 0
Pair = CertificateOption × Nesting

abbrev Follows : Option Pair → Pair → Type 0
Follows before x = ((IsText x.0.name × IsText x.0.value) × HasNesting x.0.value x.1) × (is_after (option_before before) x.0 ≡ true)

-- what stands in the bytes of an option
abbrev Read : Type 0
Read = List ℕ × (List ℕ × Nesting)

abbrev IsRead : Read → Type 0
IsRead a = IsText a.0 × IsOptionValue a.1

option_checks : (before : Option Pair) → Checks IsRead (λ a. string a.0 & box (option_value a.1.0 a.1.1)) (Follows before) (λ x. option x.0 x.1) (λ a. cond (may_follow (name_before (option_before before)) a.0) (Ok (record { name = a.0; value = a.1.0 }, a.1.1)) (Err FormatEncoding))
unfolding IsOptionValue
option_checks before = record {
  takes = λ a x was e.
      let made : Pair = (record { name = a.0; value = a.1.0 }, a.1.1) in
      let m = met (may_follow (name_before (option_before before)) a.0) FormatEncoding (Ok made) x e in
      subst (λ (y : Pair). Follows before y × (string a.0 & box (option_value a.1.0 a.1.1) ≡ option y.0 y.1)) (ok_is made x m.1) ((((was.0, was.1.0), was.1.1), m.0), refl);
  again = λ x is. ((x.0.name, (x.0.value, x.1)), (is.0.0.0, (is.0.0.1, is.0.1)), rw is.1 refl, refl);
}

pub option_reads : (before : Option Pair) → ReadsFront (Follows before) (λ x. option x.0 x.1) (option_at before)
unfolding spelled_option_format
option_reads before = checked_reads (option_checks before) (then_reads text_reads (λ _. box_reads option_value_reads))

-- ---- the two lists

apart_chain : (before : Option Pair) (xs : List Pair) → IsChain Follows before xs → IsChain Rises (option_before before) (firsts xs) × HasOptionPlaces (firsts xs) (seconds xs)
unfolding IsChain HasOptionPlaces
apart_chain before [] h = (tt, tt)
apart_chain before (x ∷ xs) h = let r = apart_chain (Some x) xs h.1 in (((h.0.0.0, h.0.1), r.0), (h.0.0.1, r.1))

apart_parts : (xs : List Pair) → each (λ (x : Pair). option x.0 x.1) xs ≡ each_option (firsts xs) (seconds xs)
apart_parts [] = refl
apart_parts (x ∷ xs) = ap (λ (p : Parts). option x.0 x.1 & p) (apart_parts xs)

paired : (before : Option Pair) (os : List CertificateOption) (ns : List Nesting) → IsChain Rises (option_before before) os → HasOptionPlaces os ns → (xs : List Pair) × IsChain Follows before xs × (◌≡◌ {A = List CertificateOption × List Nesting} (firsts xs, seconds xs) (os, ns))
unfolding IsChain HasOptionPlaces
paired before [] [] chain h = ([], tt, refl)
paired before (o ∷ os) (n ∷ ns) chain h =
    let r = paired (Some (o, n)) os ns chain.1 h.1 in
    ((o, n) ∷ r.0, (((chain.0.0, h.0), chain.0.1), r.1), ap (λ (p : List CertificateOption × List Nesting). (o ∷ p.0, n ∷ p.1)) r.2)
paired before _ _ chain h = absurd h

option_shows : (x : Pair) → 0 < length (flat (option x.0 x.1))
unfolding flat
option_shows x = omega arith

apart_checks : Checks (IsChain Follows None) (each (λ x. option x.0 x.1)) (IsSpelled AreOptions HasOptionPlaces) (spelled each_option) apart
apart_checks = to_form (λ xs. (firsts xs, seconds xs)) (λ xs h. (let p = apart_chain None xs h in record { is = p.0; place = p.1 }, apart_parts xs)) (λ x h. let p = paired None x.0 x.1 h.is h.place in (p.0, p.1, p.2, apart_parts p.0 ∙ ap (λ (y : List CertificateOption × List Nesting). spelled each_option y) p.2))

pairs_read : ReadsWhole (IsChain Follows None) (each (λ x. option x.0 x.1)) (list_whole option_at)
pairs_read = list_reads option_reads option_shows None

-- what stands in the box
pub option_list_reads : ReadsWhole (IsSpelled AreOptions HasOptionPlaces) (spelled each_option) (checked_whole apart (list_whole option_at))
option_list_reads = checked_whole_reads apart_checks pairs_read

in_box_reads : ReadsWhole (IsChain Follows None) (each (λ x. option x.0 x.1)) (whole (to_end (list_whole option_at)))
in_box_reads = record { takes = λ b xs e. pairs_read.takes b xs (all_of (list_whole option_at b) xs e); again = λ xs is fits. rw (pairs_read.again xs is fits) refl }
  where
    ended : List Pair → Result (List Pair × List ℕ) Fault
    ended x = Ok (x, [])

    all_of : (r : Result (List Pair) Fault) (xs : List Pair) → ((r >>= ended) >>= λ x. end_of x.0 x.1) ≡ Ok xs → r ≡ Ok xs
    all_of (Ok x) xs e = e
    all_of (Err f) xs e = absurd cc

pub options_reads : ReadsFront (IsSpelled AreOptions HasOptionPlaces) (spelled options) options_at
unfolding options_at
options_reads = checked_reads (boxed_checks apart_checks) (box_reads in_box_reads)
