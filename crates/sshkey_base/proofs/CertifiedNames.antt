-- Names in certificates that are none of the fixed ones.
use Rattle.std.proofs.Common.{◌≡◌, ◌≢◌, ℕ, Option, Some, None, is_none, Result, Ok, Err, List, ◌∷◌, ◌++◌, length, true, ◌&&◌, nat_le, refl, sym, ap, subst, ◌∙◌}
use Rattle.std.specs.List.{AllByRecursion}
use Rattle.std.specs.Prelude.{IsOk}
use Rattle.std.proofs.lemmas.Bool.{and_parts, le-leb}
use Rattle.sshkey_model.specs.Reading.{Fault, Label, string_at}
use Rattle.sshkey_model.specs.Names.{Nistp256, Algorithm, Ecdsa, Other, algorithm_name, algorithms, named, are_ascii, at_sign, is_own_name, is_other_name}
use Rattle.sshkey_model.specs.CertificateNames.{IsCertified, suffix, certificate_name, certified, certified_or, certified_from, certificate_algorithm_at, NeedsCertified}
use Rattle.sshkey_model.proofs.CertificateNameReaders.{IsStripped, certified_again, certified_checks, certified_is}
use Rattle.sshkey_model.proofs.NameReaders.{found}
use Rattle.sshkey_model.proofs.ShortNames.{other_parts, short_certificate_name}
use Rattle.std.specs.Str.{IsUtf8}
use Rattle.sshkey_base.specs.Causes.{Cause, NoMemory, cause}
use Rattle.sshkey_base.specs.declared.algorithm.Algorithm as value
use Rattle.sshkey_base.specs.declared.encoding.Error.TheVariants as encoding
use Rattle.sshkey_base.specs.declared.error.Error as wide-error
use Rattle.sshkey_base.specs.declared.error.Error.TheVariants as wide
use Rattle.sshkey_base.specs.Labels.{AsksNamed}
use Rattle.sshkey_base.proofs.Labels.{not_named}
use Rattle.sshkey_base.specs.AlgorithmName.{HasCertificateName, JudgesCertified}
use Rattle.sshkey_base.specs.Answers.{Judges}
use Rattle.sshkey_base.proofs.CertificateTypes.{parts_of, are_ascii-append}

-- A fixed name with an at sign has a fixed name in a certificate.
abbrev pub HasFixed : Algorithm → Type 0
HasFixed a = is_own_name (algorithm_name a) ≡ true → named certificate_name certified (certificate_name (Other (algorithm_name a))) ≡ None → ⊥

each_fixed : AllByRecursion HasFixed algorithms
unfolding named is_own_name
each_fixed = (λ own. absurd (cc own), (λ own. absurd (cc own), (λ own. absurd (cc own), (λ own. absurd (cc own), (λ own. absurd (cc own), (λ own. absurd (cc own), (λ own. absurd (cc own), (λ own. absurd (cc own), (λ own none. cc none, (λ own none. cc none, tt))))))))))

-- so a name whose name in a certificate is not fixed is itself none of the fixed ones
other_name : (n : List ℕ) (o : Option Algorithm) → named algorithm_name algorithms n ≡ o → is_own_name n ≡ true → named certificate_name certified (certificate_name (Other n)) ≡ None → is_other_name n ≡ true
unfolding is_other_name
other_name n None from own fresh = rw (own, from) refl
other_name n (Some a) from own fresh =
    let at = found HasFixed algorithm_name algorithms n a each_fixed from in
    absurd (at.0 (rw at.1 own) (rw at.1 fresh))

pub certified_other : (t n : List ℕ) → named certificate_name certified t ≡ None → HasCertificateName t n → certified_from t ≡ Ok (Other n)
certified_other t n fresh has =
    let none : named certificate_name certified (certificate_name (Other n)) ≡ None = rw has.spelled fresh in
    let other : is_other_name n ≡ true = other_name n (named algorithm_name algorithms n) refl has.own none in
    ap certified_from (sym has.spelled) ∙ certified_again (Other n) (other, none)

unknown_is : (t : List ℕ) (r : Result Algorithm Fault) → ((n : List ℕ) → is_own_name n ≡ true → certificate_name (Other n) ≢ t) → IsStripped t r → r ≡ Err Label
unfolding is_other_name
unknown_is t (Ok a) none is = absurd (none is.0 (and_parts (is_own_name is.0) (is_none (named algorithm_name algorithms is.0)) is.2).0 is.3)
unknown_is t (Err fault) none is = ap (λ (f : Fault). Err f) is

pub certified_unknown : (t : List ℕ) → named certificate_name certified t ≡ None → ((n : List ℕ) → is_own_name n ≡ true → certificate_name (Other n) ≢ t) → certified_from t ≡ Err Label
certified_unknown t fresh none = unknown_is t (certified_from t) none (certified_is t fresh)

pub certified_judged : {E : Type 0} (cause : E → Cause) (t : List ℕ) (r : Result (Unit {0}) E) → named certificate_name certified t ≡ None → JudgesCertified cause t r → Judges cause (certified_from t) r
certified_judged cause t (Ok x) fresh h = rw (certified_other t h.0 fresh h.1) refl
certified_judged cause t (Err e) fresh h = rw (certified_unknown t fresh h.none) h.label

-- ---- names in certificates as labels

other_ascii : (n : List ℕ) → is_other_name n ≡ true → are_ascii (certificate_name (Other n)) ≡ true
unfolding is_other_name
other_ascii n is =
    let own = (and_parts (is_own_name n) (is_none (named algorithm_name algorithms n)) is).0 in
    let ascii = (other_parts n is).0 in
    let p = parts_of n (certificate_name (Other n)) own refl in
    let l = p.0 in
    let r = p.1 in
    let both : (are_ascii l && are_ascii (at_sign ∷ r)) ≡ true = sym (are_ascii-append l (at_sign ∷ r)) ∙ ap are_ascii (sym p.2) ∙ ascii in
    let parts = and_parts (are_ascii l) (are_ascii (at_sign ∷ r)) both in
    ap are_ascii p.3.whole
    ∙ are_ascii-append (l ++ suffix) (at_sign ∷ r)
    ∙ rw (are_ascii-append l suffix, parts.0, parts.1) refl

pub certified_ascii : (a : Algorithm) → IsCertified a → are_ascii (certificate_name a) ≡ true
certified_ascii (Ecdsa Nistp256) is = refl
certified_ascii (Other n) is = other_ascii n is.0
certified_ascii _ is = refl

certified_faults : (o : Option Algorithm) (t : List ℕ) (fault : Fault) → named certificate_name certified t ≡ o → certified_from t ≡ Err fault → fault ≡ Label
certified_faults (Some x) t fault from e = absurd (cc (sym (ap (λ (o : Option Algorithm). certified_or o t) from) ∙ e))
certified_faults None t fault from e = subst (IsStripped t) e (certified_is t from)

pub certified_refusals : (t : List ℕ) (fault : Fault) → certified_from t ≡ Err fault → fault ≡ Label
certified_refusals t fault = certified_faults (named certificate_name certified t) t fault refl

pub certified_short : (a : Algorithm) → IsCertified a → nat_le (length (certificate_name a)) 73 ≡ true
certified_short a is = le-leb _ _ (short_certificate_name a is)

-- Bytes that are no text are no name.
pub no_certificate_name : (t : List ℕ) → (IsUtf8 t → ⊥) → certified_from t ≡ Err Label
no_certificate_name = not_named certified_checks certified_ascii certified_refusals

-- Where memory was refused, the name is that of a private-use algorithm.
pub certified_asked : (t : List ℕ) (r : Result value.Algorithm wide-error.Error) → ((a : Algorithm) → named certificate_name certified t ≡ Some a → IsOk r) → (certified_from t ≡ Err Label → r ≡ Err (wide.Encoding encoding.Label)) → AsksNamed cause NeedsCertified t r
unfolding certificate_algorithm_at
certified_asked t (Ok x) fixed refused = tt
certified_asked t (Err e) fixed refused = λ memory b rest m read. by_table memory b rest m read (named certificate_name certified t) refl
  where
    by_table : cause e ≡ NoMemory → (b rest : List ℕ) (m : ℕ) → string_at b ≡ Ok (t, rest) → (o : Option Algorithm) → named certificate_name certified t ≡ o → NeedsCertified b m
    by_table memory b rest m read (Some a) is = absurd (cc (fixed a is))
    by_table memory b rest m read None is = by_suffix (certified_from t) refl (certified_is t is)
      where
        by_suffix : (found : Result Algorithm Fault) → certified_from t ≡ found → IsStripped t found → NeedsCertified b m
        by_suffix (Ok a) from stripped = rw (read, from, stripped.1) tt
        by_suffix (Err fault) from stripped =
            let none : certified_from t ≡ Err Label = from ∙ ap (λ (f : Fault). Err f) stripped in
            let label : e ≡ wide.Encoding encoding.Label = cc (refused none) in
            absurd (cc (memory, label))
