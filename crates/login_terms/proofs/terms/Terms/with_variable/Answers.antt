use Rattle.std.proofs.Common.{◌≡◌, ◌∙◌, ◌∷◌, ◌++◌, [], List, ap, arith, subst, sym, true, ℕ}
use Rattle.std.specs.Prelude.{map, string_bytes}
use Rattle.std.specs.List.{Any}
use Rattle.std.proofs.lemmas.List.{length-map, map-append}
use Rattle.login_terms.specs.Options.{terms_of}
use Rattle.login_terms.specs.Values.{IsVariable}
use Rattle.login_terms.proofs.Added.{known, new_one, no_variable}
use Rattle.login_terms.proofs.terms.Terms.with_variable.Goals as goal

pub returns-in_default : goal.returns-in_default
returns-in_default c =
    let s = terms_of c.args.self in
    let none = subst (λ (v : List ℕ). (name : List ℕ) → IsVariable v name → ⊥) c.as_str.ensures.value c.in_default.ensures in
    (no_variable (string_bytes c.args.value) (λ (l : List (List ℕ)). record s { environment = l }) s.environment none, λ m. m)

pub returns-then-has_variable : goal.returns-then-has_variable
returns-then-has_variable c =
    let s = terms_of c.args.self in
    let own = subst (λ (v : List ℕ). IsVariable v c.in-Some.name.now × ((n : List ℕ) → IsVariable v n → n ≡ c.in-Some.name.now)) c.as_str.ensures.value c.in-Some.ensures in
    let any = subst (Any (λ w. IsVariable w c.in-Some.name.now)) (ap (map string_bytes) c.deref.ensures.value) (c.has_variable.ensures.0 c.if-has_variable.true) in
    let told = known (string_bytes c.args.value) (λ (l : List (List ℕ)). record s { environment = l }) s.environment c.in-Some.name.now
    (omega (arith, c.if-len-ge-MOST_VARIABLES.false, c.len.ensures, length-map c.args.self.environment.items string_bytes)) own.0 own.1 any in
    (told.0, told.1, λ m. m)

pub returns : goal.returns
returns c =
    let s = terms_of c.args.self in
    let own = subst (λ (v : List ℕ). IsVariable v c.in-Some.name.now × ((n : List ℕ) → IsVariable v n → n ≡ c.in-Some.name.now)) c.as_str.ensures.value c.in-Some.ensures in
    let items : map string_bytes c.push.new.self.items ≡ map string_bytes c.args.self.environment.items ++ (string_bytes c.args.value ∷ []) = ap (map string_bytes) c.in_ok-push.ensures.items ∙ map-append string_bytes c.args.self.environment.items (c.args.value ∷ []) in
    let told = new_one (string_bytes c.args.value) (λ (l : List (List ℕ)). record s { environment = l }) s.environment c.in-Some.name.now
    (omega (arith, c.if-len-ge-MOST_VARIABLES.false, c.len.ensures, length-map c.args.self.environment.items string_bytes)) own.0 own.1
    (λ any. let found : c.has_variable.result ≡ true = c.has_variable.ensures.1 (subst (Any (λ w. IsVariable w c.in-Some.name.now)) (sym (ap (map string_bytes) c.deref.ensures.value)) any) in absurd cc)
    (map string_bytes c.push.new.self.items) items in
    (told.0, told.1, λ m. m)

pub has_variable-requires : goal.has_variable-requires
has_variable-requires c = c.in-Some.ensures.0.name_is
