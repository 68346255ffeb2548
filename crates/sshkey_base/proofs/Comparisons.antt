-- Equality and order of structs, part by part, and of enums.
use Rattle.std.proofs.Common.{◌≡◌, ℕ, Bool, true, false, ◌&&◌, true≢false, nat_eq, refl, sym, ap}
use Rattle.std.specs.Bool.{Decides}
use Rattle.std.proofs.lemmas.Bool.{eqb-false}
use Rattle.std.specs.declared.cmp.Ordering.{Ordering}
use Rattle.std.specs.declared.cmp.Ordering.TheVariants.{Less, Equal, Greater}
use Rattle.std.specs.Ordering.{ordering_then}

-- what two tests in a row say
pub both : (a b : Bool) {P Q : Type 0} → (a ≡ true → P) → (b ≡ true → Q) → a && b ≡ true → P × Q
both true b p q is = (p refl, q is)
both false b p q is = absurd (true≢false (sym is))

-- two orders in a row
pub after : {a b o p : Ordering} → a ≡ b → o ≡ p → ordering_then a o ≡ ordering_then b p
after e f = rw (e, f) refl

pub last_of_all : (o : Ordering) → ordering_then o Equal ≡ o
last_of_all Less = refl
last_of_all Equal = refl
last_of_all Greater = refl

-- what has other places is not the same
pub apart_by : {A : Type 0} (place : A → ℕ) (x y : A) → nat_eq (place x) (place y) ≡ false → Decides false (x ≡ y)
apart_by place x y other = (λ never. absurd (true≢false (sym never)), λ same. absurd (eqb-false (place x) (place y) other (ap place same)))
