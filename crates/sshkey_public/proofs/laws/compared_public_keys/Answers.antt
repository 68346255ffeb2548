use Rattle.std.proofs.Common.{◌≡◌, ℕ, List, refl, ap, sym}
use Rattle.std.proofs.lemmas.Bool.Decides.{Decides-and, Decides-like}
use Rattle.std.proofs.lemmas.Slice.Eq.{bytes_eq-Decides}
use Rattle.sshkey_model.specs.Keys.{Key}
use Rattle.sshkey_base.proofs.Comparisons.{both, after, last_of_all}
use Rattle.sshkey_public.specs.PublicKeys.{content_of, data_of}
use Rattle.sshkey_public.proofs.laws.compared_public_keys.Goals as goal

together : (a b : Key × List ℕ) → (a.0 ≡ b.0) × (a.1 ≡ b.1) → a ≡ b
together a b (key, comment) = rw (key, comment) refl

apart : (a b : Key × List ℕ) → a ≡ b → (a.0 ≡ b.0) × (a.1 ≡ b.1)
apart a b same = (ap (λ (p : Key × List ℕ). p.0) same, ap (λ (p : Key × List ℕ). p.1) same)

pub returns-clause-equal : goal.returns-clause-equal
returns-clause-equal c = λ x y is_x is_y. Decides-like _ (together _ _) (apart (content_of x) (content_of y))
    (Decides-and _ _ (c.compared_keys.ensures.equal (data_of x) (data_of y) is_x is_y) (bytes_eq-Decides _ _))

pub returns-clause-same : goal.returns-clause-same
returns-clause-same c = λ x y is. together (content_of x) (content_of y)
    (both _ _ (c.compared_keys.ensures.same (data_of x) (data_of y)) (bytes_eq-Decides _ _).0 is)

pub returns-clause-ordered : goal.returns-clause-ordered
returns-clause-ordered c = λ x y. after (c.compared_keys.ensures.ordered (data_of x) (data_of y)) (sym (last_of_all _))
