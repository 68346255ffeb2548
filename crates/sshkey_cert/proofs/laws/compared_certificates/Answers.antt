use Rattle.std.proofs.Common.{◌≡◌, ℕ, List, refl, ap, sym}
use Rattle.std.proofs.lemmas.Bool.Decides.{Decides-and, Decides-like}
use Rattle.std.proofs.lemmas.Slice.Eq.{bytes_eq-Decides}
use Rattle.sshkey_model.specs.Certificates as model
use Rattle.sshkey_cert.specs.Certificates.{content_of}
use Rattle.sshkey_base.proofs.Comparisons.{both, after, last_of_all}
use Rattle.sshkey_cert.proofs.laws.compared_certificates.Goals as goal

-- each part is the same
SameContent : model.Certificate × List ℕ → model.Certificate × List ℕ → Type 0
SameContent a b = (a.0.signed ≡ b.0.signed) × ((a.0.signature ≡ b.0.signature) × (a.1 ≡ b.1))

together : (a b : model.Certificate × List ℕ) → SameContent a b → a ≡ b
unfolding SameContent
together a b (signed, (signature, comment)) = rw (signed, signature, comment) refl

apart : (a b : model.Certificate × List ℕ) → a ≡ b → SameContent a b
unfolding SameContent
apart a b same =
    (ap (λ (p : model.Certificate × List ℕ). p.0.signed) same, (ap (λ (p : model.Certificate × List ℕ). p.0.signature) same, ap (λ (p : model.Certificate × List ℕ). p.1) same))

pub returns-clause-equal : goal.returns-clause-equal
unfolding SameContent
returns-clause-equal c = λ x y is_x is_y. Decides-like _ (together _ _) (apart (content_of x) (content_of y))
    (Decides-and _ _ (c.compared_signed_fields.ensures.equal x.fields y.fields is_x is_y)
    (Decides-and _ _ (c.compared_signatures.ensures.equal x.signature y.signature) (bytes_eq-Decides _ _)))

pub returns-clause-same : goal.returns-clause-same
unfolding SameContent
returns-clause-same c = λ x y is. together (content_of x) (content_of y)
    (both _ _ (c.compared_signed_fields.ensures.same x.fields y.fields)
    (both _ _ (c.compared_signatures.ensures.equal x.signature y.signature).0 (bytes_eq-Decides _ _).0) is)

pub returns-clause-ordered : goal.returns-clause-ordered
returns-clause-ordered c = λ x y.
    after (c.compared_signed_fields.ensures.ordered x.fields y.fields)
    (after (c.compared_signatures.ensures.ordered x.signature y.signature) (sym (last_of_all _)))
