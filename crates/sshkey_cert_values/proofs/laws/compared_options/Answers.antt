use Rattle.std.proofs.Common.{◌≡◌, ℕ, List, Bool, ◌&&◌, Global, bytes_eq, sym, ap, ◌∙◌}
use Rattle.std.specs.Bool.{Decides}
use Rattle.std.specs.Cmp.Derive.Mapped.{lex_map, pointwise-map}
use Rattle.std.proofs.lemmas.Bool.Decides.{Decides-and, Decides-like}
use Rattle.std.proofs.lemmas.Slice.Eq.{bytes_eq-Decides, slice_eq-Decides}
use Rattle.sshkey_model.specs.Options.{CertificateOption}
use Rattle.sshkey_cert_values.specs.Comparisons.{option_cmp}
use Rattle.sshkey_cert_values.specs.CertificateFields.{option_of, options_of}
use Rattle.sshkey_cert_values.proofs.laws.compared_options.Goals as goal

-- the two texts are the same
SameTexts : CertificateOption → CertificateOption → Type 0
SameTexts a b = (a.name ≡ b.name) × (a.value ≡ b.value)

pair_of : List ℕ → List ℕ → CertificateOption
pair_of value name = record { name = name; value = value }

together : (a b : CertificateOption) → SameTexts a b → a ≡ b
unfolding SameTexts pair_of
together a b same = ap (pair_of a.value) same.0 ∙ ap (λ value. pair_of value b.name) same.1

apart : (a b : CertificateOption) → a ≡ b → SameTexts a b
unfolding SameTexts
apart a b same = (ap (λ (o : CertificateOption). o.name) same, ap (λ (o : CertificateOption). o.value) same)

option_eq : CertificateOption → CertificateOption → Bool
option_eq a b = bytes_eq a.name b.name && bytes_eq a.value b.value

option_decides : (a b : CertificateOption) → Decides (option_eq a b) (a ≡ b)
unfolding option_eq SameTexts
option_decides a b = Decides-like _ (together a b) (apart a b) (Decides-and _ _ (bytes_eq-Decides _ _) (bytes_eq-Decides _ _))

pub returns-clause-equal : goal.returns-clause-equal
unfolding option_eq SameTexts
returns-clause-equal c = λ x y. slice_eq-Decides option_decides (options_of x) (options_of y) _ (sym (pointwise-map (option_of {Y = Global} {Z = Global}) option_eq x.0.entries y.0.entries))

pub returns-clause-ordered : goal.returns-clause-ordered
returns-clause-ordered c = λ x y. sym (lex_map (option_of {Y = Global} {Z = Global}) option_cmp x.0.entries y.0.entries)
