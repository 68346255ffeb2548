-- Options as a finite map, from a name to a value.
use Rattle.std.specs.Prelude.{◌≡◌, ℕ, List, [], ◌∷◌, Option, Some, None, bytes_eq, if◌then◌else◌}
use Rattle.sshkey_model.specs.Options.{CertificateOption, is_below}

-- the value of the option of that name
abbrev pub value_of : List ℕ → List CertificateOption → Option (List ℕ)
value_of name [] = None
value_of name (o ∷ os) = if bytes_eq name o.name then Some o.value else value_of name os

-- with that option in its place, and instead of one of its name
abbrev pub with_option : CertificateOption → List CertificateOption → List CertificateOption
with_option o [] = o ∷ []
with_option o (p ∷ ps) =
    if bytes_eq o.name p.name then o ∷ ps
    else if is_below o.name p.name then o ∷ p ∷ ps
    else p ∷ with_option o ps

-- with each of those, one after the other: of two of one name the later one is kept
abbrev pub with_options : List CertificateOption → List CertificateOption → List CertificateOption
with_options [] os = os
with_options (p ∷ ps) os = with_options ps (with_option p os)

-- Its name has the new value, and every other name the value that it had.
abbrev pub InsertOneOption : Type 0
InsertOneOption = (o : CertificateOption) (os : List CertificateOption) (name : List ℕ) → value_of name (with_option o os) ≡ if bytes_eq name o.name then Some o.value else value_of name os
