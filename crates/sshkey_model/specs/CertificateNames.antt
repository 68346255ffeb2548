-- Names of algorithms in certificates (PROTOCOL.certkeys).
use Rattle.std.specs.Prelude.{◌≡◌, ℕ, ◌-◌, List, [], ◌∷◌, ◌++◌, length, take, drop, true, Option, Some, None, Result, Ok, Err, IsOkAnd, if◌then◌else◌, codes, bytes_eq}
use Rattle.sshkey_model.specs.Parts.{Parts}
use Rattle.sshkey_model.specs.Reading.{Fault, Label, Front, string_at, checked_at}
use Rattle.sshkey_model.specs.Grammar.{Spells}
use Rattle.sshkey_model.specs.Formats.{Format}
use Rattle.sshkey_model.specs.Overruns.{OverrunsString}
use Rattle.sshkey_model.specs.Texts.{string}
use Rattle.sshkey_model.specs.Names.{Nistp256, Nistp384, Nistp521, Algorithm, Dsa, Ecdsa, Ed25519, Rsa, SkEcdsa, SkEd25519, Other, algorithm_name, named, at_sign, cut, is_other_name, algorithm_or, IsPrivateUse}

abbrev pub suffix : List ℕ
suffix = codes "-cert-v01"

-- a name with the suffix before its at sign; this one, if it has none
abbrev pub with_suffix : Option (List ℕ × List ℕ) → List ℕ → List ℕ
with_suffix None n = n
with_suffix (Some p) n = p.0 ++ suffix ++ at_sign ∷ p.1

-- RSA keys have one name there, with and without a hash.
abbrev pub certificate_name : Algorithm → List ℕ
certificate_name (Rsa hash) = codes "ssh-rsa-cert-v01@openssh.com"
certificate_name (Other n) = with_suffix (cut n) n
certificate_name a = with_suffix (cut (algorithm_name a)) (algorithm_name a ++ codes "-cert-v01@openssh.com")

abbrev pub certified : List Algorithm
certified = Dsa ∷ Ecdsa Nistp256 ∷ Ecdsa Nistp384 ∷ Ecdsa Nistp521 ∷ Ed25519 ∷ Rsa None ∷ SkEcdsa ∷ SkEd25519 ∷ []

-- A certificate's own key has an algorithm without a hash; a private-use name is one of the fixed
-- ones in neither form.
abbrev pub IsCertified : Algorithm → Type 0
IsCertified (Rsa (Some h)) = ⊥
IsCertified (Other n) = (is_other_name n ≡ true) × (named certificate_name certified (certificate_name (Other n)) ≡ None)
IsCertified _ = Unit {0}

abbrev pub certificate_algorithm : Algorithm → Parts
certificate_algorithm a = string (certificate_name a)

-- ---- reading

-- the suffix has 9 bytes
abbrev pub without_suffix : Option (List ℕ × List ℕ) → Result Algorithm Fault
without_suffix None = Err Label
without_suffix (Some p) =
    if bytes_eq (drop (length p.0 - 9) p.0) suffix
    then algorithm_or None (take (length p.0 - 9) p.0 ++ at_sign ∷ p.1)
    else Err Label

abbrev pub certified_or : Option Algorithm → List ℕ → Result Algorithm Fault
certified_or (Some a) t = Ok a
certified_or None t = without_suffix (cut t)

abbrev pub certified_from : List ℕ → Result Algorithm Fault
certified_from t = certified_or (named certificate_name certified t) t

unfoldable pub certificate_algorithm_at : Front Algorithm
certificate_algorithm_at = checked_at certified_from string_at

-- The name of a private-use algorithm stands there, which is kept.
abbrev pub NeedsCertified : List ℕ → ℕ → Type 0
NeedsCertified b m = IsOkAnd (certificate_algorithm_at b) (λ x. IsPrivateUse x.0)

abbrev pub certified_format : Format Algorithm
certified_format = record { Spells = Spells IsCertified certificate_algorithm; read = certificate_algorithm_at; delimited_at = certificate_algorithm_at; needs = NeedsCertified; overruns = OverrunsString }
