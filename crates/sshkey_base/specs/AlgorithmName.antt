-- Private-use names, as calls find them.
use Rattle.std.specs.Prelude.{◌≡◌, ◌≢◌, ℕ, ◌+◌, nat_lt, List, ◌∷◌, ◌++◌, length, Bool, true, ◌&&◌, Option, Some, None, Result, Ok, Err, if◌then◌else◌}
use denote.Ref.{Bor}
use Rattle.sshkey_model.specs.Reading.{Fault, Label}
use Rattle.sshkey_model.specs.Names.{Other, are_ascii, at_sign, cut, is_own_name, is_split}
use Rattle.sshkey_model.specs.CertificateNames.{certificate_name, suffix}
use Rattle.sshkey_base.specs.Causes.{Cause, NoMemory, Faulty}

-- the name, where it is a private-use one
abbrev pub own_name_from : List ℕ → Result (List ℕ) Fault
own_name_from t = if is_own_name t then Ok t else Err Label

-- It is the name of this name in a certificate.
pub record HasCertificateName (t n : List ℕ) : Type 0 where
  pub own : is_own_name n ≡ true
  pub spelled : certificate_name (Other n) ≡ t

-- It is the name of no such name in a certificate.
abbrev pub IsNoCertificateType : List ℕ → Type 0
IsNoCertificateType t = (n : List ℕ) → is_own_name n ≡ true → certificate_name (Other n) ≢ t

-- So it is, and the error says so.
pub record IsNoCertificateName (t : List ℕ) (cause : Cause) : Type 0 where
  pub none : IsNoCertificateType t
  pub label : cause ≡ Faulty Label

-- The answer is the name that has this name in a certificate, and `Label` where none has it, out of
-- memory aside.
abbrev pub NamesCertified : {E : Type 0} → (E → Cause) → List ℕ → Result (List ℕ) E → Type 0
NamesCertified cause t (Ok n) = HasCertificateName t n
NamesCertified cause t (Err e) = cause e ≢ NoMemory → IsNoCertificateName t (cause e)

-- The text is the name of some name in a certificate, or of none and the error says so.
abbrev pub JudgesCertified : {E : Type 0} → (E → Cause) → List ℕ → Result (Unit {0}) E → Type 0
JudgesCertified cause t (Ok _) = (n : List ℕ) × HasCertificateName t n
JudgesCertified cause t (Err e) = IsNoCertificateName t (cause e)

-- The text was cut at its first at sign, if it has one.
abbrev pub IsCutOf : List ℕ → Option (Bor (List ℕ) × Bor (List ℕ)) → Type 0
IsCutOf t None = cut t ≡ None
IsCutOf t (Some p) = cut t ≡ Some (p.0.now, p.1.now)

-- The text has the suffix before its first at sign, and these are what stands before the suffix and
-- after that sign.
pub record AreNameParts (t l r : List ℕ) : Type 0 where
  pub first : cut l ≡ None
  pub whole : t ≡ l ++ suffix ++ at_sign ∷ r

-- What stands before the first at sign of a name, and after it.
abbrev pub are_own_parts : List ℕ → List ℕ → Bool
are_own_parts l r = are_ascii l && are_ascii r && nat_lt (length l + length r) 64 && is_split (Some (l, r))

-- What stands before and after the at sign of the name that has this name in a certificate, if one
-- has.
abbrev pub AreCertifiedParts : List ℕ → Option (Bor (List ℕ) × Bor (List ℕ)) → Type 0
AreCertifiedParts t None = IsNoCertificateType t
AreCertifiedParts t (Some p) = HasCertificateName t (p.0.now ++ at_sign ∷ p.1.now)

abbrev pub IsWithoutSuffix : List ℕ → Option (Bor (List ℕ) × Bor (List ℕ)) → Type 0
IsWithoutSuffix t None = (l r : List ℕ) → AreNameParts t l r → ⊥
IsWithoutSuffix t (Some p) = AreNameParts t p.0.now p.1.now
