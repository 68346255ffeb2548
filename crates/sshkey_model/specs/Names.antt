-- Names of algorithms, curves and hashes.
use Rattle.std.specs.Prelude.{◌≡◌, ℕ, List, [], ◌∷◌, length, Bool, true, false, ◌&&◌, Option, Some, None, is_none, Result, Ok, Err, IsOkAnd, nat_lt, nat_le, ◌==◌, if◌then◌else◌, codes, bytes_eq}
use Rattle.sshkey_model.specs.Parts.{Parts, Any}
use Rattle.sshkey_model.specs.Reading.{Fault, Label, Front}
use Rattle.sshkey_model.specs.Formats.{Format}
use Rattle.sshkey_model.specs.Labels.{label_at, label_format}
use Rattle.sshkey_model.specs.Needs.{NoNeed}
use Rattle.sshkey_model.specs.Texts.{string}

-- ---- curves and hashes

-- RFC 5656, section 10.1
pub data Curve : Type 0 where
  Nistp256 Nistp384 Nistp521 : Curve

abbrev pub curve_name : Curve → List ℕ
curve_name Nistp256 = codes "nistp256"
curve_name Nistp384 = codes "nistp384"
curve_name Nistp521 = codes "nistp521"

-- PROTOCOL.sshsig; FIPS 180-4
pub data Hash : Type 0 where
  Sha256 Sha512 : Hash

abbrev pub hash_name : Hash → List ℕ
hash_name Sha256 = codes "sha256"
hash_name Sha512 = codes "sha512"

abbrev pub curve : Curve → Parts
curve c = string (curve_name c)

abbrev pub hash : Hash → Parts
hash h = string (hash_name h)

-- ---- algorithms

pub data Algorithm : Type 0 where
  Dsa : Algorithm
  Ecdsa : Curve → Algorithm
  Ed25519 : Algorithm
  Rsa : Option Hash → Algorithm
  SkEcdsa SkEd25519 : Algorithm
  Other : List ℕ → Algorithm

-- RFC 4253, section 6.6; RFC 5656, section 6.2; RFC 8332, section 3; RFC 8709, section 3;
-- PROTOCOL.u2f
abbrev pub algorithm_name : Algorithm → List ℕ
algorithm_name Dsa = codes "ssh-dss"
algorithm_name (Ecdsa Nistp256) = codes "ecdsa-sha2-nistp256"
algorithm_name (Ecdsa Nistp384) = codes "ecdsa-sha2-nistp384"
algorithm_name (Ecdsa Nistp521) = codes "ecdsa-sha2-nistp521"
algorithm_name Ed25519 = codes "ssh-ed25519"
algorithm_name (Rsa None) = codes "ssh-rsa"
algorithm_name (Rsa (Some Sha256)) = codes "rsa-sha2-256"
algorithm_name (Rsa (Some Sha512)) = codes "rsa-sha2-512"
algorithm_name SkEcdsa = codes "sk-ecdsa-sha2-nistp256@openssh.com"
algorithm_name SkEd25519 = codes "sk-ssh-ed25519@openssh.com"
algorithm_name (Other n) = n

abbrev pub algorithm : Algorithm → Parts
algorithm a = string (algorithm_name a)

-- those with a name of their own
abbrev pub curves : List Curve
curves = Nistp256 ∷ Nistp384 ∷ Nistp521 ∷ []

abbrev pub hashes : List Hash
hashes = Sha256 ∷ Sha512 ∷ []

abbrev pub algorithms : List Algorithm
algorithms = Dsa ∷ Ecdsa Nistp256 ∷ Ecdsa Nistp384 ∷ Ecdsa Nistp521 ∷ Ed25519 ∷ Rsa None ∷ Rsa (Some Sha256) ∷ Rsa (Some Sha512) ∷ SkEcdsa ∷ SkEd25519 ∷ []

-- the first of them with that name
unfoldable pub named : {A : Type 0} → (A → List ℕ) → List A → List ℕ → Option A
named name [] t = None
named name (a ∷ rest) t = if bytes_eq (name a) t then Some a else named name rest t

-- ---- private-use names (RFC 4251, section 6)

abbrev pub at_sign : ℕ
at_sign = 0x40

abbrev pub are_ascii : List ℕ → Bool
are_ascii [] = true
are_ascii (c ∷ rest) = nat_lt c 0x80 && are_ascii rest

abbrev pub after_first : ℕ → Option (List ℕ × List ℕ) → Option (List ℕ × List ℕ)
after_first c None = None
after_first c (Some p) = Some (c ∷ p.0, p.1)

-- what stands before the first at sign, and after it
abbrev pub cut : List ℕ → Option (List ℕ × List ℕ)
cut [] = None
cut (c ∷ rest) = if c == at_sign then Some ([], rest) else after_first c (cut rest)

-- one at sign, neither first nor last
abbrev pub is_split : Option (List ℕ × List ℕ) → Bool
is_split None = false
is_split (Some p) = nat_lt 0 (length p.0) && nat_lt 0 (length p.1) && is_none (cut p.1)

unfoldable pub is_own_name : List ℕ → Bool
is_own_name n = are_ascii n && nat_le (length n) 64 && is_split (cut n)

-- and none of the fixed names
unfoldable pub is_other_name : List ℕ → Bool
is_other_name n = is_own_name n && is_none (named algorithm_name algorithms n)

abbrev pub IsAlgorithm : Algorithm → Type 0
IsAlgorithm (Other n) = is_other_name n ≡ true
IsAlgorithm _ = Unit {0}

-- ---- reading

abbrev pub or_label : {A : Type 0} → Option A → Result A Fault
or_label (Some a) = Ok a
or_label None = Err Label

abbrev pub algorithm_or : Option Algorithm → List ℕ → Result Algorithm Fault
algorithm_or (Some a) n = Ok a
algorithm_or None n = if is_other_name n then Ok (Other n) else Err Label

abbrev pub algorithm_from : List ℕ → Result Algorithm Fault
algorithm_from n = algorithm_or (named algorithm_name algorithms n) n

abbrev pub algorithm_at : Front Algorithm
algorithm_at = label_at algorithm_from

-- a private-use one, whose name is kept
abbrev pub IsPrivateUse : Algorithm → Type 0
IsPrivateUse (Other name) = Unit {0}
IsPrivateUse _ = ⊥

abbrev pub NeedsAlgorithm : List ℕ → ℕ → Type 0
NeedsAlgorithm b m = IsOkAnd (algorithm_at b) (λ x. IsPrivateUse x.0)

abbrev pub name_format : Format Algorithm
name_format = label_format IsAlgorithm algorithm_name algorithm_from NeedsAlgorithm

abbrev pub curve_from : List ℕ → Result Curve Fault
curve_from n = or_label (named curve_name curves n)

abbrev pub curve_at : Front Curve
curve_at = label_at curve_from

abbrev pub curve_format : Format Curve
curve_format = label_format Any curve_name curve_from NoNeed

abbrev pub hash_from : List ℕ → Result Hash Fault
hash_from n = or_label (named hash_name hashes n)

abbrev pub hash_at : Front Hash
hash_at = label_at hash_from

abbrev pub hash_format : Format Hash
hash_format = label_format Any hash_name hash_from NoNeed
