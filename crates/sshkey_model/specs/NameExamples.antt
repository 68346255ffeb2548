-- Worked examples: names of algorithms, curves and hashes.
use Rattle.std.specs.Prelude.{◌≡◌, ℕ, List, [], ◌++◌, length, true, false, Some, None, Ok, Err, codes}
use Rattle.sshkey_model.specs.HexText.{hex}
use Rattle.sshkey_model.specs.Reading.{Length, Label}
use Rattle.sshkey_model.specs.Names.{Curve, Nistp256, Nistp384, Nistp521, curve_name, curve_from, curve_at, Hash, Sha256, Sha512, hash_name, hash_from, Algorithm, Dsa, Ecdsa, Ed25519, Rsa, SkEcdsa, SkEd25519, Other, algorithm_name, algorithm_from, algorithm_at, is_other_name}
use Rattle.sshkey_model.specs.Keys.{unhashed}
use Rattle.sshkey_model.specs.CertificateNames.{certificate_name, certified_from, certificate_algorithm_at, IsCertified}

-- ---- fixed names

-- written and read so
abbrev pub IsCurveName : Curve → List ℕ → Type 0
IsCurveName c n = (curve_name c ≡ n) × (curve_from n ≡ Ok c)

-- The curves that there are, and no others.
abbrev pub CurveNames : Type 0
CurveNames = IsCurveName Nistp256 (codes "nistp256")
    × IsCurveName Nistp384 (codes "nistp384")
    × IsCurveName Nistp521 (codes "nistp521")
    × (curve_from (codes "nistp224") ≡ Err Label)
    × (curve_from (codes "nistp2560") ≡ Err Label)
    × (curve_from (codes "nistp25") ≡ Err Label)
    × (curve_from [] ≡ Err Label)

-- written and read so
abbrev pub IsHashName : Hash → List ℕ → Type 0
IsHashName h n = (hash_name h ≡ n) × (hash_from n ≡ Ok h)

-- The hashes that there are, and no others.
abbrev pub HashNames : Type 0
HashNames = IsHashName Sha256 (codes "sha256")
    × IsHashName Sha512 (codes "sha512")
    × (hash_from (codes "sha1") ≡ Err Label)
    × (hash_from (codes "SHA256") ≡ Err Label)
    × (hash_from [] ≡ Err Label)

-- The algorithm is written and read by the first name, and by the second in certificates, where an
-- RSA key has no hash.
abbrev pub HasNames : Algorithm → List ℕ → List ℕ → Type 0
HasNames a n t = (algorithm_name a ≡ n) × (algorithm_from n ≡ Ok a) × (certificate_name a ≡ t) × (certified_from t ≡ Ok (unhashed a))

-- The fixed names of algorithms.
abbrev pub AlgorithmNames : Type 0
AlgorithmNames = HasNames Dsa (codes "ssh-dss") (codes "ssh-dss-cert-v01@openssh.com")
    × HasNames (Ecdsa Nistp256) (codes "ecdsa-sha2-nistp256") (codes "ecdsa-sha2-nistp256-cert-v01@openssh.com")
    × HasNames (Ecdsa Nistp384) (codes "ecdsa-sha2-nistp384") (codes "ecdsa-sha2-nistp384-cert-v01@openssh.com")
    × HasNames (Ecdsa Nistp521) (codes "ecdsa-sha2-nistp521") (codes "ecdsa-sha2-nistp521-cert-v01@openssh.com")
    × HasNames Ed25519 (codes "ssh-ed25519") (codes "ssh-ed25519-cert-v01@openssh.com")
    × HasNames (Rsa None) (codes "ssh-rsa") (codes "ssh-rsa-cert-v01@openssh.com")
    × HasNames (Rsa (Some Sha256)) (codes "rsa-sha2-256") (codes "ssh-rsa-cert-v01@openssh.com")
    × HasNames (Rsa (Some Sha512)) (codes "rsa-sha2-512") (codes "ssh-rsa-cert-v01@openssh.com")
    × HasNames SkEcdsa (codes "sk-ecdsa-sha2-nistp256@openssh.com") (codes "sk-ecdsa-sha2-nistp256-cert-v01@openssh.com")
    × HasNames SkEd25519 (codes "sk-ssh-ed25519@openssh.com") (codes "sk-ssh-ed25519-cert-v01@openssh.com")
    × (algorithm_from (codes "ssh-ed448") ≡ Err Label)
    × (algorithm_from (codes "ssh-ed25519-cert-v01") ≡ Err Label)
    × (certified_from (codes "ssh-ed25519") ≡ Err Label)

-- ---- private-use names

-- 64 bytes
abbrev pub longest_name : List ℕ
longest_name = codes "a-name-that-is-just-short-enough-to-be-valid-here-@example.co.uk"

-- ASCII, at most 64 bytes, one at sign that is neither first nor last, and no fixed name.
abbrev pub OwnNames : Type 0
OwnNames = (length longest_name ≡ 64)
    × (is_other_name longest_name ≡ true)
    × (is_other_name (longest_name ++ codes "s") ≡ false)
    × (is_other_name (codes "name@example.com") ≡ true)
    × (is_other_name (codes "n@e") ≡ true)
    × (is_other_name (codes "name" ++ hex "c39f" ++ codes "@example.com") ≡ false)
    × (is_other_name (codes "name@example" ++ hex "7f") ≡ true)
    × (is_other_name (codes "name@example" ++ hex "80") ≡ false)
    × (is_other_name (codes "name@example@com") ≡ false)
    × (is_other_name (codes "name") ≡ false)
    × (is_other_name (codes "@name") ≡ false)
    × (is_other_name (codes "name@") ≡ false)
    × (is_other_name [] ≡ false)
    × (is_other_name (codes "@") ≡ false)
    × (is_other_name (codes "a-name-that-is-too-long-but-would-otherwise-be-valid-@example.com") ≡ false)
    × (is_other_name (codes "sk-ssh-ed25519@openssh.com") ≡ false)
    × (is_other_name (codes "sk-ecdsa-sha2-nistp256@openssh.com") ≡ false)
    × (is_other_name (codes "sk-ssh-ed25519@example.com") ≡ true)

-- Names as strings; one that is none is refused as a label, also where it is no text.
abbrev pub NameReading : Type 0
NameReading = (algorithm_at (hex "00000007 7373682d647373 ff") ≡ Ok (Dsa, hex "ff"))
    × (algorithm_at (hex "00000010 6e616d65406578616d706c652e636f6d") ≡ Ok (Other (codes "name@example.com"), []))
    × (algorithm_from (longest_name ++ codes "s") ≡ Err Label)
    × (algorithm_at (hex "00000002 ffff") ≡ Err Label)
    × (algorithm_at (hex "00000000") ≡ Err Label)
    × (algorithm_at (hex "00000008 7373682d647373") ≡ Err Length)
    × (curve_at (hex "00000002 ffff") ≡ Err Label)

-- ---- in certificates

-- 73 bytes
abbrev pub longest_certificate_name : List ℕ
longest_certificate_name = codes "a-name-that-is-just-short-enough-to-be-valid-here--cert-v01@example.co.uk"

-- The suffix stands before the at sign, and the name is the text without it.
abbrev pub OwnCertificateNames : Type 0
OwnCertificateNames = HasNames (Other (codes "name@example.com")) (codes "name@example.com") (codes "name-cert-v01@example.com")
    × HasNames (Other longest_name) longest_name longest_certificate_name
    × (length longest_certificate_name ≡ 73)
    × (certified_from (longest_certificate_name ++ codes "s") ≡ Err Label)
    × (certified_from (codes "name@example.com") ≡ Err Label)
    × (certified_from (codes "-cert-v01@example.com") ≡ Err Label)
    × (certified_from (codes "name-cert-v01@") ≡ Err Label)
    × (certified_from (codes "name-cert-v01") ≡ Err Label)
    × (certified_from (codes "name-cert-v01@example@com") ≡ Err Label)
    × (certified_from (codes "name-cert-v02@example.com") ≡ Err Label)
    × (certified_from (codes "rsa-sha2-256-cert-v01@openssh.com") ≡ Ok (Other (codes "rsa-sha2-256@openssh.com")))
    × (certified_from (codes "name@example.com-cert-v01") ≡ Err Label)
    × (certified_from (codes "name" ++ hex "80" ++ codes "-cert-v01@example.com") ≡ Err Label)
    × (certificate_algorithm_at (hex "00000002 ffff") ≡ Err Label)

-- A private-use name whose certificate name is a fixed one is none of a certificate's own key.
abbrev pub TakenCertificateName : Type 0
TakenCertificateName = (is_other_name (codes "ssh-ed25519@openssh.com") ≡ true)
    × (certificate_name (Other (codes "ssh-ed25519@openssh.com")) ≡ codes "ssh-ed25519-cert-v01@openssh.com")
    × (IsCertified (Other (codes "ssh-ed25519@openssh.com")) → ⊥)
    × (IsCertified (Rsa (Some Sha256)) → ⊥)
