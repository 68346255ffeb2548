-- Worked examples: principals of a certificate and applications of keys, on both sides of each edge.
use Rattle.std.specs.Prelude.{List, ℕ, [], ◌∷◌, codes, replicate}
use Rattle.sshkey_model.specs.Keys.{Key, Ed25519, SkEcdsa, SkEd25519}
use Rattle.openssh_limits.specs.Limits.{AreReadPrincipals, HasReadApplication}

-- 256 are read, and one more is not; nor is a name with a zero byte, wherever it stands.
abbrev pub Principals : Type 0
Principals = AreReadPrincipals [] × AreReadPrincipals (replicate 256 (codes "root")) × ¬ AreReadPrincipals (replicate 257 (codes "root"))
    × ¬ AreReadPrincipals (codes "root" ∷ codes "ro\0ot" ∷ []) × ¬ AreReadPrincipals (codes "root\0" ∷ codes "root" ∷ [])

abbrev held_p256 : List ℕ → Key
held_p256 application = SkEcdsa (record { key = 4 ∷ replicate 64 1; application = application })

abbrev held_ed25519 : List ℕ → Key
held_ed25519 application = SkEd25519 (record { key = replicate 32 1; application = application })

-- The application `ssh:` of ssh-keygen(1) is read; one with a zero byte is not, at its end neither.
abbrev pub Applications : Type 0
Applications = HasReadApplication (held_p256 (codes "ssh:")) × HasReadApplication (held_ed25519 (codes "ssh:")) × HasReadApplication (held_ed25519 []) × HasReadApplication (Ed25519 (replicate 32 0))
    × ¬ HasReadApplication (held_p256 (codes "ssh:\0")) × ¬ HasReadApplication (held_ed25519 (codes "ssh:\0")) × ¬ HasReadApplication (held_ed25519 (codes "\0"))
