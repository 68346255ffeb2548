-- Which files and folders sshd believes about a user (sshd_config(5), "StrictModes").
use Rattle.std.specs.Int.Bits.{bit_and}
use Rattle.std.specs.Prelude.{ℕ, Bool, ◌&&◌, ◌||◌, ◌==◌, if◌then◌else◌}
use Rattle.openssh_limits.specs.Limits.{openssh_accepts_key}
use Rattle.sshkey_model.specs.Keys.{Key}

-- root or the user owns it
abbrev pub is_own : ℕ → ℕ → Bool
is_own owner user = owner == 0 || owner == user

-- 0 where it is such a one, and neither group (0o020) nor others (0o002) may write; else 62.
abbrev pub mode_number : ℕ → ℕ → ℕ → ℕ
mode_number owner user mode = if is_own owner user && bit_and mode 0x12 == 0 then 0 else 62

-- Under which keys a verifier may say yes.

-- 0 for a key by which OpenSSH lets somebody in, with an RSA key of 2,048 bits or more; else 59.
abbrev pub verifier_number : Key → ℕ
verifier_number k = if openssh_accepts_key 2048 k then 0 else 59
