-- The own part of a key that is let in is long.
use Rattle.std.proofs.Common.{◌≡◌, ◌≤◌, ◌*◌, ℕ, zero, suc, List, [], ◌∷◌, Bool, true, false, IsTrue, ◌&&◌, Some, None, cond, length, arith, tests}
use Rattle.std.proofs.lemmas.Bool.{and_parts, leb-true}
use Rattle.std.specs.Prelude.{nat_le, nat_lt}
use Rattle.openssh_limits.specs.Limits.{bit_len, bits_in, is_read_number, openssh_accepts_key, read_bits, required}
use Rattle.sshkey_model.specs.Keys.{Dsa, Ecdsa, Ed25519, IsKey, Key, Opaque, Rsa, SkEcdsa, SkEd25519}
use Rattle.sshkey_model.specs.Names.{Nistp256, Nistp384, Nistp521}
use Rattle.sshkey_model.specs.Points.{is_point}
use Rattle.user_keys.specs.Spellings.{own_part}

-- ---- numbers

few_bits : (bytes : List ℕ) → bit_len bytes ≤ 8 * length bytes
few_bits [] = omega arith
few_bits (byte ∷ bytes) = omega arith

few_in : (bytes : List ℕ) → bits_in (Some bytes) ≤ 8 * length bytes
few_in bytes = go (nat_le (length bytes) 2048)
  where
    go : (b : Bool) → cond b (bit_len bytes) 0 ≤ 8 * length bytes
    go true = few_bits bytes
    go false = omega arith

few_read : (n : List ℕ) → read_bits n ≤ 8 * length n
few_read [] = omega arith
few_read (zero ∷ rest) = omega (arith, few_in rest)
few_read (suc a ∷ rest) = go (nat_lt (suc a) 0x80)
  where
    go : (b : Bool) → bits_in (cond b (Some (suc a ∷ rest)) None) ≤ 8 * length (suc a ∷ rest)
    go true = few_in (suc a ∷ rest)
    go false = omega arith

least_bits : (least : ℕ) → 1024 ≤ required least
least_bits least = grind (arith, tests)

-- ---- points

long_point : (size : ℕ) (p : List ℕ) → 32 ≤ size → is_point size p ≡ true → 17 ≤ length p
long_point size [] big e = absurd cc
long_point size (tag ∷ rest) big e = grind (arith, tests)

-- ---- keys

pub long_part : (least : ℕ) (k : Key) → IsKey k → IsTrue (openssh_accepts_key least k) → 17 ≤ length (own_part k)
long_part least (Dsa k) is lets = absurd cc
long_part least (Ecdsa Nistp256 point) is lets = long_point 32 point (omega arith) is.1
long_part least (Ecdsa Nistp384 point) is lets = long_point 48 point (omega arith) is.1
long_part least (Ecdsa Nistp521 point) is lets = long_point 66 point (omega arith) is.1
long_part least (Ed25519 k) is lets = omega (arith, is.1)
long_part least (Rsa k) is lets =
    let size : nat_le (required least) (read_bits k.n) ≡ true = (and_parts (is_read_number k.e && is_read_number k.n) (nat_le (required least) (read_bits k.n)) lets).1 in
    omega (arith, few_read k.n, least_bits least, leb-true (required least) (read_bits k.n) size)
long_part least (SkEcdsa k) is lets = long_point 32 k.key (omega arith) is.1.0
long_part least (SkEd25519 k) is lets = omega (arith, is.1.0)
long_part least (Opaque name k) is lets = absurd cc
