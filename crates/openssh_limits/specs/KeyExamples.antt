-- Worked examples: keys on both sides of each edge.
use Rattle.std.specs.Prelude.{◌≡◌, ℕ, List, [], ◌∷◌, true, false, None, Some, codes, replicate}
use Rattle.sshkey_model.specs.Keys.{Key, Dsa, Ecdsa, Ed25519, Rsa, SkEcdsa, SkEd25519, Opaque}
use Rattle.sshkey_model.specs.Names.{Nistp256}
use Rattle.openssh_limits.specs.Limits.{bit_len, bits_in, is_read_number, openssh_accepts_key, openssh_reads_key, read_bits}

-- the powers of two of that many bits, as RFC 4251 writes them
abbrev of_1023_bits : List ℕ
of_1023_bits = 0x40 ∷ replicate 127 0

abbrev of_1024_bits : List ℕ
of_1024_bits = 0 ∷ 0x80 ∷ replicate 127 0

abbrev of_16384_bits : List ℕ
of_16384_bits = 0 ∷ 0x80 ∷ replicate 2047 0

abbrev of_16385_bits : List ℕ
of_16385_bits = 1 ∷ replicate 2048 0

-- RFC 4251's own examples: 0, 9a378f9b2e332a7, 80, -1234 and -deadbeef; and the edges of the size
abbrev pub Numbers : Type 0
Numbers = (read_bits [] ≡ 0)
    × (read_bits (0x09 ∷ 0xa3 ∷ 0x78 ∷ 0xf9 ∷ 0xb2 ∷ 0xe3 ∷ 0x32 ∷ 0xa7 ∷ []) ≡ 60)
    × (read_bits (0 ∷ 0x80 ∷ []) ≡ 8)
    × (read_bits (0xed ∷ 0xcc ∷ []) ≡ 0)
    × (read_bits (0xff ∷ 0x21 ∷ 0x52 ∷ 0x41 ∷ 0x11 ∷ []) ≡ 0)
    × (read_bits (0x7f ∷ []) ≡ 7)
    × (read_bits (1 ∷ []) ≡ 1)
    × (read_bits of_1023_bits ≡ 1023)
    × (read_bits of_1024_bits ≡ 1024)
    × (is_read_number of_16384_bits ≡ true)
    × (is_read_number of_16385_bits ≡ false)

-- BN_num_bits(3) of the bytes of a positive number; a number of 2,049 bytes is not read (sshbuf.h,
-- SSHBUF_MAX_BIGNUM).
abbrev pub BitLengths : Type 0
BitLengths = (bit_len [] ≡ 0) × (bit_len (1 ∷ []) ≡ 1) × (bit_len (0x7f ∷ []) ≡ 7) × (bit_len (0x80 ∷ []) ≡ 8) × (bit_len (1 ∷ 0 ∷ []) ≡ 9)
    × (bits_in None ≡ 0) × (bits_in (Some (0xff ∷ [])) ≡ 8) × (bits_in (Some (replicate 2048 0xff)) ≡ 16384) × (bits_in (Some (replicate 2049 1)) ≡ 0)

abbrev rsa : List ℕ → List ℕ → Key
rsa e n = Rsa (record { e = e; n = n })

abbrev f4 : List ℕ
f4 = 1 ∷ 0 ∷ 1 ∷ []

-- sshd's least is 1,024 bits, and a greater one may be asked for; a revocation file has its own.
abbrev pub RsaKeys : Type 0
RsaKeys = (openssh_accepts_key 0 (rsa f4 of_1023_bits) ≡ false)
    × (openssh_accepts_key 0 (rsa f4 of_1024_bits) ≡ true)
    × (openssh_accepts_key 512 (rsa f4 of_1023_bits) ≡ false)
    × (openssh_accepts_key 1024 (rsa f4 of_1024_bits) ≡ true)
    × (openssh_accepts_key 1025 (rsa f4 of_1024_bits) ≡ false)
    × (openssh_accepts_key 0 (rsa (0xed ∷ 0xcc ∷ []) of_1024_bits) ≡ false)
    × (openssh_accepts_key 0 (rsa [] of_1024_bits) ≡ false)
    × (openssh_reads_key 0 (rsa f4 of_1023_bits) ≡ true)
    × (openssh_reads_key 0 (rsa f4 (0xed ∷ 0xcc ∷ [])) ≡ false)
    × (openssh_reads_key 1024 (rsa f4 of_1023_bits) ≡ false)

-- Each number of a key has to be read: RSA's and DSA's, once too large and once not positive.
abbrev dsa_of : List ℕ → List ℕ → List ℕ → List ℕ → Key
dsa_of p q g y = Dsa (record { p = p; q = q; g = g; y = y })

abbrev pub Parts : Type 0
Parts = (openssh_reads_key 0 (rsa of_16384_bits of_16384_bits) ≡ true)
    × (openssh_reads_key 0 (rsa of_16385_bits of_16384_bits) ≡ false)
    × (openssh_reads_key 0 (rsa of_16384_bits of_16385_bits) ≡ false)
    × (openssh_reads_key 0 (dsa_of (7 ∷ []) (3 ∷ []) (2 ∷ []) (4 ∷ [])) ≡ true)
    × (openssh_reads_key 0 (dsa_of [] (3 ∷ []) (2 ∷ []) (4 ∷ [])) ≡ false)
    × (openssh_reads_key 0 (dsa_of (7 ∷ []) [] (2 ∷ []) (4 ∷ [])) ≡ false)
    × (openssh_reads_key 0 (dsa_of (7 ∷ []) (3 ∷ []) [] (4 ∷ [])) ≡ false)
    × (openssh_reads_key 0 (dsa_of (7 ∷ []) (3 ∷ []) (2 ∷ []) []) ≡ false)

abbrev dsa : List ℕ → Key
dsa y = dsa_of (7 ∷ []) (3 ∷ []) (2 ∷ []) y

abbrev on_p256 : ℕ → Key
on_p256 tag = Ecdsa Nistp256 (tag ∷ replicate 64 1)

abbrev held_p256 : ℕ → List ℕ → Key
held_p256 tag application = SkEcdsa (record { key = tag ∷ replicate 64 1; application = application })

abbrev held_ed25519 : List ℕ → Key
held_ed25519 application = SkEd25519 (record { key = replicate 32 1; application = application })

-- Keys of the other kinds: DSA is read and lets nobody in, a compressed point begins with 02 or 03.
abbrev pub OtherKeys : Type 0
OtherKeys = (openssh_reads_key 0 (dsa (4 ∷ [])) ≡ true)
    × (openssh_reads_key 0 (dsa (0xed ∷ 0xcc ∷ [])) ≡ false)
    × (openssh_accepts_key 0 (dsa (4 ∷ [])) ≡ false)
    × (openssh_accepts_key 0 (Ed25519 (replicate 32 1)) ≡ true)
    × (openssh_accepts_key 0 (on_p256 4) ≡ true)
    × (openssh_accepts_key 0 (on_p256 2) ≡ false)
    × (openssh_accepts_key 0 (on_p256 3) ≡ false)
    × (openssh_accepts_key 0 (Ecdsa Nistp256 []) ≡ false)
    × (openssh_accepts_key 0 (held_p256 4 (codes "ssh:")) ≡ true)
    × (openssh_accepts_key 0 (held_p256 2 (codes "ssh:")) ≡ false)
    × (openssh_accepts_key 0 (held_p256 4 (codes "ssh:\0")) ≡ false)
    × (openssh_accepts_key 0 (held_ed25519 (codes "ssh:")) ≡ true)
    × (openssh_accepts_key 0 (held_ed25519 (codes "\0ssh:")) ≡ false)
    × (openssh_accepts_key 0 (Opaque (codes "key@example.org") []) ≡ false)
    × (openssh_reads_key 0 (Opaque (codes "key@example.org") []) ≡ false)
