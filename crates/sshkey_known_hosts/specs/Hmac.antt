-- HMAC-SHA1 (RFC 2104, section 2).
use Rattle.std.specs.Prelude.{ℕ, List, ◌++◌, map, length, slice_index, nat_lt, if◌then◌else◌, bit_xor}
use Rattle.std.specs.List.{range_with_len}
use Rattle.sha1.specs.Sha1.{sha1}

-- a key of at most 64 bytes, filled with zeros, each byte under the mask
abbrev pub masked : List ℕ → ℕ → List ℕ
masked key mask = map (λ i. bit_xor (slice_index key i) mask) (range_with_len 0 64)

abbrev pub hmac_of_block : List ℕ → List ℕ → List ℕ
hmac_of_block key message = sha1 (masked key 0x5c ++ sha1 (masked key 0x36 ++ message))

-- a longer key is digested first
abbrev pub hmac_sha1 : List ℕ → List ℕ → List ℕ
hmac_sha1 key message = if nat_lt 64 (length key) then hmac_of_block (sha1 key) message else hmac_of_block key message
