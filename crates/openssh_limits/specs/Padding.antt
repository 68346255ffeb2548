-- What a verifier is asked about an RSA signature that is shorter than the modulus. A signer may
-- leave out the zeros in front (RFC 8332, section 3). RSA is about as many bytes as the modulus has
-- (RFC 8017, section 8.2.2), so OpenSSH puts zeros there.
use Rattle.std.specs.Prelude.{ℕ, ◌-◌, List, ◌++◌, length, replicate, Bool, Option, None, Some, nat_le, if◌then◌else◌}
use Rattle.sshkey_model.specs.Keys.{Key, Rsa}
use Rattle.sshkey_model.specs.Mpints.{positive_part}
use Rattle.sshkey_model.specs.Verification.{Question}

-- how many bytes a positive number of at most 2,048 has, which are 16,384 bits; 0 of any other
abbrev pub len_in : Option (List ℕ) → ℕ
len_in None = 0
len_in (Some bytes) = if nat_le (length bytes) 2048 then length bytes else 0

-- how many zeros the signature lacks under the key; none of a longer one
abbrev pub missing_zeros : Key → List ℕ → ℕ
missing_zeros (Rsa k) blob = len_in (positive_part k.n) - length blob
missing_zeros _ blob = 0

abbrev pub padded_blob : Key → List ℕ → List ℕ
padded_blob k blob = replicate (missing_zeros k blob) 0 ++ blob

abbrev pub padded : Question → Question
padded q = record { algorithm = q.algorithm; key = q.key; message = q.message; blob = padded_blob q.key q.blob }

-- what a verifier accepts that is asked about the padded signature in place of the one that is there
abbrev pub padding : (Question → Bool) → Question → Bool
padding accepts q = accepts (padded q)
