-- Which bytes are those of a signature, and why others are not.
use Rattle.std.specs.Prelude.{ℕ, List, [], length, ◌++◌, Bool, Result, Ok, Err, IsOk, ◌⊎◌, nat_lt, if◌then◌else◌}
use Rattle.sshkey_model.specs.Reading.{Fault, Length, ◌>>=◌, Whole}
use Rattle.sshkey_model.specs.Names.{Algorithm}
use Rattle.sshkey_model.specs.Signatures.{Signature, without_trailer, has_trailer, string_from}
use Rattle.sshkey_model.specs.Needs.{HasString, NeedsString}
use Rattle.sshkey_terms.specs.Slices.{is_taken}

-- the bytes of a security key's signature, which end with its flags and its counter
abbrev pub trailed_from : Whole (List ℕ) → Whole (List ℕ)
trailed_from judge b = if nat_lt (length b) 5 then Err Length else (judge (without_trailer b) >>= λ _. Ok b)

-- the string that is judged, and then the trailer
abbrev pub joined_from : Whole (List ℕ) → List ℕ → Whole (List ℕ)
joined_from judge trailer b = judge b >>= λ string. Ok (string ++ trailer)

-- Memory is needed for a string of one byte or more, and for the trailer alone where a string of
-- none may stand before it.
abbrev pub NeedsTrailed : Whole (List ℕ) → List ℕ → ℕ → Type 0
NeedsTrailed judge b m = NeedsString b m ⊎ (HasString b m × IsOk (judge []))

abbrev pub blob_from : Algorithm → Whole (List ℕ)
blob_from a b = if has_trailer a then trailed_from (string_from a) b else string_from a b

-- the same as `IsSignatureBlob`, as a test
abbrev pub is_blob : Algorithm → List ℕ → Bool
is_blob a b = is_taken (blob_from a b)

-- the signature of these bytes
abbrev pub signature_from : Algorithm → List ℕ → Result Signature Fault
signature_from a b = blob_from a b >>= λ blob. Ok (record { algorithm = a; blob = blob })
