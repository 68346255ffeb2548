-- What follows the name of an algorithm.
use Rattle.std.proofs.Common.{◌≡◌, inl, inr, ℕ, true, List, [], Result, Ok, Err, IsOk}
use Rattle.sshkey_model.specs.Reading.{number_at, bytes_at, string_at}
use Rattle.sshkey_model.specs.Names.{Algorithm}
use Rattle.sshkey_model.specs.Signatures.{IsSignatureBlob, has_trailer, string_from, trailed_at, signature_blob_at, ecdsa_blob_from, OverrunsBlob, OverrunsInside, OverrunsNumbers}
use Rattle.sshkey_model.proofs.SignatureReaders.{signature_blob_reads}
use Rattle.sshkey_base.specs.declared.error.Error.{Error}
use Rattle.sshkey_base.specs.Causes.{cause}
use Rattle.sshkey_base.specs.Needs.{Asks}
use Rattle.sshkey_model.specs.Needs.{NeedsString}
use Rattle.sshkey_base.specs.Source.{Source}
use Rattle.sshkey_base.specs.Stops.{RanOut, StopsBy}
use Rattle.sshkey_keys.specs.SignatureForms.{NeedsTrailed}

-- a string of no bytes is refused if a trailer follows it
none_before : (a : Algorithm) → has_trailer a ≡ true → IsOk (string_from a []) → ⊥
unfolding ecdsa_blob_from string_at number_at bytes_at
none_before Algorithm.SkEcdsa trailed ok = cc
none_before Algorithm.SkEd25519 trailed ok = cc
none_before _ trailed ok = cc

-- so there memory is needed only for the bytes of the string
module _ (a : Algorithm) (trailed : has_trailer a ≡ true) where
  needs_string : (b : List ℕ) (m : ℕ) → NeedsTrailed (string_from a) b m → NeedsString b m
  needs_string b m (inl needed) = needed
  needs_string b m (inr empty) = absurd (none_before a trailed empty.1)

  pub blob_asks : {X : Type 0} (s : Source) (r : Result X Error) → Asks cause (NeedsTrailed (string_from a)) s r → Asks cause NeedsString s r
  blob_asks s (Ok x) h = tt
  blob_asks s (Err e) h = λ memory sound. needs_string _ _ (h memory sound)

  pub blob_stops : {X : Type 0} (s : Source) (r : Result X Error) → StopsBy cause (trailed_at (string_from a)) (NeedsTrailed (string_from a)) (OverrunsInside (OverrunsNumbers a) 5) s r → StopsBy cause (signature_blob_at a) NeedsString (OverrunsBlob a) s r
  blob_stops s (Ok x) h = tt
  blob_stops s (Err e) h = record {
    takes = λ ok. more (h.takes (rw trailed at ok));
    past = λ o. elim (h.past (rw trailed at o)) [
      | inl is ↦ inl is
      | inr m ↦ inr (more m)
    ];
  }
    where
      more : RanOut (cause e) (NeedsTrailed (string_from a)) s → RanOut (cause e) NeedsString s
      more m = record { memory = m.memory; needed = needs_string _ _ m.needed }

-- what is read is well-formed
pub read_formed : (a : Algorithm) (b blob rest : List ℕ) → signature_blob_at a b ≡ Ok (blob, rest) → IsSignatureBlob a blob
read_formed a b blob rest e = ((signature_blob_reads a).takes b blob rest e).0
