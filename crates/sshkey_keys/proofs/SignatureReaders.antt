-- The plain reader of signatures takes exactly the spellings, and refuses a length that passes.
use Rattle.std.proofs.Common.{◌≡◌, ◌++◌, ◌==◌, if◌then◌else◌, inl, inr, ℕ, Bool, true, false, List, length, IsOk, Result, Ok, Err, refl}
use Rattle.std.specs.Prelude.{IsOkAnd}
use Rattle.sshkey_model.specs.Reading.{Fault, Length, ◌>>=◌, bytes_at, string_at, checked_at}
use Rattle.sshkey_model.specs.Grammar.{IsGrammar}
use Rattle.sshkey_model.specs.Names.{Algorithm, Nistp256, name_format}
use Rattle.sshkey_model.specs.Names as names
use Rattle.sshkey_model.specs.Points.{field_size}
use Rattle.sshkey_model.specs.Signatures.{has_trailer, after_component, ecdsa_blob_from, string_from, trailed_at, signature_blob_at, signature_at, signature_under, OverrunsBlob, OverrunsComponents, OverrunsInside, OverrunsNumbers, SpellsSignature}
use Rattle.sshkey_model.proofs.Grammars.{grammar}
use Rattle.sshkey_model.proofs.SignatureReaders.{signature_reads}
use Rattle.sshkey_model.specs.Overruns.{OverrunsString, AreLengths}
use Rattle.sshkey_base.proofs.Lengths.{string_lengths, with_rest}
use Rattle.sshkey_terms.proofs.Lawful.{IsChosen, called_chosen}

pub signature_grammar : IsGrammar SpellsSignature signature_at
signature_grammar = grammar signature_reads

-- it is read after its name
pub signature_chosen : IsChosen signature_at name_format.read (λ a. (signature_under a).read)
unfolding signature_at
signature_chosen = called_chosen name_format.read (λ a. (signature_under a).read)

-- ---- lengths

ecdsa_lengths : (size : ℕ) (b : List ℕ) → OverrunsComponents size b → ecdsa_blob_from size b ≡ Err Length
unfolding ecdsa_blob_from
ecdsa_lengths size b (inl o) = rw (string_lengths b 0 o) refl
ecdsa_lengths size b (inr o) = go (after_component size b) o
  where
    go : (r : Result (List ℕ) Fault) → IsOkAnd r (λ r. OverrunsString r 0) → (r >>= λ r. after_component size r >>= λ s. if length s == 0 then Ok b else Err Length) ≡ Err Length
    go (Ok r) o = rw (string_lengths r 0 o) refl
    go (Err f) o = absurd o

-- a length in the string passes
pub numbers_lengths : (a : Algorithm) (b : List ℕ) → OverrunsNumbers a b → string_from a b ≡ Err Length
numbers_lengths (names.Ecdsa curve) b o = ecdsa_lengths (field_size curve) b o
numbers_lengths names.SkEcdsa b o = ecdsa_lengths (field_size Nistp256) b o
numbers_lengths _ b o = absurd o

abbrev before_trailer : List ℕ × List ℕ → List ℕ → Result (List ℕ × List ℕ) Fault
before_trailer t blob = Ok (blob ++ t.0, t.1)

module _ (a : Algorithm) where
  -- a string in which a length passes is refused
  inside_lengths : (n : ℕ) (next : List ℕ × List ℕ → Result (List ℕ × List ℕ) Fault) → ((x : List ℕ × List ℕ) → IsOk (bytes_at n x.1) → string_from a x.0 ≡ Err Length → next x ≡ Err Length) → AreLengths (λ b. string_at b >>= next) (OverrunsInside (OverrunsNumbers a) n)
  inside_lengths n next refused b m (inl o) = rw (string_lengths b m o) refl
  inside_lengths n next refused b m (inr o) = go (string_at b) o
    where
      go : (r : Result (List ℕ × List ℕ) Fault) → IsOkAnd r (λ x. IsOk (bytes_at n x.1) × OverrunsNumbers a x.0) → (r >>= next) ≡ Err Length
      go (Ok x) o = refused x o.0 (numbers_lengths a x.0 o.1)
      go (Err f) o = absurd o

  after : (r : Result (List ℕ × List ℕ) Fault) (string : List ℕ) → IsOk r → string_from a string ≡ Err Length → (r >>= λ t. string_from a string >>= before_trailer t) ≡ Err Length
  after (Ok t) string there refused = rw refused refl
  after (Err f) string there refused = absurd cc

  pub blob_lengths : AreLengths (signature_blob_at a) (OverrunsBlob a)
  blob_lengths = go (has_trailer a)
    where
      go : (t : Bool) → AreLengths (if t then trailed_at (string_from a) else checked_at (string_from a) string_at) (OverrunsInside (OverrunsNumbers a) (if t then 5 else 0))
      go true = inside_lengths 5 (λ x. bytes_at 5 x.1 >>= λ t. string_from a x.0 >>= before_trailer t) (λ x. after (bytes_at 5 x.1) x.0)
      go false = inside_lengths 0 (λ x. string_from a x.0 >>= with_rest x.1) (λ x there refused. rw refused refl)
