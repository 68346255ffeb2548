-- Whether a pair belongs to a public key.
use Rattle.std.specs.Prelude.{Bool, false, Option, Some, None, ◌≡◌, ℕ, ◌+◌, ◌%◌, ◌<◌, List, ◌++◌, length, Err, ◌==◌, if◌then◌else◌, option_map, Result, Ok}
use Rattle.sshkey_model.specs.Keys.{Key}
use Rattle.sshkey_model.specs.KeyPairs.{KeyPair, public_half, keypair_format}
use Rattle.sshkey_model.specs.PrivateKeys.{key_eq, rising, UnencryptedKey}
use Rattle.sshkey_model.specs.Reading.{Length, ◌>>=◌, Front, Whole, never_at, to_end, Fault, Crypto, PublicKey}
use Rattle.sshkey_model.specs.KeyDerivation.{NoCipher, block_size}
use Rattle.sshkey_model.specs.Formats.{Format}
use Rattle.sshkey_ciphers.specs.Formats.{end_padding_below}
use Rattle.sshkey_model.specs.Texts.{text_at, text_format}
use Rattle.sshkey_model.specs.Leaves.{number32_format}
use Rattle.sshkey_model.specs.Terms.{◌then◌, boxed, tested, without_memory, read_as}
use Rattle.sshkey_pairs.specs.Keypairs.{pair_of}
use Rattle.sshkey_private.specs.declared.part.Inner.{Inner}

-- The public key is the public half of the pair; of an encrypted pair none is known.
abbrev pub is_half : Option KeyPair → Key → Bool
is_half (Some k) public = key_eq (public_half k) public
is_half None public = false

-- A value and its padding, which fill whole blocks (PROTOCOL.key).

-- The bytes spell the value, and end in fewer bytes of padding than the limit.
pub record SpellsPadded {A : Type 0} (limit : ℕ) (Spells : A → List ℕ → Type 0) (value : A) (b : List ℕ) : Type 0 where
  pub front : List ℕ
  pub padding : ℕ
  pub spelled : Spells value front
  pub all : b ≡ front ++ rising 1 padding
  pub few : padding < limit
  pub blocks : length b % block_size NoCipher ≡ 0

-- whole blocks, which end in fewer bytes of padding than the limit
unfoldable pub padded_below : {A : Type 0} → ℕ → Front A → Whole A
padded_below limit read b = if length b % block_size NoCipher == 0 then (read b >>= λ x. end_padding_below limit x.0 x.1) else Err Length

-- where bytes that are whole blocks need memory
abbrev pub NeedsPadded : (List ℕ → ℕ → Type 0) → List ℕ → ℕ → Type 0
NeedsPadded needs b m = ((length b + m) % 8 ≡ 0) × needs b m

-- the value, which ends by itself, and its padding
abbrev pub padded_format : {A : Type 0} → ℕ → Format A → Format A
padded_format limit inner = record {
  Spells = SpellsPadded limit inner.Spells;
  read = to_end (padded_below limit inner.read);
  delimited_at = never_at;
  needs = NeedsPadded inner.needs;
  overruns = inner.overruns;
}

-- The private part of a key that is not encrypted (PROTOCOL.key): the terms that it is read as.

abbrev pub unencrypted : ℕ → Option KeyPair → List ℕ → Option UnencryptedKey
unencrypted checkint pair comment = option_map (λ k. record { checkint = checkint; pair = k; comment = comment }) pair

abbrev pub inner_of : Inner → Option UnencryptedKey
inner_of p = unencrypted p.checkint (pair_of p.pair) p.comment

-- ---- a checkint, and the same again

abbrev pub one_checkint : ℕ × ℕ → Result ℕ Fault
one_checkint n = if n.1 == n.0 then Ok n.0 else Err Crypto

abbrev pub checkint_term : Format ℕ
checkint_term = without_memory (tested one_checkint (number32_format then number32_format))

unfoldable pub checkint_at : Front ℕ
checkint_at = checkint_term.read

abbrev pub checkint_format : Format ℕ
checkint_format = read_as checkint_term checkint_at

-- ---- a pair whose public half is that key

abbrev pub half_of : Key → Option KeyPair → Result (Option KeyPair) Fault
half_of public k = if is_half k public then Ok k else Err PublicKey

abbrev pub pair_term : Key → Format (Option KeyPair)
pair_term public = tested (half_of public) keypair_format

unfoldable pub pair_with_at : Key → Front (Option KeyPair)
pair_with_at public = (pair_term public).read

abbrev pub pair_format : Key → Format (Option KeyPair)
pair_format public = read_as (pair_term public) (pair_with_at public)

-- ---- these and the comment

abbrev pub unencrypted_of_parts : ℕ × (Option KeyPair × List ℕ) → Result (Option UnencryptedKey) Fault
unencrypted_of_parts a = Ok (unencrypted a.0 a.1.0 a.1.1)

abbrev pub inner_term : Key → Format (Option UnencryptedKey)
inner_term public = tested unencrypted_of_parts (checkint_format then pair_format public then text_format)

-- in the steps of the call that reads it
unfoldable pub inner_at : Key → Front (Option UnencryptedKey)
inner_at public b = do
  checkint ← checkint_at b
  pair ← pair_with_at public checkint.1
  comment ← text_at pair.1
  Ok (unencrypted checkint.0 pair.0 comment.0, comment.1)

abbrev pub inner_format : Key → Format (Option UnencryptedKey)
inner_format public = read_as (inner_term public) (inner_at public)

-- in its string, with fewer bytes of padding than the limit
abbrev pub part_format : ℕ → Key → Format (Option UnencryptedKey)
part_format limit public = boxed (padded_format limit (inner_format public))
