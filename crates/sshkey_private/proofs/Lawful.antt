-- The formats of private keys are lawful.
use Rattle.std.proofs.Common.{◌≡◌, inl, ℕ, List, Err, refl}
use Rattle.sshkey_model.specs.Reading.{Fault, after_at}
use Rattle.sshkey_model.specs.Grammar.{IsGrammar}
use Rattle.sshkey_model.specs.Keys.{Key}
use Rattle.sshkey_model.specs.KeyDerivation.{Cipher, NoCipher, Kdf, NoKdf, Bcrypt}
use Rattle.sshkey_model.specs.PrivateKeys.{private_key_magic}
use Rattle.sshkey_model.proofs.CombinedReaders.{bind_assoc}
use Rattle.sshkey_model.proofs.Grammars.{all_end, by_itself, AllEnd}
use Rattle.sshkey_model.specs.Formats.{IsFormat}
use Rattle.sshkey_model.specs.Leaves.{number32_format}
use Rattle.sshkey_model.specs.Overruns.{AreLengths}
use Rattle.sshkey_base.proofs.Lawful.{number32_lawful, text_lawful}
use Rattle.sshkey_model.specs.Terms.{◌then◌}
use Rattle.sshkey_terms.proofs.Lawful.{IsMapped, boxed_lawful, called_ends, called_lawful, literal_lawful, read_as_lawful, tested_lawful, then_lawful, without_memory_lawful}
use Rattle.sshkey_keys.proofs.Lawful.{key_lawful}
use Rattle.sshkey_ciphers.proofs.Lawful.{cipher_lawful, kdf_lawful, sealed_lawful}
use Rattle.sshkey_pairs.proofs.Keypairs.{keypair_lawful}
use Rattle.sshkey_private.specs.PrivateParts.{one_checkint, checkint_term, checkint_at, checkint_format, half_of, pair_term, pair_with_at, pair_format, unencrypted_of_parts, inner_term, inner_at, inner_format, part_format}
use Rattle.sshkey_private.specs.PrivateKeyFormats.{Opening, magic_format, one_key, one_format, sealing_format, opening_parts, opening_of_parts, opening_at, opening_format, key_of_part, unencrypted_below, unencrypted_format, encrypted_format, refused_format, content_term, OverrunsContent, content_format, file_format}
use Rattle.sshkey_private.proofs.Padded.{padded_lawful}

-- ---- the private part of a key that is not encrypted

pub checkints_lawful : IsFormat (number32_format then number32_format)
checkints_lawful = then_lawful number32_lawful number32_lawful

checkint_is : (b : List ℕ) → checkint_at b ≡ checkint_term.read b
unfolding checkint_at
checkint_is b = refl

pub checkint_lawful : IsFormat checkint_format
checkint_lawful = read_as_lawful (without_memory_lawful (tested_lawful one_checkint checkints_lawful)) checkint_is (λ b. refl)

pair_is : (public : Key) (b : List ℕ) → pair_with_at public b ≡ (pair_term public).read b
unfolding pair_with_at
pair_is public b = refl

pub pair_lawful : (public : Key) → IsFormat (pair_format public)
pair_lawful public = read_as_lawful (tested_lawful (half_of public) keypair_lawful) (pair_is public) (λ b. refl)

pub inner_is : (public : Key) (b : List ℕ) → inner_at public b ≡ (inner_term public).read b
unfolding inner_at after_at
inner_is public b = simp bind_assoc

pub inner_lawful : (public : Key) → IsFormat (inner_format public)
inner_lawful public = read_as_lawful (tested_lawful unencrypted_of_parts (then_lawful checkint_lawful (then_lawful (pair_lawful public) text_lawful))) (inner_is public) (λ b. refl)

pub part_lawful : (limit : ℕ) (public : Key) → IsFormat (part_format limit public)
part_lawful limit public = boxed_lawful (padded_lawful limit (inner_format public) (inner_lawful public) (λ b. refl))

-- ---- what stands before it

pub magic_lawful : IsFormat magic_format
magic_lawful = literal_lawful private_key_magic

pub one_lawful : IsFormat one_format
one_lawful = tested_lawful one_key number32_lawful

pub sealing_lawful : IsFormat sealing_format
sealing_lawful = then_lawful magic_lawful (then_lawful cipher_lawful kdf_lawful)

pub opening_parts_read : IsMapped opening_at opening_of_parts opening_parts.read
unfolding opening_at
opening_parts_read = record { same = λ b. refl }

pub opening_lawful : IsFormat opening_format
opening_lawful = read_as_lawful (tested_lawful opening_of_parts (then_lawful sealing_lawful (then_lawful one_lawful (boxed_lawful key_lawful)))) (λ b. opening_parts_read.same b) (λ b. refl)

-- ---- the private part

pub unencrypted_read : (limit : ℕ) (public : Key) → IsMapped (unencrypted_below limit public) key_of_part (part_format limit public).read
unfolding unencrypted_below
unencrypted_read limit public = record { same = λ b. refl }

unencrypted_lawful : (limit : ℕ) (public : Key) → IsFormat (unencrypted_format limit public)
unencrypted_lawful limit public = read_as_lawful (tested_lawful key_of_part (part_lawful limit public)) (λ b. (unencrypted_read limit public).same b) (λ b. refl)

encrypted_lawful : (c : Cipher) (k : Kdf) (public : Key) → IsFormat (encrypted_format c k public)
encrypted_lawful c k public = tested_lawful _ (sealed_lawful c)

refused_grammar : {A : Type 0} (fault : Fault) → IsGrammar (λ (x : A) (b : List ℕ). ⊥) (λ b. Err fault)
refused_grammar fault = record { takes = λ b x rest e. absurd (cc e); again = λ x front rest s. absurd s }

refused_lawful : {A : Type 0} (fault : Fault) → IsFormat (refused_format {A = A} fault)
refused_lawful fault = record { grammar = by_itself (refused_grammar fault); lengths = λ b m o. absurd o }

term_lawful : (limit : ℕ) (c : Cipher) (k : Kdf) (public : Key) → IsFormat (content_term limit c k public)
term_lawful limit NoCipher NoKdf public = unencrypted_lawful limit public
term_lawful limit NoCipher (Bcrypt o) public = refused_lawful _
term_lawful limit c k public = encrypted_lawful c k public

content_ends : (limit : ℕ) (c : Cipher) (k : Kdf) (public : Key) → AllEnd (content_term limit c k public).read (content_term limit c k public).delimited_at
content_ends limit NoCipher NoKdf public b = refl
content_ends limit NoCipher (Bcrypt o) public b = refl
content_ends limit c k public b = refl

content_lengths : (limit : ℕ) (c : Cipher) (k : Kdf) (public : Key) → AreLengths (content_term limit c k public).read (OverrunsContent c k public)
content_lengths limit NoCipher NoKdf public b m o = (unencrypted_lawful limit public).lengths b m o
content_lengths limit NoCipher (Bcrypt p) public b m o = absurd o
content_lengths limit c k public b m o = (encrypted_lawful c k public).lengths b m (inl o)

content_lawful : (limit : ℕ) (h : Opening) → IsFormat (content_format limit h)
content_lawful limit h = record { grammar = (term_lawful limit h.cipher h.kdf h.public).grammar; lengths = content_lengths limit h.cipher h.kdf h.public }

-- ---- the whole file

pub file_lawful : (limit : ℕ) → IsFormat (file_format limit)
file_lawful limit = called_lawful opening_lawful (content_lawful limit)

pub file_grammar : (limit : ℕ) → IsGrammar (file_format limit).Spells (file_format limit).read
file_grammar limit = all_end (file_lawful limit).grammar (called_ends opening_format (content_format limit) (λ b. refl) (λ h. content_ends limit h.cipher h.kdf h.public))
