-- The formats of ciphertexts and key derivations are lawful.
use Rattle.std.proofs.Common.{◌≡◌, ℕ, List, length, refl, eqb, Ok, sym, ap, subst}
use Rattle.std.specs.Prelude.{◌==◌, ◌%◌}
use Rattle.sshkey_model.specs.Reading.{Crypto, bytes_at, AlgorithmUnknown}
use Rattle.sshkey_model.specs.Grammar.{IsGrammar, Spells}
use Rattle.sshkey_model.specs.KeyDerivation.{Cipher, block_size, tag_size, KdfAlgorithm, NoDerivation, BcryptDerivation, Kdf, NoKdf, Bcrypt, derivation, kdf_algorithm, kdf_options, kdf, cipher}
use Rattle.sshkey_model.proofs.CipherNames.{cipher_checks, kdf_algorithm_checks}
use Rattle.sshkey_model.proofs.CombinedReaders.{bytes_reads, checked_string_reads, kept_bytes, met, ok_is, prefix_free}
use Rattle.sshkey_model.proofs.Grammars.{all_end, by_itself, grammar, AllEnd, ends}
use Rattle.sshkey_model.specs.Formats.{IsFormat}
use Rattle.sshkey_model.specs.Needs.{NoNeed}
use Rattle.sshkey_model.specs.Overruns.{AreLengths, OverrunsString}
use Rattle.sshkey_base.proofs.Lawful.{label_lawful, number32_lawful, string_lawful}
use Rattle.sshkey_base.proofs.Lengths.{checked_lengths, no_lengths, string_lengths}
use Rattle.sshkey_terms.proofs.Lawful.{boxed_lawful, called_chosen, called_ends, called_lawful, read_as_lawful, tested_lawful, then_lawful, IsChosen, IsMapped}
use Rattle.sshkey_ciphers.specs.Formats.{blocks_from, blocks_at, blocks_format, tag_format, sealed_format, cipher_format, algorithm_format, no_options, bcrypt_parts_format, bcrypt_of_parts, bcrypt_format, options_format, kdf_term, kdf_at, kdf_format, SpellsKdf, none_format, bcrypt_with, cipher_at, kdf_algorithm_at}
use Rattle.std.specs.Int.{w32}
use Rattle.std.proofs.lemmas.Bool.{eqb-true}
use Rattle.sshkey_model.specs.Parts.{Any, number, box, ◌&◌, flat, Fits, IsPrefixFree}
use Rattle.sshkey_model.specs.Texts.{string}
use Rattle.sshkey_model.proofs.Trees.{IsTree, Alike, alike, leaf_tree, dependent_tree, then_tree, box_tree, tested_tree, made_tree, plain_prefix, determined, read_back}
use Rattle.sshkey_model.specs.Leaves.{string_format}

-- ---- ciphertexts

pub blocks_lengths : (c : Cipher) → AreLengths (blocks_at c) OverrunsString
unfolding blocks_at
blocks_lengths c = checked_lengths (blocks_from c) string_lengths

pub blocks_lawful : (c : Cipher) → IsFormat (blocks_format c)
unfolding blocks_at
blocks_lawful c = record { grammar = by_itself (grammar (checked_string_reads (kept_bytes (λ b. length b % block_size c == 0) Crypto))); lengths = blocks_lengths c }

tag_lawful : (c : Cipher) → IsFormat (tag_format c)
tag_lawful c = record { grammar = by_itself (grammar (bytes_reads (tag_size c))); lengths = no_lengths (bytes_at (tag_size c)) }

pub sealed_lawful : (c : Cipher) → IsFormat (sealed_format c)
sealed_lawful c = then_lawful (blocks_lawful c) (tag_lawful c)

-- ---- what a key derivation takes

pub cipher_lawful : IsFormat cipher_format
cipher_lawful = label_lawful NoNeed cipher_checks

pub algorithm_lawful : IsFormat algorithm_format
algorithm_lawful = label_lawful NoNeed kdf_algorithm_checks

pub bcrypt_parts_read : IsMapped bcrypt_format.read bcrypt_of_parts bcrypt_parts_format.read
bcrypt_parts_read = record { same = λ b. refl }

options_lawful : (a : KdfAlgorithm) → IsFormat (options_format a)
options_lawful NoDerivation = tested_lawful no_options number32_lawful
options_lawful BcryptDerivation = tested_lawful bcrypt_of_parts (boxed_lawful (then_lawful string_lawful number32_lawful))

-- what either takes ends by itself
pub options_end : (a : KdfAlgorithm) → AllEnd (options_format a).read (options_format a).delimited_at
options_end NoDerivation b = refl
options_end BcryptDerivation b = refl

-- ---- a key derivation

kdf_is : (b : List ℕ) → kdf_at b ≡ kdf_term.read b
unfolding kdf_at
kdf_is b = refl

pub kdf_chosen : IsChosen kdf_at algorithm_format.read (λ a. (options_format a).read)
unfolding kdf_at
kdf_chosen = called_chosen algorithm_format.read (λ a. (options_format a).read)

pub kdf_lawful : IsFormat kdf_format
kdf_lawful = read_as_lawful (called_lawful algorithm_lawful options_lawful) kdf_is (called_ends algorithm_format options_format (λ b. refl) options_end)

pub kdf_grammar : IsGrammar SpellsKdf kdf_at
kdf_grammar = all_end kdf_lawful.grammar (λ b. refl)

-- The term of key derivations spells what PROTOCOL.key lays out.

none_tree : IsTree none_format.Spells (λ (x : Kdf × Unit {0}). derivation x.0 ≡ NoDerivation) (λ x. kdf_options x.0)
none_tree = tested_tree leaf_tree no_options there (λ y is. back y.0 is)
  where
    there : (x : ℕ × Unit {0}) (k : Kdf) → Any x.0 → no_options x.0 ≡ Ok k → (u : Unit {0}) × (derivation k ≡ NoDerivation) × Alike (number w32 x.0) (kdf_options k)
    there x k is e =
        let h = met (eqb x.0 0) AlgorithmUnknown (Ok NoKdf) k e in
        subst (λ (z : Kdf). (u : Unit {0}) × (derivation z ≡ NoDerivation) × Alike (number w32 x.0) (kdf_options z)) (ok_is NoKdf k h.1) (tt, refl, alike (number w32 x.0) (number w32 0) (ap (number w32) (eqb-true _ _ h.0)))

    back : (k : Kdf) → derivation k ≡ NoDerivation → (x : ℕ × Unit {0}) × Any x.0 × (no_options x.0 ≡ Ok k) × Alike (number w32 x.0) (kdf_options k)
    back NoKdf is = ((0, tt), tt, refl, alike (number w32 0) (number w32 0) refl)
    back (Bcrypt o) is = absurd (cc is)

bcrypt_tree : IsTree bcrypt_format.Spells (λ (x : Kdf × Unit {0}). derivation x.0 ≡ BcryptDerivation) (λ x. kdf_options x.0)
bcrypt_tree = made_tree
    (box_tree (then_tree {First = string_format.Spells} {delimited_at = string_format.delimited_at} (ends string_lawful.grammar (λ _. refl)) leaf_tree leaf_tree))
    bcrypt_with
    (λ x is. (tt, refl, alike _ _ refl))
    (λ y is. back y.0 is)
  where
    back : (k : Kdf) → derivation k ≡ BcryptDerivation → (x : (List ℕ × ℕ) × (Unit {0} × Unit {0})) × (Any x.0.0 × Any x.0.1) × (bcrypt_with x.0 ≡ k) × Alike (box (string x.0.0 & number w32 x.0.1)) (kdf_options k)
    back (Bcrypt o) is = (((o.salt, o.rounds), (tt, tt)), (tt, tt), refl, alike _ _ refl)
    back NoKdf is = absurd (cc is)

options_tree : (a : KdfAlgorithm) → IsTree (options_format a).Spells (λ (x : Kdf × Unit {0}). derivation x.0 ≡ a) (λ x. kdf_options x.0)
options_tree NoDerivation = none_tree
options_tree BcryptDerivation = bcrypt_tree

pub kdf_tree : IsTree SpellsKdf (λ (x : Kdf × Unit {0}). Any x.0) (λ x. kdf x.0)
kdf_tree = made_tree
    (dependent_tree {First = algorithm_format.Spells} {delimited_at = algorithm_format.delimited_at} (ends algorithm_lawful.grammar (λ _. refl)) leaf_tree options_tree)
    (λ x. x.1)
    (λ x is. (tt, tt, alike _ _ (ap (λ (a : KdfAlgorithm). kdf_algorithm a & kdf_options x.0.1) (sym is.1))))
    (λ y is. (((derivation y.0, y.0), (tt, tt)), (tt, refl), refl, alike _ _ refl))

-- what is written is a spelling
pub kdf_normal : (k : Kdf) → Any k → Fits (kdf k) → SpellsKdf k (flat (kdf k))
kdf_normal k is fits = kdf_tree.again (k, tt) is fits

-- The lemmas of the laws, which their functions name together.

pub exact_ciphers : IsGrammar (Spells Any cipher) cipher_at
exact_ciphers = all_end cipher_lawful.grammar (λ b. refl)

pub exact_algorithms : IsGrammar (Spells Any kdf_algorithm) kdf_algorithm_at
exact_algorithms = all_end algorithm_lawful.grammar (λ b. refl)

pub prefix_ciphers : IsPrefixFree Any cipher
prefix_ciphers = prefix_free (checked_string_reads cipher_checks)

pub prefix_algorithms : IsPrefixFree Any kdf_algorithm
prefix_algorithms = prefix_free (checked_string_reads kdf_algorithm_checks)

pub prefix_kdfs : IsPrefixFree Any kdf
prefix_kdfs = plain_prefix Any kdf kdf_tree kdf_grammar

pub ruleset laws = (exact_ciphers, exact_algorithms, prefix_ciphers, prefix_algorithms, prefix_kdfs, determined, read_back, kdf_grammar, kdf_normal)
