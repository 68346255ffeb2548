-- Scalars are read exactly where they are spelled, and an ECDSA pair by its key.
use Rattle.std.proofs.Common.{ℕ, refl}
use Rattle.sshkey_model.specs.Grammar.{IsGrammar, value_at}
use Rattle.sshkey_model.specs.Keys.{any_ecdsa_format, Key}
use Rattle.sshkey_model.specs.KeyPairs.{SpellsScalar, scalar_at, scalar_whole, pair_of_key, any_ecdsa_pair_format, dsa_pair_format, rsa_private_format, rsa_pair_format, ed25519_pair_format, scalar_format, security_private_format, sk_ecdsa_pair_format, sk_ed25519_pair_format}
use Rattle.sshkey_model.proofs.Grammars.{grammar_with, by_itself}
use Rattle.sshkey_model.proofs.KeyPairReaders.{scalar_reads}
use Rattle.sshkey_model.specs.Overruns.{OverrunsString, AreLengths}
use Rattle.sshkey_base.proofs.Lengths.{box_lengths}
use Rattle.sshkey_terms.proofs.Lawful.{IsChosen, called_chosen, called_lawful, tested_lawful, then_lawful, without_memory_lawful}
use Rattle.sshkey_model.specs.Formats.{IsFormat}
use Rattle.sshkey_model.specs.Leaves.{array_format}
use Rattle.sshkey_base.proofs.Lawful.{array_lawful, byte_lawful, mpint_lawful, string_lawful}
use Rattle.sshkey_model.specs.Terms.{◌then◌}
use Rattle.sshkey_kinds.proofs.Lawful.{dsa_lawful, any_ecdsa_lawful, sk_ecdsa_lawful, sk_ed25519_lawful}

pub scalar_grammar : (size : ℕ) → IsGrammar (SpellsScalar size) (value_at (scalar_at size))
scalar_grammar size = grammar_with (scalar_reads size)

pub scalar_lengths : (size : ℕ) → AreLengths (value_at (scalar_at size)) OverrunsString
unfolding scalar_at
scalar_lengths size b m o = rw (box_lengths (scalar_whole size) b m o) refl

pub ecdsa_pair_chosen : IsChosen any_ecdsa_pair_format.read any_ecdsa_format.read (λ k. (pair_of_key k).read)
ecdsa_pair_chosen = called_chosen any_ecdsa_format.read (λ k. (pair_of_key k).read)

-- The formats of pairs are lawful.

pub dsa_pair_lawful : IsFormat dsa_pair_format
dsa_pair_lawful = tested_lawful _ (then_lawful dsa_lawful mpint_lawful)

pub rsa_private_lawful : IsFormat rsa_private_format
rsa_private_lawful = tested_lawful _ (then_lawful mpint_lawful (then_lawful mpint_lawful (then_lawful mpint_lawful mpint_lawful)))

pub rsa_pair_lawful : IsFormat rsa_pair_format
rsa_pair_lawful = tested_lawful _ (then_lawful mpint_lawful (then_lawful mpint_lawful rsa_private_lawful))

pub halves_lawful : IsFormat (array_format 32 then array_format 64)
halves_lawful = then_lawful (array_lawful 32) (array_lawful 64)

pub ed25519_pair_lawful : IsFormat ed25519_pair_format
ed25519_pair_lawful = without_memory_lawful (tested_lawful _ halves_lawful)

-- ---- ECDSA

pub scalar_lawful : (size : ℕ) → IsFormat (scalar_format size)
scalar_lawful size = record { grammar = by_itself (scalar_grammar size); lengths = scalar_lengths size }

of_key_lawful : (k : Key) → IsFormat (pair_of_key k)
of_key_lawful k = tested_lawful _ (scalar_lawful _)

pub any_ecdsa_pair_lawful : IsFormat any_ecdsa_pair_format
any_ecdsa_pair_lawful = without_memory_lawful (called_lawful any_ecdsa_lawful of_key_lawful)

-- ---- of security keys

pub security_private_lawful : IsFormat security_private_format
security_private_lawful = tested_lawful _ (then_lawful byte_lawful (then_lawful string_lawful string_lawful))

pub sk_ecdsa_pair_lawful : IsFormat sk_ecdsa_pair_format
sk_ecdsa_pair_lawful = tested_lawful _ (then_lawful sk_ecdsa_lawful security_private_lawful)

pub sk_ed25519_pair_lawful : IsFormat sk_ed25519_pair_format
sk_ed25519_pair_lawful = tested_lawful _ (then_lawful sk_ed25519_lawful security_private_lawful)
