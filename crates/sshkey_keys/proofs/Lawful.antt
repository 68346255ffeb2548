-- The formats of keys and signatures are lawful.
use Rattle.std.proofs.Common.{refl}
use Rattle.sshkey_model.specs.Keys.{kind_format, body_format, key_data_at, key_format}
use Rattle.sshkey_model.specs.Names.{Algorithm, NeedsAlgorithm, name_format}
use Rattle.sshkey_model.specs.Names as names
use Rattle.sshkey_model.proofs.Grammars.{grammar, by_itself}
use Rattle.sshkey_model.proofs.NameReaders.{algorithm_checks}
use Rattle.sshkey_model.proofs.SignatureReaders.{signature_blob_reads}
use Rattle.sshkey_model.specs.Formats.{IsFormat}
use Rattle.sshkey_base.proofs.Lawful.{label_lawful, string_lawful}
use Rattle.sshkey_terms.proofs.Lawful.{called_lawful, known_as_lawful, tested_lawful}
use Rattle.sshkey_kinds.proofs.Lawful.{dsa_lawful, any_ecdsa_lawful, ed25519_lawful, rsa_lawful, sk_ecdsa_lawful, sk_ed25519_lawful}
use Rattle.sshkey_model.specs.Signatures.{blob_format, signature_with, signature_under, signature_at, signature_format}
use Rattle.sshkey_keys.proofs.KeyReaders.{body_grammar, key_grammar}
use Rattle.sshkey_keys.proofs.SignatureReaders.{blob_lengths, signature_grammar}

pub name_lawful : IsFormat name_format
name_lawful = label_lawful NeedsAlgorithm algorithm_checks

kind_lawful : (a : Algorithm) → IsFormat (kind_format a)
kind_lawful names.Dsa = dsa_lawful
kind_lawful (names.Ecdsa curve) = tested_lawful _ any_ecdsa_lawful
kind_lawful names.Ed25519 = ed25519_lawful
kind_lawful (names.Rsa hash) = rsa_lawful
kind_lawful names.SkEcdsa = sk_ecdsa_lawful
kind_lawful names.SkEd25519 = sk_ed25519_lawful
kind_lawful (names.Other name) = tested_lawful _ string_lawful

pub body_lawful : (a : Algorithm) → IsFormat (body_format a)
body_lawful a = known_as_lawful (kind_lawful a) (λ b. refl) (body_grammar a)

pub key_lawful : IsFormat key_format
unfolding key_data_at
key_lawful = known_as_lawful (called_lawful name_lawful body_lawful) (λ b. refl) key_grammar

-- ---- signatures

pub blob_lawful : (a : Algorithm) → IsFormat (blob_format a)
blob_lawful a = record { grammar = by_itself (grammar (signature_blob_reads a)); lengths = blob_lengths a }

pub under_lawful : (a : Algorithm) → IsFormat (signature_under a)
under_lawful a = tested_lawful (signature_with a) (blob_lawful a)

pub signature_lawful : IsFormat signature_format
unfolding signature_at
signature_lawful = known_as_lawful (called_lawful name_lawful under_lawful) (λ b. refl) signature_grammar
