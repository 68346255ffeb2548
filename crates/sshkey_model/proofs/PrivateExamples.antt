-- The worked examples of ciphers, key pairs and private keys hold.
use Rattle.std.proofs.Common.{refl}
use Rattle.sshkey_model.specs.Parts.{flat}
use Rattle.sshkey_model.specs.Reading.{number_at, bytes_at, string_at, box_at, after_at}
use Rattle.sshkey_model.specs.Labels.{label_at}
use Rattle.sshkey_model.specs.Names.{named}
use Rattle.sshkey_model.specs.Mpints.{mpint_at}
use Rattle.sshkey_model.specs.KeyPairs.{scalar_at, any_ecdsa_pair_at, keypair_at}
use Rattle.sshkey_model.specs.PrivateExamples.{CipherTable, PaddingLengths, FirstBits, WrittenScalars, ReadScalars, ReadShortScalars, RefusedScalars, Ed25519Pairs, RsaPairs, EcdsaPairs, WrittenPairs, Checkints, WrittenKey, PaddingEdges}

pub cipher_table : CipherTable
cipher_table = refl

pub padding_lengths : PaddingLengths
padding_lengths = (refl, refl, refl, refl, refl, refl, refl)

pub first_bits : FirstBits
first_bits = (refl, refl, refl)

pub written_scalars : WrittenScalars
unfolding flat
written_scalars = (refl, refl, refl, refl)

pub read_scalars : ReadScalars
unfolding scalar_at box_at number_at bytes_at
read_scalars = (refl, refl, refl, refl, refl, refl)

pub read_short_scalars : ReadShortScalars
unfolding scalar_at box_at number_at bytes_at flat
read_short_scalars = (refl, refl, refl, refl, refl, refl, refl)

pub refused_scalars : RefusedScalars
unfolding scalar_at box_at number_at bytes_at
refused_scalars = (refl, refl, refl, refl, refl, refl)

pub ed25519_pairs : Ed25519Pairs
unfolding after_at box_at number_at bytes_at
ed25519_pairs = (refl, refl)

pub rsa_pairs : RsaPairs
unfolding flat keypair_at after_at label_at mpint_at string_at number_at bytes_at named
rsa_pairs = (refl, refl)

pub ecdsa_pairs : EcdsaPairs
unfolding any_ecdsa_pair_at after_at label_at scalar_at box_at string_at number_at bytes_at named
ecdsa_pairs = (refl, refl, refl, refl)

pub written_pairs : WrittenPairs
unfolding flat
written_pairs = (refl, refl, refl, refl)

pub checkints : Checkints
checkints = (refl, refl, refl, refl, refl, refl, refl, refl, refl)

pub written_key : WrittenKey
unfolding flat
written_key = (refl, refl, refl)

pub padding_edges : PaddingEdges
unfolding flat
padding_edges = (refl, refl, refl, refl, refl)
