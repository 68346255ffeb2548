use Rattle.sshkey_model.specs.Parts.{IsPrefixFree}
use Rattle.ssh_key.proofs.laws.prefixes.Goals as goal

pub returns-clause-bodies : goal.returns-clause-bodies
unfolding IsPrefixFree
returns-clause-bodies c = c.prefix_body.ensures

pub returns-clause-certificates : goal.returns-clause-certificates
unfolding IsPrefixFree
returns-clause-certificates c = c.prefix_certificate.ensures

pub returns-clause-scalars : goal.returns-clause-scalars
unfolding IsPrefixFree
returns-clause-scalars c = c.prefix_scalar.ensures

pub returns-clause-pairs : goal.returns-clause-pairs
unfolding IsPrefixFree
returns-clause-pairs c = c.prefix_pair.ensures

pub returns-clause-ecdsa_pairs : goal.returns-clause-ecdsa_pairs
unfolding IsPrefixFree
returns-clause-ecdsa_pairs c = c.prefix_ecdsa_pair.ensures

pub returns-clause-ssh_signatures : goal.returns-clause-ssh_signatures
unfolding IsPrefixFree
returns-clause-ssh_signatures c = c.prefix_ssh_signature.ensures

pub returns-clause-private_keys : goal.returns-clause-private_keys
unfolding IsPrefixFree
returns-clause-private_keys c = c.prefix_private_key.ensures

pub returns-clause-padded_private_keys : goal.returns-clause-padded_private_keys
unfolding IsPrefixFree
returns-clause-padded_private_keys c = c.prefix_padded_private_key.ensures
