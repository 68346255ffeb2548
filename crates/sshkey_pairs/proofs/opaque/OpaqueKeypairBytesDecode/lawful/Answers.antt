use Rattle.std.proofs.Common.{[]}
use Rattle.sshkey_pairs.proofs.Keypairs.{opaque_pair_lawful}
use Rattle.sshkey_pairs.proofs.opaque.OpaqueKeypairBytesDecode.lawful.Goals as goal

pub returns : goal.returns
returns c = opaque_pair_lawful []
