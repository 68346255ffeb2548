use Rattle.std.proofs.Common.{ap}
use Rattle.sshkey_fingerprints.specs.Fingerprints.{digest_of}
use Rattle.sshkey_model.specs.Names.{Sha256}
use Rattle.sshkey_calls.proofs.Digests.{digest_given, no_digest}
use Rattle.sshkey_c.proofs.key.raf_fingerprint.Goals as goal

pub returns : goal.returns
returns c = digest_given Sha256 c.args.key.now c.in-Ok.fingerprint _ _ c.in-Ok.ensures (ap digest_of c.in-Some.ensures)

pub returns-in-Err : goal.returns-in-Err
returns-in-Err c = no_digest Sha256 c.args.key.now c.in-Err.number _ c.in-Err.ensures
