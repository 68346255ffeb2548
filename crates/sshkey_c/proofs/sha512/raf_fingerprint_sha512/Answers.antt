use Rattle.std.proofs.Common.{ap}
use Rattle.sshkey_fingerprints.specs.Fingerprints.{digest_of}
use Rattle.sshkey_model.specs.Names.{Sha512}
use Rattle.sshkey_calls.proofs.Digests.{digest_given, no_digest}
use Rattle.sshkey_c.proofs.sha512.raf_fingerprint_sha512.Goals as goal

pub returns : goal.returns
returns c = digest_given Sha512 c.args.key.now c.in-Ok.fingerprint _ _ c.in-Ok.ensures (ap digest_of c.in-Some.ensures)

pub returns-in-Err : goal.returns-in-Err
returns-in-Err c = no_digest Sha512 c.args.key.now c.in-Err.number _ c.in-Err.ensures
