use Rattle.std.proofs.Common.{refl}
use Rattle.sha1.specs.Sha1.{first_words, schedule, rounds, compress, hash_after, digest_bytes, sha1}
use Rattle.sshkey_known_hosts.proofs.examples.hmacs.Goals as goal

pub returns : goal.returns
unfolding first_words schedule rounds compress hash_after digest_bytes sha1
returns c = (refl, refl, refl)
