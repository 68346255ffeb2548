use Rattle.std.proofs.Common.{refl}
use Rattle.sha1.specs.Sha1.{compress, digest_bytes, first_words, hash_after, rounds, schedule, sha1}
use Rattle.sha2.specs.Sha256.{compress as compress_256, digest_bytes as digest_bytes_256, first_words as first_words_256, hash_after as hash_after_256, rounds as rounds_256, schedule as schedule_256, sha256}
use Rattle.sshkey_krl.proofs.examples.key_sections.Goals as goal

pub returns : goal.returns
unfolding compress digest_bytes first_words hash_after rounds schedule sha1 compress_256 digest_bytes_256 first_words_256 hash_after_256 rounds_256 schedule_256 sha256
returns c = (refl, refl, refl, refl, refl, refl, refl)
