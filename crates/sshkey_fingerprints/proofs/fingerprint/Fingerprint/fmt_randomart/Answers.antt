use Rattle.std.proofs.Common.{refl}
use Rattle.std.proofs.Output.{has_written_append, has_written_of_eq}
use Rattle.sshkey_fingerprints.specs.Fingerprints.{fingerprint_hash, digest_of}
use Rattle.sshkey_fingerprints.proofs.Pictures.{pictured}
use Rattle.sshkey_fingerprints.proofs.fingerprint.Fingerprint.fmt_randomart.Goals as goal

pub returns : goal.returns
returns g c = λ plain ok.
    let first = c.in_ok-write_title.ensures plain refl in
    let rows = c.in_ok-write.ensures.writes first.plain refl in
    let last = c.write_title-2.ensures rows.plain ok in
    has_written_of_eq _ _ _ _ _ (pictured c.args.header.now c.label.result.now c.as_bytes.result.now (digest_of c.args.self.now) c.new-art.result.shades (fingerprint_hash c.args.self.now) c.new-art.ensures c.as_bytes.ensures c.label.ensures) (has_written_append _ _ _ _ _ _ (has_written_append _ _ _ _ _ _ first rows) last)
