-- The random art of a fingerprint, and what is shown of a fingerprint under a header.
use Rattle.std.specs.Prelude.{ℕ, List}
use Rattle.sshkey_fingerprints.specs.Fingerprints.{fingerprint_hash, digest_of}
use Rattle.sshkey_fingerprints.specs.RandomArt.{picture}
use Rattle.sshkey_fingerprints.specs.declared.fingerprint.Fingerprint.{Fingerprint}
use Rattle.sshkey_fingerprints.specs.declared.fingerprint.picture.Picture.{Picture}

abbrev pub art_of : List ℕ → Fingerprint → List ℕ
art_of header f = picture header (fingerprint_hash f) (digest_of f)

abbrev pub picture_of : Picture → List ℕ
picture_of p = art_of p.header.now p.fingerprint
