-- A worked example: the random art of an Ed25519 key.
use Rattle.std.specs.Prelude.{◌≡◌, codes}
use Rattle.sshkey_model.specs.HexText.{hex}
use Rattle.sshkey_model.specs.Names.{Sha256}
use Rattle.sshkey_fingerprints.specs.RandomArt.{picture}

-- what ssh-keygen shows of the key with this fingerprint
abbrev pub WorkedPicture : Type 0
WorkedPicture = picture (codes "[ED25519 256]") Sha256 (hex "5025222ebecf8ecf7014524c0c1c8b81cdcdaed754df8e0e814338e7064f7084")
    ≡ codes "+--[ED25519 256]--+\n|o+oO==+ o..      |\n|.o++Eo+o..       |\n|. +.oO.o . .     |\n| . o..B.. . .    |\n|  ...+ .S. o     |\n|  .o. . . . .    |\n|  o..    o       |\n|   B      .      |\n|  .o*            |\n+----[SHA256]-----+"
