-- How many bytes the magic ones are.
use Rattle.std.proofs.Common.{refl}
use Rattle.sshkey_model.specs.Parts.{bytes, flat, BoxesFit}
use Rattle.sshkey_model.specs.SshSignatures.{signature_magic}
use Rattle.sshkey_base.proofs.Measured.{Has}

pub magic_has : Has (bytes signature_magic) 6
unfolding flat BoxesFit
magic_has = (tt, refl)
