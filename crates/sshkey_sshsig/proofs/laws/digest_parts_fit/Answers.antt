use Rattle.std.proofs.Common.{◌≡◌, ◌<◌, ◌^◌, ℕ, List, length, arith}
use Rattle.sshkey_base.specs.Names.{digest_len}
use Rattle.sshkey_model.specs.Names.{Hash, Sha256, Sha512}
use Rattle.sshkey_sshsig.specs.SshSignatures.{ssh_signature_of}
use Rattle.sshkey_sshsig.proofs.SshSignatures.{parts_fit}
use Rattle.sshkey_sshsig.proofs.laws.digest_parts_fit.Goals as goal

short_digest : (h : Hash) (d : List ℕ) → length d ≡ digest_len h → length d < 2 ^ 32
short_digest Sha256 d is = omega (arith, is)
short_digest Sha512 d is = omega (arith, is)

pub returns : goal.returns
returns c f bytes digest spelled is = parts_fit f bytes digest spelled (short_digest (ssh_signature_of f).hash digest is)
