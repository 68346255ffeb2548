-- What a signature that was read signs has no part that is too long.
use Rattle.std.proofs.Common.{◌<◌, ◌^◌, List, ℕ, length}
use Rattle.sshkey_model.specs.Parts.{BoxesFit, flat}
use Rattle.sshkey_model.proofs.Trees.{spelled_alike}
use Rattle.sshkey_sshsig.specs.Signing.{digest_parts}
use Rattle.sshkey_sshsig.specs.SshSignatures.{ssh_signature_of}
use Rattle.sshkey_sshsig.specs.SshSignatureReaders.{SpellsSshSignature}
use Rattle.sshkey_sshsig.proofs.SshSignatureTrees.{ssh_signature_tree}
use Rattle.sshkey_sshsig.specs.declared.sshsig.SshSig.{SshSig}

-- its namespace, its reserved bytes and its hash's name fitted where they were read
pub parts_fit : (f : SshSig) (bytes digest : List ℕ) → SpellsSshSignature (ssh_signature_of f) bytes → length digest < 2 ^ 32 → BoxesFit (digest_parts f digest)
unfolding BoxesFit flat
parts_fit f bytes digest spelled short = let s = (spelled_alike ssh_signature_tree (ssh_signature_of f) bytes).0 spelled in (tt, (s.fits.boxes.1.1.1.0, (s.fits.boxes.1.1.1.1.0, (s.fits.boxes.1.1.1.1.1.0, (short, tt)))))
