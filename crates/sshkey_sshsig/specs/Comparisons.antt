-- What the equality of SSH signatures goes by.
use Rattle.sshkey_keys.specs.Comparisons.{HasForm}
use Rattle.sshkey_sshsig.specs.declared.sshsig.SshSig.{SshSig}
use Rattle.sshkey_sshsig.specs.SshSignatures.{signer_of}

-- It is by a well-formed key.
abbrev pub IsByKey : SshSig → Type 0
IsByKey f = HasForm (signer_of f)
