use Rattle.sshkey_base.specs.Causes.{cause}
use Rattle.sshkey_base.proofs.Accepted.{accepts_front}
use Rattle.sshkey_keys.proofs.SignatureReaders.{signature_grammar}
use Rattle.sshkey_keys.specs.Signatures.{signature_of}
use Rattle.sshkey_keys.proofs.signature.Signature.from_front.Goals as goal

pub returns-clause-reads : goal.returns-clause-reads
returns-clause-reads c =
    let gives = c.decode_front.ensures.gives in
    record { rest = _; gives = gives; accepts = accepts_front signature_grammar signature_of cause _ _ _ gives }
