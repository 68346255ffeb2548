use Rattle.std.proofs.lemmas.Result.{err_from_is_err_and}
use Rattle.sshkey_keys.specs.Keys.{key_of}
use Rattle.sshkey_ciphers.specs.Ciphers.{cipher_of, kdf_of}
use Rattle.sshkey_private.proofs.KeyReaders.{encrypted_stopped}
use Rattle.sshkey_private.proofs.private_key.read.encrypted_from.Goals as goal

pub returns-in_err-ciphertext-clause-past : goal.returns-in_err-ciphertext-clause-past
returns-in_err-ciphertext-clause-past g c =
    let p = err_from_is_err_and c.from_residual.result c.from_residual.ensures.1 in
    rw (p.1, p.2) (encrypted_stopped (cipher_of c.args.opening.cipher) (kdf_of c.args.opening.kdf) (key_of c.args.opening.public) _ _ c.in_err-ciphertext.ensures.past)
