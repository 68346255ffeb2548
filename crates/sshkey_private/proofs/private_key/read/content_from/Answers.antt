use Rattle.std.proofs.Common.{◌≡◌, IsTrue, suc}
use Rattle.sshkey_base.specs.Causes.{cause}
use Rattle.sshkey_keys.specs.Keys.{key_of}
use Rattle.sshkey_ciphers.specs.Ciphers.{cipher_of, kdf_of}
use Rattle.sshkey_model.specs.KeyDerivation.{NoKdf}
use Rattle.sshkey_private.proofs.KeyReaders.{plain_stops, underived_stopped}
use Rattle.sshkey_private.proofs.private_key.read.content_from.Goals as goal

pub returns-clause-past : goal.returns-clause-past
returns-clause-past g c =
    let opening = c.args.opening in
    let none : IsTrue c.is_none.result = (let h = c.if-not-is_none.false in cc) in
    let underived : IsTrue c.is_none-2.result = (let h = c.if-not-is_none-2.false in cc) in
    plain_stops (suc c.args.most) (key_of opening.public) cause (g.R.Reader.source c.args.reader.now) (cipher_of opening.cipher) (kdf_of opening.kdf) _ (c.is_none.ensures.0 none) (c.is_none-2.ensures.0 underived) c.unencrypted_from.ensures.past

pub returns-then-not-is_none-2-clause-past : goal.returns-then-not-is_none-2-clause-past
returns-then-not-is_none-2-clause-past g c =
    let opening = c.args.opening in
    let none : IsTrue c.is_none.result = (let h = c.if-not-is_none.false in cc) in
    let derived : kdf_of opening.kdf ≡ NoKdf → ⊥ = λ is. (let h = c.if-not-is_none-2.true in let t = c.is_none-2.ensures.1 is in absurd cc) in
    underived_stopped (suc c.args.most) (key_of opening.public) _ (g.R.Reader.source c.args.reader.now) (cipher_of opening.cipher) (kdf_of opening.kdf) (c.is_none.ensures.0 none) derived
