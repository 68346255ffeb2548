use Rattle.std.proofs.Common.{refl}
use Rattle.sshkey_model.specs.KeyDerivation.{cipher_name, ciphers}
use Rattle.sshkey_base.proofs.OtherNames.{named-none}
use Rattle.sshkey_ciphers.proofs.cipher.CipherFromStr.from_str.Goals as goal

pub returns-in_default : goal.returns-in_default
returns-in_default c =
    let d = c.in_default in
    let none = named-none cipher_name ciphers c.args.name.now (d.not-none, (d.not-text, (d.not-text-2, (d.not-text-3, (d.not-text-4, (d.not-text-5, (d.not-text-6, (d.not-text-7, (d.not-text-8, (d.not-text-9, (d.not-text-10, tt))))))))))) in
    record { none = rw none refl; label = refl }
