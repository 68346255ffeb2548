use Rattle.std.proofs.Common.{◌≡◌, sym, ◌∙◌, cond, Bool, ap}
use Rattle.sshkey_model.specs.KeyDerivation.{tag_size}
use Rattle.sshkey_ciphers.specs.Ciphers.{cipher_of}
use Rattle.sshkey_ciphers.proofs.Ciphertexts.{no_tag}
use Rattle.sshkey_ciphers.proofs.ciphertext.tag_from.Goals as goal

pub returns-then-not-has_tag-clause-gives : goal.returns-then-not-has_tag-clause-gives
returns-then-not-has_tag-clause-gives g c =
    let none : tag_size (cipher_of c.args.cipher) ≡ 0 = sym c.has_tag.ensures ∙ ap (λ (b : Bool). cond b 16 0) c.if-not-has_tag.true in
    no_tag _ _ none
