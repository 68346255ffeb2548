-- A private key that is made of a pair.
use Rattle.std.proofs.Common.{◌≡◌, ℕ, List, true, false, Option, Some, None, option_map, Ok, Err, refl}
use Rattle.sshkey_model.specs.Keys.{Key}
use Rattle.sshkey_model.specs.KeyDerivation.{NoCipher, NoKdf}
use Rattle.sshkey_model.specs.KeyPairs.{KeyPair, public_half}
use Rattle.sshkey_model.specs.PrivateKeys.{EncryptedKey}
use Rattle.sshkey_base.specs.declared.error.Error.{Error}
use Rattle.sshkey_base.specs.declared.error.Error.TheVariants as wide
use Rattle.sshkey_pairs.specs.declared.keypair_data.KeypairData.{KeypairData}
use Rattle.sshkey_pairs.specs.declared.keypair_data.KeypairData.TheVariants as kinds
use Rattle.sshkey_pairs.specs.Keypairs.{pair_of, checkint_of, is_encrypted}
use Rattle.sshkey_public.specs.PublicKeys.{comment_of}
use Rattle.sshkey_private.specs.declared.private_key.PrivateKey.{PrivateKey}
use Rattle.sshkey_private.specs.Forms.{has_form}
use Rattle.sshkey_private.specs.PrivateKeys.{GivesNew}
use Rattle.sshkey_private.proofs.KeyForms.{form_of_pair}

some_same : {A : Type 0} (x y : A) → Some x ≡ Some y → x ≡ y
some_same x y e = cc

-- without a cipher, beside the public half
pub form_of_new : (o : Option KeyPair) (e : EncryptedKey) → e.cipher ≡ NoCipher → e.kdf ≡ NoKdf → option_map public_half o ≡ Some e.public → has_form o e ≡ true
form_of_new (Some k) e c d same = form_of_pair k e c d (some_same (public_half k) e.public same)
form_of_new None e c d same = absurd cc

-- no public half was given
pub none_made : (d : KeypairData) (comment : List ℕ) (e : Error) → (is_encrypted d ≡ true → e ≡ wide.Encrypted) → (is_encrypted d ≡ false → e ≡ wide.Memory) → GivesNew (pair_of d) comment (Err e)
none_made (kinds.Encrypted c) comment e encrypted memory = encrypted refl
none_made _ comment e encrypted memory = memory refl

-- the pair, its checkint and the comment make the key
pub some_made : (o : Option KeyPair) (comment : List ℕ) (public : Key) (x : PrivateKey) → option_map public_half o ≡ Some public → pair_of x.key_data ≡ o → x.checkint ≡ checkint_of o → comment_of x.public_key ≡ comment → GivesNew o comment (Ok x)
some_made (Some k) comment public x half pair checkint same = rw (pair, checkint, same) refl
some_made None comment public x half pair checkint same = absurd cc
