-- What a public key's value means.
use Rattle.std.specs.Prelude.{Result}
use Rattle.sshkey_model.specs.Names.{Algorithm}
use Rattle.sshkey_model.specs.Keys.{Key, key_algorithm, body_at}
use Rattle.sshkey_base.specs.declared.error.Error.{Error}
use Rattle.sshkey_base.specs.Causes.{cause}
use Rattle.sshkey_base.specs.Names.{algorithm_of}
use Rattle.sshkey_base.specs.Reading.{Gives}
use Rattle.sshkey_base.specs.Source.{Source}
use Rattle.sshkey_kinds.specs.Kinds.{dsa_of, ed25519_of, rsa_of, sk_ecdsa_of, sk_ed25519_of, opaque_of}
use Rattle.sshkey_kinds.specs.EcdsaPublicKey.{ecdsa_key_of}
use Rattle.sshkey_keys.specs.declared.key_data.KeyData.{KeyData}
use Rattle.sshkey_keys.specs.declared.key_data.KeyData.TheVariants as kinds

abbrev pub key_of : KeyData → Key
key_of (kinds.Dsa k) = dsa_of k
key_of (kinds.Ecdsa k) = ecdsa_key_of k
key_of (kinds.Ed25519 k) = ed25519_of k
key_of (kinds.Rsa k) = rsa_of k
key_of (kinds.SkEcdsaSha2NistP256 k) = sk_ecdsa_of k
key_of (kinds.SkEd25519 k) = sk_ed25519_of k
key_of (kinds.Other k) = opaque_of k

-- its algorithm; an opaque key's is the one beside its bytes, whichever that is
abbrev pub stored_algorithm : KeyData → Algorithm
stored_algorithm (kinds.Other k) = algorithm_of k.algorithm
stored_algorithm k = key_algorithm (key_of k)

-- ---- reading

-- What a call gives that reads what follows the name of that algorithm.
abbrev pub DecodesBody : {R : Type 0} → Algorithm → (R → Source) → R → Result KeyData Error → R → Type 0
DecodesBody a source before result after = Gives key_of cause (body_at a) (source before) result (source after)
