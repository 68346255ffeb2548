-- What each kind of key means.
use Rattle.std.specs.Prelude.{ℕ, List}
use Rattle.sshkey_model.specs.Keys.{Key, Dsa, Ed25519, Rsa, SkEcdsa, SkEd25519, Opaque}
use Rattle.sshkey_model.specs.Names.{algorithm_name}
use Rattle.sshkey_base.specs.Names.{algorithm_of}
use Rattle.sshkey_base.specs.Mpint.{mpint_of}
use Rattle.sshkey_kinds.specs.declared.dsa.DsaPublicKey.{DsaPublicKey}
use Rattle.sshkey_kinds.specs.declared.ec_point.EcPoint.{EcPoint}
use Rattle.sshkey_kinds.specs.declared.rsa.RsaPublicKey.{RsaPublicKey}
use Rattle.sshkey_kinds.specs.declared.ed25519.Ed25519PublicKey.{Ed25519PublicKey}
use Rattle.sshkey_kinds.specs.declared.sk.SkEcdsaSha2NistP256.{SkEcdsaSha2NistP256}
use Rattle.sshkey_kinds.specs.declared.sk.SkEd25519 as sk
use Rattle.sshkey_kinds.specs.declared.opaque.OpaquePublicKey.{OpaquePublicKey}
use Rattle.sshkey_kinds.specs.EcPoint.{point_of}

abbrev pub dsa_of : DsaPublicKey → Key
dsa_of k = Dsa (record { p = mpint_of k.p; q = mpint_of k.q; g = mpint_of k.g; y = mpint_of k.y })

abbrev pub rsa_of : RsaPublicKey → Key
rsa_of k = Rsa (record { e = mpint_of k.e; n = mpint_of k.n })

abbrev pub ed25519_of : Ed25519PublicKey → Key
ed25519_of k = Ed25519 k.0

-- the point of a security key, and the application that it is for
abbrev pub sk_ecdsa_point : SkEcdsaSha2NistP256 → EcPoint 65
sk_ecdsa_point k = k.ec_point

abbrev pub sk_ecdsa_application : SkEcdsaSha2NistP256 → List ℕ
sk_ecdsa_application k = k.application

abbrev pub sk_ecdsa_of : SkEcdsaSha2NistP256 → Key
sk_ecdsa_of k = SkEcdsa (record { key = point_of (sk_ecdsa_point k); application = sk_ecdsa_application k })

-- the plain key of a security key, and the application that it is for
abbrev pub sk_ed25519_key : sk.SkEd25519 → Ed25519PublicKey
sk_ed25519_key k = k.public_key

abbrev pub sk_ed25519_application : sk.SkEd25519 → List ℕ
sk_ed25519_application k = k.application

abbrev pub sk_ed25519_of : sk.SkEd25519 → Key
sk_ed25519_of k = SkEd25519 (record { key = (sk_ed25519_key k).0; application = sk_ed25519_application k })

abbrev pub opaque_of : OpaquePublicKey → Key
opaque_of k = Opaque (algorithm_name (algorithm_of k.algorithm)) k.key
