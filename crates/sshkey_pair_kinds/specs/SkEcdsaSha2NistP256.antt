-- A pair of a security key's P-256 key.
use Rattle.sshkey_kinds.specs.declared.sk.SkEcdsaSha2NistP256 as public
use Rattle.sshkey_pair_kinds.specs.declared.sk_keypair.SkKeypair.{SkKeypair}

abbrev pub SkEcdsaSha2NistP256 : Type 0
SkEcdsaSha2NistP256 = SkKeypair public.SkEcdsaSha2NistP256
