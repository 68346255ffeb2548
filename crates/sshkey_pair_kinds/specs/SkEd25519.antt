-- A pair of a security key's Ed25519 key.
use Rattle.sshkey_kinds.specs.declared.sk.SkEd25519 as public
use Rattle.sshkey_pair_kinds.specs.declared.sk_keypair.SkKeypair.{SkKeypair}

abbrev pub SkEd25519 : Type 0
SkEd25519 = SkKeypair public.SkEd25519
