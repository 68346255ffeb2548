-- The name in certificates of an opaque key.
use Rattle.std.proofs.Common.{◌≡◌, ◌≤◌, length, true, false, Some, refl}
use Rattle.sshkey_model.specs.Names.{Algorithm, Ecdsa, Rsa, Other, Nistp256, Sha256, algorithm_name}
use Rattle.sshkey_model.specs.CertificateNames.{certificate_name}
use Rattle.sshkey_model.proofs.ShortNames as names
use Rattle.sshkey_keys.specs.KeyKinds.{keeps_name}

pub plain_name : (a : Algorithm) → keeps_name a ≡ true → certificate_name (Other (algorithm_name a)) ≡ algorithm_name a
plain_name (Ecdsa Nistp256) e = cc
plain_name (Rsa (Some Sha256)) e = cc
plain_name _ e = cc

pub own_name : (a : Algorithm) → keeps_name a ≡ false → certificate_name (Other (algorithm_name a)) ≡ certificate_name a
own_name (Other n) e = refl
own_name _ e = cc

pub short_name : (a : Algorithm) → keeps_name a ≡ true → length (algorithm_name a) ≤ 73
short_name (Other n) e = absurd cc
short_name a e = names.short_name a tt
