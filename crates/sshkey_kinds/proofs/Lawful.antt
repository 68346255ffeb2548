-- The formats of keys are lawful.
use Rattle.sshkey_model.specs.Formats.{IsFormat}
use Rattle.sshkey_model.specs.Keys.{p256_only, dsa_format, rsa_format, ed25519_format, sk_ed25519_format, ecdsa_key_from, ecdsa_parts_format, any_ecdsa_format, p256_name_format, sk_ecdsa_format}
use Rattle.sshkey_model.specs.Names.{curve_format}
use Rattle.sshkey_model.specs.Needs.{NoNeed}
use Rattle.sshkey_model.specs.Points.{point_from, p256_point_from, point_format, p256_point_format}
use Rattle.sshkey_model.proofs.NameReaders.{curve_checks}
use Rattle.sshkey_base.proofs.Lawful.{array_lawful, label_lawful, mpint_lawful, string_lawful, text_lawful}
use Rattle.sshkey_terms.proofs.Lawful.{then_lawful, tested_lawful, without_memory_lawful}

pub dsa_lawful : IsFormat dsa_format
dsa_lawful = tested_lawful _ (then_lawful mpint_lawful (then_lawful mpint_lawful (then_lawful mpint_lawful mpint_lawful)))

pub rsa_lawful : IsFormat rsa_format
rsa_lawful = tested_lawful _ (then_lawful mpint_lawful mpint_lawful)

pub ed25519_lawful : IsFormat ed25519_format
ed25519_lawful = tested_lawful _ (array_lawful 32)

pub sk_ed25519_lawful : IsFormat sk_ed25519_format
sk_ed25519_lawful = tested_lawful _ (then_lawful (array_lawful 32) text_lawful)

-- ---- points

pub curve_lawful : IsFormat curve_format
curve_lawful = label_lawful NoNeed curve_checks

pub point_lawful : IsFormat point_format
point_lawful = without_memory_lawful (tested_lawful point_from string_lawful)

pub ecdsa_parts_lawful : IsFormat ecdsa_parts_format
ecdsa_parts_lawful = then_lawful curve_lawful point_lawful

pub any_ecdsa_lawful : IsFormat any_ecdsa_format
any_ecdsa_lawful = without_memory_lawful (tested_lawful ecdsa_key_from ecdsa_parts_lawful)

pub p256_name_lawful : IsFormat p256_name_format
p256_name_lawful = tested_lawful p256_only curve_lawful

pub p256_point_lawful : IsFormat p256_point_format
p256_point_lawful = without_memory_lawful (tested_lawful p256_point_from string_lawful)

pub sk_ecdsa_lawful : IsFormat sk_ecdsa_format
sk_ecdsa_lawful = tested_lawful _ (then_lawful p256_name_lawful (then_lawful p256_point_lawful text_lawful))
