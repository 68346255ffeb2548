-- An ECDSA key whose point is one of the stated curve, or not.
use Rattle.std.proofs.Common.{◌≡◌, ℕ, true, false, List, Ok, Err, refl}
use Rattle.sshkey_model.specs.Reading.{AlgorithmUnknown}
use Rattle.sshkey_model.specs.Names.{Curve}
use Rattle.sshkey_model.specs.Points.{curve_eq}
use Rattle.sshkey_model.specs.Keys.{Ecdsa, any_ecdsa_format, ecdsa_key_from, ecdsa_parts_format}
use Rattle.sshkey_base.specs.Causes.{Cause}
use Rattle.sshkey_model.specs.Needs.{NoNeed}
use Rattle.sshkey_base.specs.Reading.{Reads}
use Rattle.sshkey_base.specs.Source.{Source}
use Rattle.sshkey_base.specs.Stops.{Stopped}
use Rattle.sshkey_terms.proofs.Lawful.{checked_read}
use Rattle.sshkey_terms.proofs.Needless.{needless_asks, needless_handed}
use Rattle.sshkey_terms.proofs.Tested.{tested_refused, tested_stopped}
use Rattle.sshkey_kinds.proofs.Lawful.{ecdsa_parts_lawful}

pub on_curve : (stated : Curve) (point : Curve × List ℕ) → curve_eq point.0 stated ≡ true → ecdsa_key_from (stated, point) ≡ Ok (Ecdsa point.0 point.1)
on_curve stated point same = rw same refl

pub off_curve : (stated : Curve) (point : Curve × List ℕ) → curve_eq point.0 stated ≡ false → ecdsa_key_from (stated, point) ≡ Err AlgorithmUnknown
off_curve stated point other = rw other refl

pub off_stopped : {X : Type 0} (parts : X → Curve × (Curve × List ℕ)) (s t : Source) (x : X) (c : Cause) → Reads parts ecdsa_parts_format.read s x t → curve_eq (parts x).1.0 (parts x).0 ≡ false → Stopped c any_ecdsa_format.read NoNeed any_ecdsa_format.overruns s
off_stopped parts s t x c h other = tested_stopped parts ecdsa_parts_format.read NoNeed ecdsa_parts_format.overruns s t x ecdsa_key_from any_ecdsa_format.read c AlgorithmUnknown h (checked_read ecdsa_key_from ecdsa_parts_format.read) (off_curve (parts x).0 (parts x).1 other) ecdsa_parts_lawful.lengths

pub ruleset ecdsa = (tested_refused, needless_asks, needless_handed, checked_read, on_curve, off_curve)
