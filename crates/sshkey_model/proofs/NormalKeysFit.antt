-- Where one spelling of a key fits its boxes, its normal form does.
use Rattle.std.proofs.Common.{◌<◌, ◌^◌, length, arith}
use Rattle.sshkey_model.specs.Parts.{BoxesFit, flat}
use Rattle.sshkey_model.specs.Names.{algorithm_name, IsAlgorithm}
use Rattle.sshkey_model.specs.Keys.{Key, Head, key_algorithm, key, normal_key}
use Rattle.sshkey_model.proofs.ShortNames.{short_name}

pub normal_boxes : (k : Key) (h : Head) → IsAlgorithm (key_algorithm k) → BoxesFit (key k h) → BoxesFit (normal_key k)
unfolding BoxesFit flat
normal_boxes k h is fit =
    let short : length (algorithm_name (key_algorithm k)) < 2 ^ 32 = omega (arith, short_name (key_algorithm k) is) in
    ((short, tt), fit.1)
