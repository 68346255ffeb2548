use Rattle.std.proofs.Common.{◌<◌, ◌≤◌, ◌^◌, arith, rules, sym}
use Rattle.std.proofs.Math.Pow.{pow_mono}
use Rattle.std.proofs.Math.Nat.{mod-eq_of_lt}
use Rattle.sshkey_matching.proofs.bits.last_bits.Goals as goal

pub returns-in-None : goal.returns-in-None
returns-in-None c =
    let wide : 128 ≤ c.args.last = search rules in
    let small : c.args.number < 2 ^ 128 = c.ranges.number.fits in
    let below : c.args.number < 2 ^ c.args.last = omega (arith, small, pow_mono wide) in
    sym (mod-eq_of_lt below)
