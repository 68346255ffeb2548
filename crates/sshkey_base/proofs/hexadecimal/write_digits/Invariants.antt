use Rattle.std.proofs.Common.{take}
use Rattle.std.specs.Fmt.{HasWrittenStyled, IsFlush}
use Rattle.hex.specs.Hex.{encode_with}
use Rattle.sshkey_base.proofs.hexadecimal.write_digits.Given as goal

abbrev pub invariant-loop-byte : goal.invariant-loop-byte
invariant-loop-byte g l = IsFlush l.fn.f → HasWrittenStyled g.W.Write.write_str_gives l.fn.f (encode_with l.digits (take l.byte-index l.bytes)) l.f
