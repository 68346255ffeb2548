use Rattle.std.proofs.Common.{arith, refl, sym, ap, ◌∙◌, take_all, Ok}
use Rattle.base64.specs.Engines.{standard}
use Rattle.base64.specs.GeneralPurpose.{decode_of}
use Rattle.base64.proofs.EngineFacts.{decode_of-encode_of}
use Rattle.sshkey_model.proofs.CombinedReaders.{fit_bytes}
use Rattle.sshkey_base64.proofs.base64_reader.decode_some.Goals as goal

pub returns-then-decode_symbols : goal.returns-then-decode_symbols
returns-then-decode_symbols c =
    let bytes = c.decode_symbols.new.bytes in
    (ap (decode_of standard) (c.decode_symbols.ensures c.if-decode_symbols.true) ∙ decode_of-encode_of standard bytes refl (λ i. omega (arith, c.type_inv.bytes i)) ∙ ap Ok (sym (take_all _ bytes (omega arith))), omega arith, fit_bytes bytes (λ i. omega (arith, c.type_inv.bytes i)))
