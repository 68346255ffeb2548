use Rattle.std.proofs.Common.{refl, arith, ap, ◌∙◌}
use Rattle.base64.specs.Engines.{standard}
use Rattle.base64.specs.GeneralPurpose.{decode_of}
use Rattle.base64.proofs.EngineFacts.{decode_of-encode_of}
use Rattle.sshkey_model.proofs.CombinedReaders.{fit_bytes}
use Rattle.sshkey_base64.proofs.WordSources.{decodes, decodes_short}
use Rattle.sshkey_base64.proofs.base64_reader.decode_groups.Goals as goal

pub returns-in-Some : goal.returns-in-Some
returns-in-Some c = decodes c.args.text.now _ c.in-Some.count (fit_bytes c.args.text.now (λ i. omega (arith, c.type_inv.text i))) c.in-Some.ensures.0 (omega arith)

pub returns-in_default : goal.returns-in_default
returns-in_default c = (refl, decodes_short c.args.text.now _ c.in-Some.count c.in-Some.ensures.0 c.in-Some.ensures.1 c.if-count-bytes.false)

pub returns-in_default-2 : goal.returns-in_default-2
returns-in_default-2 c = (refl, λ b are len is. c.in_default.ensures b (ap (decode_of standard) is ∙ decode_of-encode_of standard b refl are))
