use Rattle.std.proofs.Common.{ap, sym, ◌∙◌, option_map}
use Rattle.sshkey_keys.specs.Keys.{key_of}
use Rattle.sshkey_keys.specs.Questions.{question_of}
use Rattle.sshkey_keys.specs.Signatures.{signature_of}
use Rattle.sshkey_keys.proofs.SignatureForms.{well_formed}
use Rattle.sshkey_keys.proofs.key_data.KeyData.verify.Goals as goal

pub verify-requires : goal.verify-requires
verify-requires g c = record {
  key = key_of c.args.self.now;
  message = c.args.message.now;
  signature = signature_of c.args.signature.now;
  form = well_formed _ _ c.args.signature.now.form;
  is = rw (c.algorithm-algorithm.ensures, c.key-key.ensures, c.message.ensures, c.signature.ensures) (sym c.question.ensures ∙ ap (option_map question_of) c.in-Some.is);
}
