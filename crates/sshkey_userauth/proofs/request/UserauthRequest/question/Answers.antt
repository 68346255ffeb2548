use Rattle.std.proofs.Common.{List, ℕ, ap, inl, inr, sym, ◌∙◌}
use Rattle.std.proofs.lemmas.Result.{err_from_is_err_and}
use Rattle.sshkey_model.specs.Verification.{question}
use Rattle.sshkey_keys.specs.Keys.{key_of}
use Rattle.sshkey_keys.specs.Signatures.{signature_of}
use Rattle.sshkey_userauth.specs.Values.{request_of}
use Rattle.sshkey_userauth.proofs.Judging.{these_bytes}
use Rattle.sshkey_userauth.proofs.request.UserauthRequest.question.Goals as goal

pub returns-in_err-form-clause-refused : goal.returns-in_err-form-clause-refused
returns-in_err-form-clause-refused c =
    let p = err_from_is_err_and c.from_residual.result c.from_residual.ensures.1 in
    λ s. rw (p.1, p.2) (inl (sym c.in_err-form.ensures))

pub returns-in_err-key-clause-refused : goal.returns-in_err-key-clause-refused
returns-in_err-key-clause-refused c =
    let p = err_from_is_err_and c.from_residual-in_err-key.result c.from_residual-in_err-key.ensures.1 in
    λ s. rw (p.1, p.2) (inr (record { form = c.in_ok-form.form; judged = sym c.in_ok-form.ensures; none = c.in_err-key.ensures }))

pub returns-clause-asked : goal.returns-clause-asked
returns-clause-asked c =
    let spelled = c.is_spelled.ensures.0 c.if-not-is_spelled.false in
    record {
      form = c.in_ok-form.form;
      judged = sym c.in_ok-form.ensures;
      key = key_of c.in_ok-key.key;
      held = c.in_ok-key.ensures;
      question = c.new.ensures ∙ ap (λ (m : List ℕ). question (key_of c.in_ok-key.key) m (signature_of c.args.signature)) (these_bytes (request_of c.args.self.now) c.args.signed.now spelled);
    }
