use Rattle.std.proofs.Common.{subst}
use Rattle.sshkey_keys.specs.Keys.{key_of}
use Rattle.sshkey_entries.specs.Answers.{Tells}
use Rattle.login_terms.specs.Options.{terms_of}
use Rattle.sshkey_entries.specs.declared.reading.Reading.{Reading}
use Rattle.login_terms.specs.declared.terms.Terms as code
use Rattle.user_keys.specs.Lines.{MayBeFor}
use Rattle.user_keys.specs.UserLogins.{IsOwn, credential_of, is_certificate, listed_key, login_of}
use Rattle.user_keys.proofs.FirstLines.{of_error, own_reading}
use Rattle.user_keys.proofs.Judgements.{may_let, passes, says}
use Rattle.user_keys.proofs.Lines.{own_spells}
use Rattle.user_keys.proofs.first_line.check_line.Goals as goal

pub returns-in_err-judgement-in-Is-clause-asks : goal.returns-in_err-judgement-in-Is-clause-asks
returns-in_err-judgement-in-Is-clause-asks c =
    let by = credential_of c.args.credential in
    let told = subst (λ (r : Reading code.Terms). Tells terms_of (IsOwn by c.args.line.now) (MayBeFor (listed_key by) c.args.line.now) r) c.in-Is.is (own_reading by c.args.line.now c.is_certificate.result (key_of c.listed_key-key.result.now) c.is_certificate.ensures c.listed_key-key.ensures c.in_ok-terms.field-0 c.in_ok-terms.ensures.answer) in
    of_error c.from_residual-in_err-judgement-in-Is.result (own_spells (is_certificate by) (listed_key by) c.args.line.now c.requires.part (terms_of c.in-Is.terms) told.0)

pub returns-in_ok-judgement-in-Is-clause-answer : goal.returns-in_ok-judgement-in-Is-clause-answer
returns-in_ok-judgement-in-Is-clause-answer c =
    let by = credential_of c.args.credential in
    let told = subst (λ (r : Reading code.Terms). Tells terms_of (IsOwn by c.args.line.now) (MayBeFor (listed_key by) c.args.line.now) r) c.in-Is.is (own_reading by c.args.line.now c.is_certificate.result (key_of c.listed_key-key.result.now) c.is_certificate.ensures c.listed_key-key.ensures c.in_ok-terms.field-0 c.in_ok-terms.ensures.answer) in
    says (login_of c.args.login.now) by c.args.line.now c.in-Is.terms told.0 told.1 told.2 c.in_ok-judgement-in-Is.judgement c.in_ok-judgement-in-Is.ensures c.verdict_of.result c.verdict_of.ensures

pub returns-in-Rejected-clause-answer : goal.returns-in-Rejected-clause-answer
returns-in-Rejected-clause-answer c =
    let by = credential_of c.args.credential in
    let told = subst (λ (r : Reading code.Terms). Tells terms_of (IsOwn by c.args.line.now) (MayBeFor (listed_key by) c.args.line.now) r) c.in-Rejected.is (own_reading by c.args.line.now c.is_certificate.result (key_of c.listed_key-key.result.now) c.is_certificate.ensures c.listed_key-key.ensures c.in_ok-terms.field-0 c.in_ok-terms.ensures.answer) in
    passes (login_of c.args.login.now) by c.args.line.now told.0 told.1

pub returns-in-Unclear-clause-answer : goal.returns-in-Unclear-clause-answer
returns-in-Unclear-clause-answer c =
    let by = credential_of c.args.credential in
    let told = subst (λ (r : Reading code.Terms). Tells terms_of (IsOwn by c.args.line.now) (MayBeFor (listed_key by) c.args.line.now) r) c.in-Unclear.is (own_reading by c.args.line.now c.is_certificate.result (key_of c.listed_key-key.result.now) c.is_certificate.ensures c.listed_key-key.ensures c.in_ok-terms.field-0 c.in_ok-terms.ensures.answer) in
    may_let (login_of c.args.login.now) by c.args.line.now told.0 told.1
