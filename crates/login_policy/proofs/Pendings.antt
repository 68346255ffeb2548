-- What the answer decides of a login that is pending.
use Rattle.std.proofs.Common.{◌≡◌, ◌≢◌, ℕ, List, [], Bool, true, false, Option, None, Some, IfErr, Result, Ok, Err, is_some, option_map, ap, inl, inr, refl, subst, sym, ◌∙◌}
use Rattle.sshkey_cert.specs.Validity.{certificate_question}
use Rattle.sshkey_model.specs.Certificates.{Certificate}
use Rattle.sshkey_model.specs.Keys.{Key, Dsa, Ecdsa, Ed25519, Rsa, SkEcdsa, SkEd25519}
use Rattle.sshkey_model.specs.Names.{Algorithm}
use Rattle.sshkey_model.specs.Points.{curve_eq}
use Rattle.sshkey_model.specs.Refusals.{RefuseTheUnwanted, is_signed}
use Rattle.sshkey_model.specs.Signatures.{Signature}
use Rattle.sshkey_model.specs.Verification.{Question, is_yes, question, question_under}
use Rattle.login_policy.specs.Logins.{GrantsExactly, IsGrantOf, IsLogin, LetsIn, Login, AnswersDecide, DecidesBy, IsPending, PendsExactly, certificate_in, unasked}
use Rattle.login_policy.specs.Refusals.{FromElsewhere, IsRevoked, IsUntrusted, NeedsMemory, NotSigned, NotValid, OtherAuthority, RefusesLogin}
use Rattle.login_policy.specs.declared.grant.Grant.{Grant}
use Rattle.login_policy.specs.declared.pending_login.Pending.{Pending}
use Rattle.login_policy.specs.declared.refusal.LoginRefusal.{LoginRefusal}
use Rattle.login_policy.specs.declared.refusal.LoginRefusal.TheVariants.{Memory}
use Rattle.login_policy.proofs.Logins.{OneCertificate, none_if_let_in, trusted_if_none}

-- ---- whether there is a question

-- it does not depend on the message
same_asking : (a : Algorithm) (k : Key) (m n : List ℕ) (g : Signature) → is_some (question_under a k m g) ≡ is_yes (λ _. true) (question_under a k n g)
same_asking Algorithm.Dsa (Dsa k) m n g = refl
same_asking Algorithm.Dsa _ m n g = refl
same_asking (Algorithm.Ecdsa d) (Ecdsa c point) m n g = go (curve_eq c d) refl
  where
    go : (same : Bool) → curve_eq c d ≡ same → is_some (question_under (Algorithm.Ecdsa d) (Ecdsa c point) m g) ≡ is_yes (λ _. true) (question_under (Algorithm.Ecdsa d) (Ecdsa c point) n g)
    go true e = rw e refl
    go false e = rw e refl
same_asking (Algorithm.Ecdsa d) _ m n g = refl
same_asking Algorithm.Ed25519 (Ed25519 k) m n g = refl
same_asking Algorithm.Ed25519 _ m n g = refl
same_asking (Algorithm.Rsa (Some h)) (Rsa k) m n g = refl
same_asking (Algorithm.Rsa (Some h)) _ m n g = refl
same_asking (Algorithm.Rsa None) _ m n g = refl
same_asking Algorithm.SkEcdsa (SkEcdsa k) m n g = refl
same_asking Algorithm.SkEcdsa _ m n g = refl
same_asking Algorithm.SkEd25519 (SkEd25519 k) m n g = refl
same_asking Algorithm.SkEd25519 _ m n g = refl
same_asking (Algorithm.Other name) _ m n g = refl

raised_by : {X : Type 0} (means : X → Question) (c : Certificate) (m : List ℕ) (asked : Option X) → option_map means asked ≡ question c.signed.signature_key m c.signature → is_some asked ≡ is_signed (λ _. true) c
raised_by means c m None is = ap (λ (o : Option Question). is_some o) is ∙ same_asking c.signature.algorithm c.signed.signature_key m _ c.signature
raised_by means c m (Some q) is = ap (λ (o : Option Question). is_some o) is ∙ same_asking c.signature.algorithm c.signed.signature_key m _ c.signature

pub raised : {X : Type 0} (means : X → Question) (c : Certificate) (m : List ℕ) (k : Key) (g : Signature) (asked : Option X) → k ≡ c.signed.signature_key → g ≡ c.signature → option_map means asked ≡ question k m g → is_some asked ≡ is_signed (λ _. true) c
raised means c m k g asked key signature is = raised_by means c m asked (is ∙ ap (λ (x : Key). question x m g) key ∙ ap (λ (x : Signature). question c.signed.signature_key m x) signature)

-- who says yes says so of some question
yes_to_all : (accepts : Question → Bool) (o : Option Question) → is_yes accepts o ≡ true → is_yes (λ _. true) o ≡ true
yes_to_all accepts None e = absurd cc
yes_to_all accepts (Some q) e = refl

never_asked : (accepts : Question → Bool) (o : Option Question) → is_yes (λ _. true) o ≡ false → is_yes accepts o ≡ false
never_asked accepts None e = refl
never_asked accepts (Some q) e = absurd cc

-- ---- the answers decide

pub lets_unasked : (l : Login) (c : Certificate) → LetsIn l c → LetsIn (unasked l) c
lets_unasked l c it = record { fields = it.fields; listed = it.listed; unrevoked = it.unrevoked; valid = record { signature = yes_to_all l.accepts (certificate_question c) it.valid.signature; authority = it.valid.authority; time = it.valid.time; after = it.valid.after; before = it.valid.before }; from = it.from }

pub pends : (l : Login) → IsLogin l → IsPending l
pends l is = record { certificate = is.certificate; spelled = is.spelled; normal = is.normal; lets_in = lets_unasked l is.certificate is.lets_in }

abbrev pub lets : (l : Login) (is : IsPending l) → is_yes l.accepts (certificate_question is.certificate) ≡ true → IsLogin l
lets l is said = record { certificate = is.certificate; spelled = is.spelled; normal = is.normal; lets_in = record { fields = is.lets_in.fields; listed = is.lets_in.listed; unrevoked = is.lets_in.unrevoked; valid = record { signature = said; authority = is.lets_in.valid.authority; time = is.lets_in.valid.time; after = is.lets_in.valid.after; before = is.lets_in.valid.before }; from = is.lets_in.from } }

pub answers_decide : AnswersDecide
unfolding pends
answers_decide l = (λ is. (pends l is, is.lets_in.valid.signature), λ both. lets l both.0 both.1)

-- ---- what is refused

untrusted : (l : Login) (c : Certificate) (r : LoginRefusal) → IsUntrusted (unasked l) c r → IsUntrusted l c r
untrusted l c r (OtherAuthority other) = OtherAuthority other
untrusted l c r (IsRevoked given revoked) = IsRevoked given revoked
untrusted l c r (NotValid given unrevoked w refused) = NotValid given unrevoked w refused
untrusted l c r (FromElsewhere unrevoked none elsewhere) = FromElsewhere unrevoked none elsewhere
untrusted l c r (NotSigned unrevoked none from unsigned) = NotSigned unrevoked none from (never_asked l.accepts (certificate_question c) unsigned)

-- what is not pending is refused for that, whatever a verifier says
pub refused_unasked : (l : Login) (r : LoginRefusal) → RefusesLogin (unasked l) r → RefusesLogin l r
refused_unasked l r (inl none) = inl none
refused_unasked l r (inr (c, spelled, inl other)) = inr (c, spelled, inl other)
refused_unasked l r (inr (c, spelled, inr (normal, inl wrong))) = inr (c, spelled, inr (normal, inl wrong))
refused_unasked l r (inr (c, spelled, inr (normal, inr (right, other)))) = inr (c, spelled, inr (normal, inr (right, untrusted l c r other)))

module _ (law : RefuseTheUnwanted) (one : OneCertificate) (l : Login) (p : Pending) (held : PendsExactly l (Ok p)) where
  abbrev is : IsPending l
  is = held.0

  moved : {b : Bool} → is_signed l.accepts (certificate_in p) ≡ b → is_yes l.accepts (certificate_question is.certificate) ≡ b
  moved {b} said = subst (λ (d : Certificate). is_yes l.accepts (certificate_question d) ≡ b) (sym held.1) said

  same : (other : IsLogin l) → other.certificate ≡ is.certificate
  same other = (one other.certificate is.certificate l.blob l.blob [] [] other.spelled is.spelled refl).0

  -- what the verifier's answer decides is decided exactly
  pub decided : (result : Result Grant LoginRefusal) → DecidesBy l.accepts p result → GrantsExactly l result
  decided (Ok g) (given, said) = (lets l is (moved said), subst (IsGrantOf is.certificate) (sym given) held.2)
  decided (Err r) said = λ other it.
      let unsaid = moved (said other).1 in
      let signed = subst (λ (d : Certificate). is_yes l.accepts (certificate_question d) ≡ true) (same it) it.lets_in.valid.signature in
      cc

  -- and it is the last refusal
  pub refused_last : (result : Result Grant LoginRefusal) → DecidesBy l.accepts p result → IfErr result (λ r. r ≢ Memory → RefusesLogin l r)
  refused_last (Ok g) said = tt
  refused_last (Err r) said = λ other.
      let why = said other in
      subst (RefusesLogin l) (sym why.0) (inr (is.certificate, is.spelled, inr (is.normal, inr (is.lets_in.fields, NotSigned is.lets_in.unrevoked (none_if_let_in law (unasked l) is.certificate is.lets_in) is.lets_in.from (moved why.1)))))

  needs : NeedsMemory l.authorities l.blob
  needs = inr (is.certificate, is.spelled, inr (trusted_if_none (unasked l) is.certificate (none_if_let_in law (unasked l) is.certificate is.lets_in)))

  pub memory_for : (result : Result Grant LoginRefusal) → IfErr result (λ r. r ≡ Memory → NeedsMemory l.authorities l.blob)
  memory_for (Ok g) = tt
  memory_for (Err r) = λ memory. needs
