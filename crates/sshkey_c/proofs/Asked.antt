-- Questions, one after the other, and what is decided of them.
use Rattle.std.proofs.Common.{◌≡◌, ◌⊎◌, ◌++◌, ◌+◌, ℕ, List, [], Option, None, Some, append-nil, append_assoc, ap, inl, inr, is_some, length, option_map, refl, subst, sym, ◌∙◌}
use Rattle.login_policy.specs.declared.refusal.LoginRefusal.TheVariants.{Invalid}
use Rattle.publickey_login.specs.Results.{IsYes}
use Rattle.publickey_login.specs.declared.pending_login.Answers.{Answers}
use Rattle.publickey_login.specs.declared.refusal.PublickeyRefusal.{PublickeyRefusal}
use Rattle.publickey_login.specs.declared.refusal.PublickeyRefusal.TheVariants as why
use Rattle.sshkey_calls.specs.Numbers.{algorithm_number}
use Rattle.sshkey_calls.specs.declared.digest.Sha256Digest.{Sha256Digest}
use Rattle.sshkey_calls.specs.declared.question.Question as code
use Rattle.sshkey_cert.specs.declared.certificate.refusal.CertificateRefusal.TheVariants.{Signature}
use Rattle.sshkey_model.specs.Fingerprints.{digest}
use Rattle.sshkey_model.specs.Keys.{normal_key}
use Rattle.sshkey_model.specs.Names.{Sha256}
use Rattle.sshkey_model.specs.Parts.{flat}
use Rattle.sshkey_model.specs.Verification.{Question}
use Rattle.sshkey_c.specs.Verdicts.{AddsAsked, AreAsked, AreAskedFrom, IsUnraised, Questions, asked_bytes, asked_lengths, head, lengths, questions_bytes, ticket_of, AreAnswered, AreLeft, IsWhyUnanswered, answers_in}
use Rattle.sshkey_c.specs.Grants.{bit}
use Rattle.sshkey_c.specs.Refusals.{refusal_of, said}
use Rattle.sshkey_c.specs.declared.refusal.Refusal.{Refusal}

pub joined : (m a b c d : List ℕ) → (((m ++ a) ++ b) ++ c) ++ d ≡ m ++ (a ++ (b ++ (c ++ d)))
joined m a b c d = append_assoc ((m ++ a) ++ b) c d ∙ append_assoc (m ++ a) b (c ++ d) ∙ append_assoc m a (b ++ (c ++ d))

-- ---- what is laid out

-- what is asked is raised
raised : (o : Option (Option Question)) (p : code.Question) (before after : List ℕ) → AddsAsked o p before after → (q : Option Question) × (o ≡ option_map Some q) × (after ≡ before ++ asked_bytes q) × AreAskedFrom (length before) q p
raised None p before after is = (None, refl, is.1 ∙ sym (append-nil before), is.0)
raised (Some None) p before after is = absurd is
raised (Some (Some q)) p before after is = (Some q, refl, is.0, is.1)

some_mapped : {A B : Type 0} (f : A → B) (o : Option A) → is_some (option_map f o) ≡ is_some o
some_mapped f None = refl
some_mapped f (Some x) = refl

heads : (start : ℕ) (q : Option Question) (p : code.Question) → AreAskedFrom start q p → head p ≡ asked_lengths q
heads start None p is = ap head is
heads start (Some q) p is =
    ap (λ (n : ℕ). lengths n p.key.length p.message.length p.signature.length) is.algorithm
    ∙ ap (λ (n : ℕ). lengths (algorithm_number q.algorithm) n p.message.length p.signature.length) is.key.1
    ∙ ap (λ (n : ℕ). lengths (algorithm_number q.algorithm) (length (flat (normal_key q.key))) n p.signature.length) is.message.1
    ∙ ap (λ (n : ℕ). lengths (algorithm_number q.algorithm) (length (flat (normal_key q.key))) (length q.message) n) is.signature.1

module _ {A : Type 0} (f : A → Option Question) (of_authority of_client : Option A) (authority client : Option (Option Question)) (a c : code.Question) (start first all : List ℕ) (len : ℕ) (ticket : Sha256Digest) (asks_authority asks_client : ℕ) where
  pub laid : start ≡ [] → option_map f of_authority ≡ authority → option_map f of_client ≡ client → AddsAsked (option_map f of_authority) a start first → AddsAsked (option_map f of_client) c first all → len ≡ length all → ticket.bytes ≡ digest Sha256 (head a ++ (head c ++ all)) → asks_authority ≡ bit 1 (is_some of_authority) → asks_client ≡ bit 2 (is_some of_client)
      → (qs : Questions) × (authority ≡ option_map Some qs.authority) × (client ≡ option_map Some qs.client) × ((all ≡ questions_bytes qs) × AreAsked qs (record { authority = a; client = c; length = len; ticket = ticket; asked = asks_authority + asks_client }))
  laid none of_a of_c adds_a adds_c is_len is_ticket is_a is_c =
      let ra = raised (option_map f of_authority) a start first adds_a in
      let rc = raised (option_map f of_client) c first all adds_c in
      let begun : first ≡ asked_bytes ra.0 = ra.2 ∙ ap (λ (l : List ℕ). l ++ asked_bytes ra.0) none in
      let whole : all ≡ asked_bytes ra.0 ++ asked_bytes rc.0 = rc.2 ∙ ap (λ (l : List ℕ). l ++ asked_bytes rc.0) begun in
      let here : AreAskedFrom 0 ra.0 a = subst (λ (l : List ℕ). AreAskedFrom (length l) ra.0 a) none ra.3 in
      let there : AreAskedFrom (length (asked_bytes ra.0)) rc.0 c = subst (λ (l : List ℕ). AreAskedFrom (length l) rc.0 c) begun rc.3 in
      let some_a : is_some of_authority ≡ is_some ra.0 = sym (some_mapped f of_authority) ∙ ap is_some ra.1 ∙ some_mapped Some ra.0 in
      let some_c : is_some of_client ≡ is_some rc.0 = sym (some_mapped f of_client) ∙ ap is_some rc.1 ∙ some_mapped Some rc.0 in (
        record { authority = ra.0; client = rc.0 },
        sym of_a ∙ ra.1,
        sym of_c ∙ rc.1,
        (
          whole,
          record {
            authority = here;
            client = there;
            length = is_len ∙ ap (λ (l : List ℕ). length l) whole;
            ticket = is_ticket ∙ ap (λ (l : List ℕ). digest Sha256 (l ++ (head c ++ all))) (heads 0 ra.0 a here) ∙ ap (λ (l : List ℕ). digest Sha256 (asked_lengths ra.0 ++ (l ++ all))) (heads (length (asked_bytes ra.0)) rc.0 c there) ∙ ap (λ (l : List ℕ). digest Sha256 (asked_lengths ra.0 ++ (asked_lengths rc.0 ++ l))) whole;
            asked = ap (λ (n : ℕ). n + asks_client) (is_a ∙ ap (bit 1) some_a) ∙ ap (λ (n : ℕ). bit 1 (is_some ra.0) + n) (is_c ∙ ap (bit 2) some_c);
          },
        ),
      )

-- ---- what is decided

pub unmapped : (q : Option Question) → ◌≡◌ {A = Option (Option Question)} (Some None) (option_map Some q) → ⊥
unmapped None is = absurd (cc is)
unmapped (Some q) is = absurd (cc is)

number_of : (d : Refusal) (n : ℕ) → d ≡ said n → d.number ≡ n
number_of d n is = ap (λ (x : Refusal). x.number) is

told : (d : Refusal) (n : ℕ) → d ≡ said n → d ≡ said d.number
told d n is = is ∙ ap said (sym (number_of d n is))

module _ (ticket : List ℕ) (n : ℕ) (authority client : Option (Option Question)) (d : Refusal) where
  pub unlaid : (IsUnraised authority × (d ≡ said 30)) ⊎ (¬ IsUnraised authority × IsUnraised client × (d ≡ said 84)) → ¬ AreAnswered ticket n authority client × IsWhyUnanswered ticket n authority client d.number × (d ≡ said d.number)
  unlaid (inl (un, is)) = ((λ are. unmapped are.questions.authority (sym un ∙ are.left.0)), inl (inl (un, number_of d 30 is)), told d 30 is)
  unlaid (inr (raised, un, is)) = ((λ are. unmapped are.questions.client (sym un ∙ are.left.1)), inl (inr (raised, un, number_of d 84 is)), told d 84 is)

  pub undecided : (qs : Questions) (answers : Answers) (r : PublickeyRefusal) → answers ≡ answers_in n → AreLeft authority client qs → ticket ≡ ticket_of qs → ((IsYes authority answers.authority → ⊥) × (r ≡ why.Certificate (Invalid Signature))) ⊎ (IsYes authority answers.authority × (IsYes client answers.client → ⊥) × (r ≡ why.NotSigned)) → d ≡ refusal_of 56 r → ¬ AreAnswered ticket n authority client × IsWhyUnanswered ticket n authority client d.number × (d ≡ said d.number)
  undecided qs answers r given left same (inl (never, is)) by =
      let said_so : d ≡ said 30 = by ∙ ap (refusal_of 56) is in
      let out : IsYes authority (answers_in n).authority → ⊥ = subst (λ (a : Answers). IsYes authority a.authority → ⊥) given never in
      ((λ are. out are.certified), inr (qs, left, inr (inl (same, out, number_of d 30 said_so))), told d 30 said_so)
  undecided qs answers r given left same (inr (certified, never, is)) by =
      let said_so : d ≡ said 84 = by ∙ ap (refusal_of 56) is in
      let in_so : IsYes authority (answers_in n).authority = subst (λ (a : Answers). IsYes authority a.authority) given certified in
      let out : IsYes client (answers_in n).client → ⊥ = subst (λ (a : Answers). IsYes client a.client → ⊥) given never in
      ((λ are. out are.signed), inr (qs, left, inr (inr (same, in_so, out, number_of d 84 said_so))), told d 84 said_so)
