-- What the answers decide.
use Rattle.std.proofs.Common.{◌≡◌, ◌↔◌, Bool, IsTrue, Option, Some, None, Result, Ok, Err, false, inl, inr, is_some, not, option_map, refl, true, ◌≢◌, IfErr, subst, sym}
use Rattle.sshkey_keys.specs.Questions.{asks}
use Rattle.sshkey_keys.specs.declared.signature_question.SignatureQuestion.{SignatureQuestion}
use Rattle.sshkey_model.specs.Verification.{Question}
use Rattle.publickey_login.specs.Grants.{IsAnswered, IsLogin, IsPending, required_of}
use Rattle.publickey_login.specs.Results.{Decides, DecidesBy, IsYes, authority_in, client_in, GrantsExactly, grant_in}
use Rattle.publickey_login.specs.declared.grant.PublickeyGrant.{PublickeyGrant}
use Rattle.publickey_login.specs.declared.pending_login.Pending.{Pending}
use Rattle.publickey_login.specs.declared.refusal.PublickeyRefusal.{PublickeyRefusal}
use Rattle.login_terms.specs.Options.{terms_of}
use Rattle.sshkey_model.specs.Keys.{Key}
use Rattle.sshkey_userauth.specs.declared.judgement.Requirements.{Requirements}
use Rattle.sshkey_userauth.specs.declared.judgement.name.KeyForm.{KeyForm}
use Rattle.publickey_login.proofs.Grants.{one_left, same_grants, same_required, not_left}
use Rattle.publickey_login.proofs.Whys.{nothing}
use Rattle.publickey_login.specs.Sources.{Login}
use Rattle.publickey_login.specs.Signatures.{IsLeft, Signed}
use Rattle.publickey_login.specs.Stops.{IsWhyNoLogin, IsWhyNotPending}
use Rattle.publickey_login.specs.declared.refusal.PublickeyRefusal.TheVariants as refusal

pub said_so : (b : Bool) → not b ≡ false → b ≡ true
said_so true is = refl
said_so false is = absurd cc

pub said_not : (b : Bool) → not b ≡ true → b ≡ false
said_not true is = absurd cc
said_not false is = refl

pub yes_unasked : (q : Option SignatureQuestion) (b : Bool) → is_some q ≡ false → IsYes (option_map asks q) b
yes_unasked None b none = tt
yes_unasked (Some q) b none = absurd cc

pub yes_said : (asked : Option (Option Question)) (b : Bool) → b ≡ true → IsYes asked b
yes_said None b said = tt
yes_said (Some q) b said = said

pub not_said : (q : Option SignatureQuestion) (b : Bool) → is_some q ≡ true → b ≡ false → IsYes (option_map asks q) b → ⊥
not_said None b some unsaid is = absurd cc
not_said (Some q) b some unsaid is = absurd cc

module _ (accepts : Question → Bool) where
  pub answered : (asked : Option (Option Question)) (b : Bool) → IsTrue b ↔ IsAnswered accepts asked → IsYes asked b → IsAnswered accepts asked
  answered None b both is = tt
  answered (Some q) b both is = both.0 is

  module _ (p : Pending) (authority : Bool) (by_authority : IsTrue authority ↔ IsAnswered accepts (authority_in p)) where
    -- where the authority's is none, nobody asks about the client's
    pub unasked : authority ≡ false → (result : Result PublickeyGrant PublickeyRefusal) → Decides p (record { authority = authority; client = false }) result → DecidesBy accepts p result
    unasked unsaid (Ok g) says =
        let said = by_authority.1 (answered (authority_in p) authority by_authority says.1) in
        absurd cc
    unasked unsaid (Err r) (inl says) = λ other. inl ((λ is. says.0 (yes_said (authority_in p) authority (by_authority.1 is))), says.1)
    unasked unsaid (Err r) (inr says) =
        let said = by_authority.1 (answered (authority_in p) authority by_authority says.0) in
        absurd cc

    pub asked : (client : Bool) → IsTrue client ↔ IsAnswered accepts (client_in p) → (result : Result PublickeyGrant PublickeyRefusal) → Decides p (record { authority = authority; client = client }) result → DecidesBy accepts p result
    asked client by_client (Ok g) says = (says.0, answered (authority_in p) authority by_authority says.1, answered (client_in p) client by_client says.2)
    asked client by_client (Err r) (inl says) = λ other. inl ((λ is. says.0 (yes_said (authority_in p) authority (by_authority.1 is))), says.1)
    asked client by_client (Err r) (inr says) = λ other. inr (answered (authority_in p) authority by_authority says.0, (λ is. says.1 (yes_said (client_in p) client (by_client.1 is))), says.2)

-- Who logs in, and who does not.

module _ (l : Login) where
  module _ (s : Signed) where
    -- what is refused is not pending
    pub not_pending : (r : PublickeyRefusal) → r ≢ refusal.Memory → IsWhyNotPending l s r → (g : PublickeyGrant) (authority client : Option (Option Question)) → IsPending l s g authority client → ⊥
    not_pending r other (inl none) g authority client is = nothing l r none g authority is.key is.form is.grants
    not_pending r other (inr (h, a, k, form, grants, why)) g authority client is =
        let same = same_grants l a authority k is.key form is.form h g grants is.grants in
        let required = same_required l.trusted.requirements h g same.terms in
        let left = subst (λ (x : Requirements). IsLeft l.offer s x is.key is.form client) required is.left in
        let of_key = subst (λ (x : Key). IsLeft l.offer s (required_of l.trusted.requirements h) x is.form client) same.key left in
        not_left l.offer s (required_of l.trusted.requirements h) k form r other why client (subst (λ (x : KeyForm). IsLeft l.offer s (required_of l.trusted.requirements h) k x client) same.form of_key)

    -- what is pending twice has the same questions
    pub same_authority : (g h : PublickeyGrant) (a b q w : Option (Option Question)) → IsPending l s g a q → IsPending l s h b w → b ≡ a
    same_authority g h a b q w x y = (same_grants l a b x.key y.key x.form y.form g h x.grants y.grants).authority

    pub same_client : (g h : PublickeyGrant) (a b q w : Option (Option Question)) → IsPending l s g a q → IsPending l s h b w → w ≡ q
    same_client g h a b q w x y =
        let same = same_grants l a b x.key y.key x.form y.form g h x.grants y.grants in
        let of_key = subst (λ (k : Key). IsLeft l.offer s (required_of l.trusted.requirements h) k y.form w) same.key y.left in
        one_left l.offer s (required_of l.trusted.requirements g) (required_of l.trusted.requirements h) x.key x.form q w x.left (subst (λ (form : KeyForm). IsLeft l.offer s (required_of l.trusted.requirements h) x.key form w) same.form of_key)

    pub same_terms : (g h : PublickeyGrant) (a b q w : Option (Option Question)) → IsPending l s g a q → IsPending l s h b w → terms_of h.user.terms ≡ terms_of g.user.terms
    same_terms g h a b q w x y = (same_grants l a b x.key y.key x.form y.form g h x.grants y.grants).terms

    module _ (accepts : Question → Bool) (p : Pending) (is : IsPending l s (grant_in p) (authority_in p) (client_in p)) where
      pub decided : (result : Result PublickeyGrant PublickeyRefusal) → DecidesBy accepts p result → GrantsExactly (IsLogin accepts l s) result
      decided (Ok g) says = record { authority = authority_in p; client = client_in p; pending = subst (λ (h : PublickeyGrant). IsPending l s h (authority_in p) (client_in p)) (sym says.0) is; certified = says.1; signed = says.2 }
      decided (Err r) says = λ other g login.
          let authority = same_authority (grant_in p) g (authority_in p) login.authority (client_in p) login.client is login.pending in
          let client = same_client (grant_in p) g (authority_in p) login.authority (client_in p) login.client is login.pending in
          let certified = subst (λ (o : Option (Option Question)). IsAnswered accepts o) authority login.certified in
          let signed = subst (λ (o : Option (Option Question)). IsAnswered accepts o) client login.signed in
          elim (says other) [
            | inl why ↦ why.0 certified
            | inr why ↦ why.1 signed
          ]

      pub refused : (result : Result PublickeyGrant PublickeyRefusal) → DecidesBy accepts p result → IfErr result (λ r. r ≢ refusal.Memory → IsWhyNoLogin accepts l s r)
      refused (Ok g) says = tt
      refused (Err r) says = λ other. inr (grant_in p, authority_in p, client_in p, is, says other)
