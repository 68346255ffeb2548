-- The term of requests spells what the standard lays out.
use Rattle.std.proofs.Common.{◌≡◌, ℕ, List, Option, Some, None, Bool, true, false, cond, ◌++◌, append_assoc, Result, Ok, Err, refl, sym, ap, subst, ◌∙◌}
use Rattle.std.specs.Prelude.{bytes_eq}
use Rattle.std.proofs.lemmas.Slice.Eq.{bytes_eq-Decides}
use Rattle.sshkey_model.specs.Parts.{Any, Parts, bytes, ◌&◌, flat, Fits, InRange, BoxesFit}
use Rattle.sshkey_model.specs.Texts.{string}
use Rattle.sshkey_model.specs.Grammar.{IsGrammar}
use Rattle.sshkey_model.specs.Reading.{Fault, ◌>>=◌, Label, after_at}
use Rattle.sshkey_model.proofs.LawfulReaders.{ok_is}
use Rattle.sshkey_model.proofs.Grammars.{all_end, ends, AllEnd}
use Rattle.sshkey_model.proofs.Trees.{IsTree, Alike, alike, leaf_tree, then_tree, dependent_tree, tested_tree, made_tree}
use Rattle.sshkey_model.specs.Leaves.{string_format}
use Rattle.sshkey_base.proofs.Lawful.{string_lawful}
use Rattle.sshkey_model.specs.Terms.{literal_format}
use Rattle.sshkey_terms.proofs.Lawful.{called_ends, with_first}
use Rattle.sshkey_userauth.specs.Requests.{UserauthRequest, Method, Publickey, Hostbound, method_name, method_of, message_number, has_signature, keys, userauth_request}
use Rattle.sshkey_userauth.specs.RequestFormats.{Credential, Opening, method_from, method_format, plain_credential, bound_credential, signed_format, credential_format, method_and_credential, opening_format, request_with, userauth_format}
use Rattle.sshkey_userauth.proofs.Lawful.{method_lawful, number_lawful, opening_lawful, signed_lawful, userauth_lawful}

-- ---- the method

named_so : (t : List ℕ) (m : Method) (a : Bool) → bytes_eq t (method_name Publickey) ≡ a → (b : Bool) → bytes_eq t (method_name Hostbound) ≡ b → cond a (Ok Publickey) (cond b (Ok Hostbound) (Err Label)) ≡ Ok m → t ≡ method_name m
named_so t m true p b q e = subst (λ (z : Method). t ≡ method_name z) (ok_is Publickey m e) ((bytes_eq-Decides t (method_name Publickey)).0 p)
named_so t m false p true q e = subst (λ (z : Method). t ≡ method_name z) (ok_is Hostbound m e) ((bytes_eq-Decides t (method_name Hostbound)).0 q)
named_so t m false p false q e = absurd cc

method_tree : IsTree method_format.Spells (λ (x : Method × Unit {0}). Unit {0}) (λ x. string (method_name x.0))
method_tree = tested_tree leaf_tree method_from
    (λ x m is e. (tt, tt, alike _ _ (ap string (named_so x.0 m _ refl _ refl e))))
    (λ y is. back y.0)
  where
    back : (m : Method) → (x : List ℕ × Unit {0}) × Any x.0 × (method_from x.0 ≡ Ok m) × Alike (string x.0) (string (method_name m))
    back Publickey = ((method_name Publickey, tt), tt, refl, alike _ _ refl)
    back Hostbound = ((method_name Hostbound, tt), tt, refl, alike _ _ refl)

-- ---- what follows its name

after_method : Credential → Parts
after_method c = bytes has_signature & string c.algorithm & keys c.public_key c.host_key

IsFor : Method → Credential × Unit {0} → Type 0
IsFor m x = method_of x.0.host_key ≡ m

plain_tree : IsTree (credential_format Publickey).Spells (IsFor Publickey) (λ x. after_method x.0)
unfolding after_method IsFor
plain_tree = made_tree
    (then_tree {First = signed_format.Spells} {delimited_at = signed_format.delimited_at} (ends signed_lawful.grammar (λ _. refl)) leaf_tree
    (then_tree {First = string_format.Spells} {delimited_at = string_format.delimited_at} (ends string_lawful.grammar (λ _. refl)) leaf_tree leaf_tree))
    plain_credential
    (λ x is. (tt, refl, alike _ _ (ap (λ (b : List ℕ). bytes b & string x.0.1.0 & string x.0.1.1) is.0)))
    (λ y is. back y.0.algorithm y.0.public_key y.0.host_key is)
  where
    back : (a k : List ℕ) (h : Option (List ℕ)) → method_of h ≡ Publickey → (x : (List ℕ × (List ℕ × List ℕ)) × (Unit {0} × (Unit {0} × Unit {0}))) × ((x.0.0 ≡ has_signature) × (Any x.0.1.0 × Any x.0.1.1)) × (plain_credential x.0 ≡ record { algorithm = a; public_key = k; host_key = h }) × Alike (bytes x.0.0 & string x.0.1.0 & string x.0.1.1) (bytes has_signature & string a & keys k h)
    back a k None is = (((has_signature, (a, k)), (tt, (tt, tt))), (refl, (tt, tt)), refl, alike _ _ refl)
    back a k (Some h) is = absurd (cc is)

bound_tree : IsTree (credential_format Hostbound).Spells (IsFor Hostbound) (λ x. after_method x.0)
unfolding after_method IsFor
bound_tree = made_tree
    (then_tree {First = signed_format.Spells} {delimited_at = signed_format.delimited_at} (ends signed_lawful.grammar (λ _. refl)) leaf_tree
    (then_tree {First = string_format.Spells} {delimited_at = string_format.delimited_at} (ends string_lawful.grammar (λ _. refl)) leaf_tree
    (then_tree {First = string_format.Spells} {delimited_at = string_format.delimited_at} (ends string_lawful.grammar (λ _. refl)) leaf_tree leaf_tree)))
    bound_credential
    (λ x is. (tt, refl, alike _ _ (ap (λ (b : List ℕ). bytes b & string x.0.1.0 & string x.0.1.1.0 & string x.0.1.1.1) is.0)))
    (λ y is. back y.0.algorithm y.0.public_key y.0.host_key is)
  where
    back : (a k : List ℕ) (h : Option (List ℕ)) → method_of h ≡ Hostbound → (x : (List ℕ × (List ℕ × (List ℕ × List ℕ))) × (Unit {0} × (Unit {0} × (Unit {0} × Unit {0})))) × ((x.0.0 ≡ has_signature) × (Any x.0.1.0 × (Any x.0.1.1.0 × Any x.0.1.1.1))) × (bound_credential x.0 ≡ record { algorithm = a; public_key = k; host_key = h }) × Alike (bytes x.0.0 & string x.0.1.0 & string x.0.1.1.0 & string x.0.1.1.1) (bytes has_signature & string a & keys k h)
    back a k None is = absurd (cc is)
    back a k (Some h) is = (((has_signature, (a, (k, h))), (tt, (tt, (tt, tt)))), (refl, (tt, (tt, tt))), refl, alike _ _ refl)

credential_tree : (m : Method) → IsTree (credential_format m).Spells (IsFor m) (λ x. after_method x.0)
credential_tree Publickey = plain_tree
credential_tree Hostbound = bound_tree

after_service : Credential → Parts
after_service c = string (method_name (method_of c.host_key)) & after_method c

called_tree : IsTree method_and_credential.Spells (λ (x : Credential × Unit {0}). Unit {0}) (λ x. after_service x.0)
unfolding after_service IsFor
called_tree = made_tree
    (dependent_tree {First = method_format.Spells} {delimited_at = method_format.delimited_at} (ends method_lawful.grammar (λ _. refl)) method_tree credential_tree)
    (λ x. x.1)
    (λ x is. (tt, tt, alike _ _ (ap (λ (m : Method). string (method_name m) & after_method x.0.1) (sym is.1))))
    (λ y is. (((method_of y.0.host_key, y.0), (tt, tt)), (tt, refl), refl, alike _ _ refl))

-- ---- the whole

opening_tree : IsTree opening_format.Spells (λ (x : Opening × (Unit {0} × (Unit {0} × (Unit {0} × Unit {0})))). Any x.0.0 × ((x.0.1.0 ≡ message_number) × (Any x.0.1.1.0 × Any x.0.1.1.1))) (λ x. string x.0.0 & bytes x.0.1.0 & string x.0.1.1.0 & string x.0.1.1.1)
opening_tree =
    then_tree {First = string_format.Spells} {delimited_at = string_format.delimited_at} (ends string_lawful.grammar (λ _. refl)) leaf_tree
    (then_tree {First = (literal_format message_number).Spells} {delimited_at = (literal_format message_number).delimited_at} (ends number_lawful.grammar (λ _. refl)) leaf_tree
    (then_tree {First = string_format.Spells} {delimited_at = string_format.delimited_at} (ends string_lawful.grammar (λ _. refl)) leaf_tree leaf_tree))

-- four parts and what follows
four : (p q r s t : Parts) → Alike ((p & q & r & s) & t) (p & q & r & s & t)
unfolding flat InRange BoxesFit
four p q r s t = record {
  bytes = append_assoc (flat p) (flat q ++ (flat r ++ flat s)) (flat t) ∙ ap (λ (l : List ℕ). flat p ++ l) (append_assoc (flat q) (flat r ++ flat s) (flat t) ∙ ap (λ (l : List ℕ). flat q ++ l) (append_assoc (flat r) (flat s) (flat t)));
  there = λ f. record { range = (f.range.0.0, (f.range.0.1.0, (f.range.0.1.1.0, (f.range.0.1.1.1, f.range.1)))); boxes = (f.boxes.0.0, (f.boxes.0.1.0, (f.boxes.0.1.1.0, (f.boxes.0.1.1.1, f.boxes.1)))) };
  back = λ f. record { range = ((f.range.0, (f.range.1.0, (f.range.1.1.0, f.range.1.1.1.0))), f.range.1.1.1.1); boxes = ((f.boxes.0, (f.boxes.1.0, (f.boxes.1.1.0, f.boxes.1.1.1.0))), f.boxes.1.1.1.1) };
}

pub userauth_tree : IsTree userauth_format.Spells (λ (x : UserauthRequest × Unit {0}). Any x.0) (λ x. userauth_request x.0)
unfolding after_service after_method
userauth_tree = made_tree
    (then_tree {First = opening_format.Spells} {delimited_at = opening_format.delimited_at} (ends opening_lawful.grammar (λ _. refl)) opening_tree called_tree)
    request_with
    (λ x is. (
      tt,
      tt,
      subst (λ (b : List ℕ). Alike ((string x.0.0.0 & bytes x.0.0.1.0 & string x.0.0.1.1.0 & string x.0.0.1.1.1) & after_service x.0.1) (string x.0.0.0 & bytes b & string x.0.0.1.1.0 & string x.0.0.1.1.1 & after_service x.0.1)) is.0.1.0 (four (string x.0.0.0) (bytes x.0.0.1.0) (string x.0.0.1.1.0) (string x.0.0.1.1.1) (after_service x.0.1)),
    ))
    (λ y is. (
      (((y.0.session_id, (message_number, (y.0.user, y.0.service))), record { algorithm = y.0.algorithm; public_key = y.0.public_key; host_key = y.0.host_key }), ((tt, (tt, (tt, tt))), tt)),
      ((tt, (refl, (tt, tt))), tt),
      refl,
      four (string y.0.session_id) (bytes message_number) (string y.0.user) (string y.0.service) (after_service (record { algorithm = y.0.algorithm; public_key = y.0.public_key; host_key = y.0.host_key })),
    ))

-- ---- all of it ends by itself

credential_ends : (m : Method) → AllEnd (credential_format m).read (credential_format m).delimited_at
credential_ends Publickey b = refl
credential_ends Hostbound b = refl

userauth_ends : AllEnd userauth_format.read userauth_format.delimited_at
unfolding after_at
userauth_ends b = go (opening_format.read b)
  where
    made : (Opening × Credential) × List ℕ → Result (UserauthRequest × List ℕ) Fault
    made z = Ok (request_with z.0, z.1)

    go : (r : Result (Opening × List ℕ) Fault) → ((r >>= λ x. method_and_credential.delimited_at x.1 >>= with_first x.0) >>= made) ≡ ((r >>= λ x. method_and_credential.read x.1 >>= with_first x.0) >>= made)
    go (Ok x) = rw (called_ends method_format credential_format (λ b. refl) credential_ends x.1) refl
    go (Err e) = refl

pub userauth_grammar : IsGrammar userauth_format.Spells userauth_format.read
userauth_grammar = all_end userauth_lawful.grammar userauth_ends

-- what is written is a spelling
pub userauth_normal : (r : UserauthRequest) → Any r → Fits (userauth_request r) → userauth_format.Spells r (flat (userauth_request r))
userauth_normal r is fits = userauth_tree.again (r, tt) is fits
