use Rattle.std.proofs.Common.{◌≡◌, ◌∙◌, [], None, Result, Ok, ap, codes, refl, subst, sym}
use Rattle.std.specs.Result.{result_ok}
use Rattle.std.proofs.lemmas.Option.{none-some, same_Some}
use Rattle.sshkey_model.specs.Keys as keys
use Rattle.sshkey_model.specs.Keys.{key_at, key_data_at}
use Rattle.sshkey_model.specs.Labels.{label_at}
use Rattle.sshkey_model.specs.Names.{named}
use Rattle.sshkey_model.specs.Parts.{flat}
use Rattle.sshkey_model.specs.Reading.{after_at, box_at, bytes_at, list_within, literal_at, number_at, string_at}
use Rattle.sshkey_userauth.specs.Examples.{point, touch}
use Rattle.sshkey_userauth.specs.Judgements.{judged, key_from}
use Rattle.sshkey_userauth.specs.RequestExamples.{key_of_point, of_key, signature}
use Rattle.sshkey_userauth.specs.declared.judgement.name.KeyForm.{KeyForm}
use Rattle.sshkey_userauth.specs.declared.judgement.name.KeyForm.TheVariants.{Plain}
use Rattle.sshkey_userauth.proofs.examples.asked.Goals as goal

apart : {X E : Type 0} (r : Result X E) (x : X) → result_ok r ≡ None → r ≡ Ok x → ⊥
apart r x none is = none-some x (sym none ∙ ap result_ok is)

same : {X E : Type 0} (r : Result X E) (x y : X) → r ≡ Ok x → r ≡ Ok y → x ≡ y
same r x y one other = same_Some x y (ap result_ok (sym one ∙ other))

pub returns : goal.returns
unfolding after_at box_at bytes_at flat key_at key_data_at label_at list_within literal_at named number_at string_at
returns c = (
  record { form = Plain; judged = refl; key = keys.Ed25519 point; held = refl; question = refl },
  (λ q is. apart (judged (of_key (codes "ssh-userauth") (codes "ssh-ed25519") key_of_point) touch signature) is.form refl is.judged),
  (λ q is. apart (judged (of_key (codes "ssh-connection") (codes "rsa-sha2-256") key_of_point) touch signature) is.form refl is.judged),
  (λ q is. apart (key_from Plain []) is.key refl (subst (λ (f : KeyForm). key_from f [] ≡ Ok is.key) (same (judged (of_key (codes "ssh-connection") (codes "ssh-ed25519") []) touch signature) is.form Plain is.judged refl) is.held)),
)
