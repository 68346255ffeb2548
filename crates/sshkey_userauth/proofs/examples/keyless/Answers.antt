use Rattle.std.proofs.Common.{◌≡◌, ◌∙◌, [], true, false, None, Result, Ok, Err, ap, codes, refl, subst, sym}
use Rattle.std.specs.Result.{result_ok}
use Rattle.std.proofs.lemmas.Option.{none-some, same_Some}
use Rattle.sshkey_model.specs.Keys as keys
use Rattle.sshkey_model.specs.Keys.{key_at, key_data_at}
use Rattle.sshkey_model.specs.Labels.{label_at}
use Rattle.sshkey_model.specs.Names.{named}
use Rattle.sshkey_model.specs.Parts.{flat}
use Rattle.sshkey_model.specs.Reading.{after_at, box_at, bytes_at, list_within, literal_at, number_at, string_at}
use Rattle.sshkey_userauth.specs.Examples.{point, touch}
use Rattle.sshkey_userauth.specs.Judgements.{ReadsKey, judged, key_from}
use Rattle.sshkey_userauth.specs.RequestExamples.{asking, key_of_point, of_key, signature}
use Rattle.sshkey_userauth.specs.declared.judgement.name.KeyForm.{KeyForm}
use Rattle.sshkey_userauth.specs.declared.judgement.name.KeyForm.TheVariants.{Plain}
use Rattle.sshkey_userauth.specs.declared.refusal.UserauthRefusal.TheVariants as refusals
use Rattle.sshkey_userauth.proofs.examples.keyless.Goals as goal

apart : {X E : Type 0} (r : Result X E) (x : X) → result_ok r ≡ None → r ≡ Ok x → ⊥
apart r x none is = none-some x (sym none ∙ ap result_ok is)

never : false ≡ true → ⊥
never e = absurd cc

same : {X E : Type 0} (r : Result X E) (x y : X) → r ≡ Ok x → r ≡ Ok y → x ≡ y
same r x y one other = same_Some x y (ap result_ok (sym one ∙ other))

pub returns : goal.returns
unfolding after_at box_at bytes_at flat key_at key_data_at label_at list_within literal_at named number_at string_at
returns c = (
  record { form = Plain; judged = refl; none = refl },
  (λ f is. apart (judged (of_key (codes "ssh-userauth") (codes "ssh-ed25519") []) touch signature) is.form refl is.judged),
  (λ f is. none-some (keys.Ed25519 point) (sym (ap result_ok (subst (λ (form : KeyForm). key_from form key_of_point ≡ Err f) (same (judged asking touch signature) is.form Plain is.judged refl) is.none)))),
  record { form = Plain; judged = refl; none = refl },
  (λ is. never (subst (λ (form : KeyForm). ReadsKey form [] (Err refusals.Memory)) (same (judged (of_key (codes "ssh-connection") (codes "ssh-ed25519") []) touch signature) is.form Plain is.judged refl) is.none)),
  (λ is. is.none),
  refl,
  (λ no. never no),
  (λ no. no),
)
