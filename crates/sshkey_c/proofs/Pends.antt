-- The login that is asked for.
use Rattle.std.proofs.Common.{◌≡◌, ℕ, List, Bor, Option, Result, ap, ◌∙◌}
use Rattle.login_policy.specs.declared.client.Client.{Client}
use Rattle.publickey_login.specs.Sources.{Login, Principals, Text}
use Rattle.sshkey_base.specs.declared.error.Error.{Error}
use Rattle.sshkey_calls.specs.Validations.{authorities_of}
use Rattle.sshkey_entry_calls.specs.Revocations.{one_revokes, one_revokes_key}
use Rattle.sshkey_model.specs.Fingerprints.{Fingerprint}
use Rattle.sshkey_revoked_keys.specs.declared.revoked_keys.RevokedKeys.{RevokedKeys}
use Rattle.sshkey_userauth.specs.declared.judgement.Requirements.{Requirements}
use Rattle.sshkey_c.specs.Logins.{login_of, named_algorithm, requirements_in, texts_in}
use Rattle.sshkey_c.specs.declared.login.LoginParts.{LoginParts}

module _ (l : LoginParts) (files : List (Result RevokedKeys Error)) (host : Option (Bor (List ℕ))) (c : Client) where
  abbrev built : List ℕ → Option (List ℕ) → List Text → List Fingerprint → Principals → List Text → Requirements → ℕ → Login
  built user name keys authorities p command required time = record { offer = record { user = user; algorithm = name; blob = l.offer.blob.now }; trusted = record { authorized_keys = keys; authorities = authorities; principals = p; command_keys = command; least_rsa_bits = l.trusted.least_rsa_bits; requirements = required }; client = c; host = host; time = time; revokes = one_revokes files; revokes_key = one_revokes_key files }

  pub same_login : (user : List ℕ) (name : Option (List ℕ)) (keys : List Text) (authorities : List Fingerprint) (p : Principals) (command : List Text) (required : Requirements) (time : ℕ) → user ≡ l.offer.user.now → name ≡ named_algorithm l.offer.algorithm.now → keys ≡ texts_in l.trusted.authorized_keys.now → authorities ≡ authorities_of l.trusted.authorities.now → command ≡ texts_in l.trusted.command_keys.now → required ≡ requirements_in l.trusted → time ≡ l.place.unix_timestamp → built user name keys authorities p command required time ≡ login_of l (record { principals = p; files = files; host = host }) c
  same_login user name keys authorities p command required time is_user is_name are_keys are_authorities are_command are_required is_time =
      ap (λ (x : List ℕ). built x name keys authorities p command required time) is_user
      ∙ ap (λ (x : Option (List ℕ)). built l.offer.user.now x keys authorities p command required time) is_name
      ∙ ap (λ (x : List Text). built l.offer.user.now (named_algorithm l.offer.algorithm.now) x authorities p command required time) are_keys
      ∙ ap (λ (x : List Fingerprint). built l.offer.user.now (named_algorithm l.offer.algorithm.now) (texts_in l.trusted.authorized_keys.now) x p command required time) are_authorities
      ∙ ap (λ (x : List Text). built l.offer.user.now (named_algorithm l.offer.algorithm.now) (texts_in l.trusted.authorized_keys.now) (authorities_of l.trusted.authorities.now) p x required time) are_command
      ∙ ap (λ (x : Requirements). built l.offer.user.now (named_algorithm l.offer.algorithm.now) (texts_in l.trusted.authorized_keys.now) (authorities_of l.trusted.authorities.now) p (texts_in l.trusted.command_keys.now) x time) are_required
      ∙ ap (built l.offer.user.now (named_algorithm l.offer.algorithm.now) (texts_in l.trusted.authorized_keys.now) (authorities_of l.trusted.authorities.now) p (texts_in l.trusted.command_keys.now) (requirements_in l.trusted)) is_time
