use Rattle.std.proofs.Common.{◌≡◌, Err, Some, None, Result, refl, sym, ap, ◌∙◌}
use Rattle.std.proofs.lemmas.Result.{err_from_is_err_and}
use Rattle.sshkey_base.specs.declared.error.Error.{Error}
use Rattle.sshkey_pairs.specs.Keypairs.{pair_of}
use Rattle.sshkey_keys.specs.Keys.{key_of, stored_algorithm}
use Rattle.sshkey_keys.specs.declared.key_data.KeyData.{KeyData}
use Rattle.sshkey_ciphers.specs.declared.cipher.Cipher.TheVariants as cipher
use Rattle.sshkey_ciphers.specs.declared.kdf.Kdf.TheVariants as kdf
use Rattle.sshkey_private.specs.Forms.{sealed_of}
use Rattle.sshkey_private.proofs.NewKeys.{form_of_new, none_made, some_made}
use Rattle.sshkey_private.proofs.private_key.PrivateKey.new.Goals as goal

same_error : (d e : Error) → ◌≡◌ {A = Result KeyData Error} (Err d) (Err e) → d ≡ e
same_error d e same = cc

pub returns-in_err-public-clause-value : goal.returns-in_err-public-clause-value
returns-in_err-public-clause-value c =
    let p = err_from_is_err_and c.from_residual.result c.from_residual.ensures.1 in
    rw (p.1, p.2) (none_made c.args.key_data _ c.in_err-public.field-0.0 (λ is. same_error _ _ (c.in_err-public.ensures.encrypted is)) c.in_err-public.ensures.refused)

pub invariant_of-result : goal.invariant_of-result
invariant_of-result c = record {
  form = form_of_new (pair_of c.args.key_data) (sealed_of cipher.None kdf.None c.new.result c.args.key_data None) refl refl (c.in_ok-public.ensures.value ∙ ap (λ (d : KeyData). Some (key_of d)) (sym c.new.ensures.key));
}

pub returns-clause-value : goal.returns-clause-value
returns-clause-value c = some_made (pair_of c.args.key_data) _ (key_of c.in_ok-public.public) _ c.in_ok-public.ensures.value refl c.checkint-checkint.ensures c.new.ensures.comment

pub returns-clause-algorithm : goal.returns-clause-algorithm
returns-clause-algorithm c = c.in_ok-public.ensures.algorithm ∙ ap (λ (d : KeyData). Some (stored_algorithm d)) (sym c.new.ensures.key)
