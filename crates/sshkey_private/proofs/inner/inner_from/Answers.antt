use Rattle.std.proofs.Common.{ℕ, List, Option}
use Rattle.std.proofs.lemmas.Result.{err_from_is_err_and}
use Rattle.sshkey_model.specs.Keys.{Key}
use Rattle.sshkey_model.specs.KeyPairs.{KeyPair}
use Rattle.sshkey_base.specs.Causes.{same_cause}
use Rattle.sshkey_model.specs.Formats.{Format}
use Rattle.sshkey_model.specs.Texts.{text_format}
use Rattle.sshkey_base.proofs.Places.{later_then}
use Rattle.sshkey_keys.specs.Keys.{key_of}
use Rattle.sshkey_pairs.specs.Keypairs.{pair_of}
use Rattle.sshkey_model.specs.Terms.{◌then◌}
use Rattle.sshkey_terms.proofs.Lawful.{IsMapped}
use Rattle.sshkey_terms.proofs.Stopping.{mapped_stopped, stopped_first, stopped_later}
use Rattle.sshkey_private.specs.PrivateParts.{unencrypted_of_parts, inner_at, checkint_format, pair_format}
use Rattle.sshkey_private.proofs.Lawful.{checkint_lawful, inner_is, pair_lawful}
use Rattle.sshkey_private.proofs.inner.inner_from.Goals as goal

pub returns-in_err-comment-clause-later : goal.returns-in_err-comment-clause-later
returns-in_err-comment-clause-later g c = later_then _ _ _ c.in_ok-checkint.ensures.later (later_then _ _ _ c.in_ok-pair.ensures.later c.in_err-comment.ensures.later)

pub returns-clause-later : goal.returns-clause-later
returns-clause-later g c = later_then _ _ _ c.in_ok-checkint.ensures.later (later_then _ _ _ c.in_ok-pair.ensures.later c.in_ok-comment.ensures.later)

abbrev after_checkint : Key → Format (Option KeyPair × List ℕ)
after_checkint public = pair_format public then text_format

inner_read : (public : Key) → IsMapped (inner_at public) unencrypted_of_parts (checkint_format then after_checkint public).read
inner_read public = record { same = inner_is public }

pub returns-in_err-checkint-clause-past : goal.returns-in_err-checkint-clause-past
returns-in_err-checkint-clause-past g c =
    let p = err_from_is_err_and c.from_residual.result c.from_residual.ensures.1 in
    let public = key_of c.args.public.now in
    let rest = after_checkint public in
    rw (p.1, p.2) (mapped_stopped _ _ _ _ _ unencrypted_of_parts (inner_at public) (inner_read public) (stopped_first checkint_format.needs checkint_format.overruns checkint_format.delimited_at checkint_format.read (λ _. rest.needs) (λ _. rest.overruns) (λ _. rest.delimited_at) _ _ c.in_err-checkint.ensures.past))

pub returns-in_err-pair-clause-past : goal.returns-in_err-pair-clause-past
returns-in_err-pair-clause-past g c =
    let p = err_from_is_err_and c.from_residual-in_err-pair.result c.from_residual-in_err-pair.ensures.1 in
    let public = key_of c.args.public.now in
    let pair = pair_format public in
    let rest = after_checkint public in
    rw (p.1, p.2) (mapped_stopped _ _ _ _ _ unencrypted_of_parts (inner_at public) (inner_read public) (stopped_later checkint_format.needs checkint_format.overruns checkint_format.delimited_at checkint_format.read (λ _. rest.needs) (λ _. rest.overruns) (λ _. rest.delimited_at) (λ n. n) _ _ _ _ checkint_lawful.grammar.same checkint_lawful.lengths c.in_ok-checkint.ensures.gives (stopped_first pair.needs pair.overruns pair.delimited_at pair.read (λ _. text_format.needs) (λ _. text_format.overruns) (λ _. text_format.delimited_at) _ _ c.in_err-pair.ensures.past)))

pub returns-in_err-comment-clause-past : goal.returns-in_err-comment-clause-past
returns-in_err-comment-clause-past g c =
    let p = err_from_is_err_and c.from_residual-in_err-comment.result c.from_residual-in_err-comment.ensures.1 in
    let public = key_of c.args.public.now in
    let pair = pair_format public in
    let rest = after_checkint public in
    rw (p.1, p.2, same_cause c.in_err-comment.field-0.0) (mapped_stopped _ _ _ _ _ unencrypted_of_parts (inner_at public) (inner_read public) (stopped_later checkint_format.needs checkint_format.overruns checkint_format.delimited_at checkint_format.read (λ _. rest.needs) (λ _. rest.overruns) (λ _. rest.delimited_at) (λ n. n) _ _ _ _ checkint_lawful.grammar.same checkint_lawful.lengths c.in_ok-checkint.ensures.gives (stopped_later pair.needs pair.overruns pair.delimited_at pair.read (λ _. text_format.needs) (λ _. text_format.overruns) (λ _. text_format.delimited_at) pair_of _ _ _ _ (pair_lawful public).grammar.same (pair_lawful public).lengths c.in_ok-pair.ensures.gives c.in_err-comment.ensures.past)))
