use Rattle.std.proofs.Common.{◌≡◌, ◌≢◌, ◌∙◌, ap, inr, map, subst, sym, ℕ}
use Rattle.publickey_login.specs.Grants.{IsPending}
use Rattle.publickey_login.specs.Sources.{Login, client_seen}
use Rattle.publickey_login.specs.Results.{authority_in, client_in, grant_in}
use Rattle.publickey_login.specs.Stops.{IsWhyNotPending}
use Rattle.publickey_login.specs.Values.{principals_of, signed_of, text_of}
use Rattle.publickey_login.specs.declared.refusal.PublickeyRefusal.TheVariants.{Memory}
use Rattle.sshkey_cert.specs.Validity.{fingerprints_of}
use Rattle.sshkey_entry_calls.specs.Revocations.{reads_of, revoked_status}
use Rattle.sshkey_c.proofs.Pends.{same_login}
use Rattle.sshkey_c.specs.Logins.{principals_from}
use Rattle.sshkey_c.specs.Refusals.{refusal_of}
use Rattle.sshkey_c.specs.declared.refusal.Refusal.{Refusal}
use Rattle.sshkey_c.proofs.pend.pend_at.Goals as goal

pub returns-in-Ok-pending-clause-verdict : goal.returns-in-Ok-pending-clause-verdict
returns-in-Ok-pending-clause-verdict c = λ named texts is_name is_time.
    let l = c.args.login.now in
    let s = signed_of c.args.signed.now in
    let files = reads_of c.in-Ok.sources.revoked in
    let p = principals_of c.in-Some.principals in
    let same = same_login l files c.args.place.now.host (client_seen s c.args.place.now.client) c.args.user.now _ _ _ p _ c.requirements_in.result c.args.place.now.unix_timestamp named c.named_algorithm.ensures (ap (map text_of) c.deref.ensures.value ∙ c.in-Ok.ensures.texts) (ap fingerprints_of c.deref-2.ensures.value ∙ c.in-Ok.ensures.authorities) (ap (map text_of) c.deref-3.ensures.value ∙ c.in-Ok.ensures.command) c.requirements_in.ensures is_time in (
      texts,
      (
        record { principals = p; files = files; host = c.args.place.now.host },
        record { principals = ap (principals_from l.trusted.principals_from) (sym c.in-Ok.ensures.principals) ∙ c.in-Some.ensures; files = c.in-Ok.ensures.revoked; host = is_name },
        subst (λ (x : Login). IsPending x s (grant_in c.in-Ok-pending.held) (authority_in c.in-Ok-pending.held) (client_in c.in-Ok-pending.held)) same c.in-Ok-pending.ensures.exactly,
      ),
    )

pub returns-clause-verdict : goal.returns-clause-verdict
returns-clause-verdict c = λ named texts is_name is_time not_memory.
    let l = c.args.login.now in
    let s = signed_of c.args.signed.now in
    let files = reads_of c.in-Ok.sources.revoked in
    let p = principals_of c.in-Some.principals in
    let same = same_login l files c.args.place.now.host (client_seen s c.args.place.now.client) c.args.user.now _ _ _ p _ c.requirements_in.result c.args.place.now.unix_timestamp named c.named_algorithm.ensures (ap (map text_of) c.deref.ensures.value ∙ c.in-Ok.ensures.texts) (ap fingerprints_of c.deref-2.ensures.value ∙ c.in-Ok.ensures.authorities) (ap (map text_of) c.deref-3.ensures.value ∙ c.in-Ok.ensures.command) c.requirements_in.ensures is_time in
    let is : c.refusal_of.result ≡ refusal_of (revoked_status files) c.in-Err.refusal = c.refusal_of.ensures.refusal ∙ ap (λ (n : ℕ). refusal_of n c.in-Err.refusal) c.revoked_status.ensures in
    let other : c.in-Err.refusal ≢ Memory = λ memory. not_memory (ap (λ (d : Refusal). d.number) (is ∙ ap (refusal_of (revoked_status files)) memory)) in
    inr (inr (
      texts,
      (
        record { principals = p; files = files; host = c.args.place.now.host },
        record { principals = ap (principals_from l.trusted.principals_from) (sym c.in-Ok.ensures.principals) ∙ c.in-Some.ensures; files = c.in-Ok.ensures.revoked; host = is_name },
        ((λ g a q pending. c.in-Err.ensures.exactly other g a q (subst (λ (x : Login). IsPending x s g a q) (sym same) pending)), (c.in-Err.refusal, subst (λ (x : Login). IsWhyNotPending x s c.in-Err.refusal) same (c.in-Err.ensures.refused other), is)),
      ),
    ))
