use Rattle.std.proofs.Common.{◌≡◌, ◌∙◌, ◌∷◌, ◌++◌, [], List, ap, arith, subst, ℕ}
use Rattle.std.specs.Prelude.{map, string_bytes}
use Rattle.std.proofs.lemmas.List.{length-map, map-append}
use Rattle.sshkey_entries.specs.Answers.{Tells}
use Rattle.login_terms.specs.Options.{terms_of}
use Rattle.login_terms.specs.Values.{HostAndPort, IsPermitListen, MayBeListen, permit_of}
use Rattle.login_terms.specs.declared.permits.Permit.{Permit}
use Rattle.sshkey_entries.specs.declared.reading.Reading.{Reading}
use Rattle.sshkey_entries.specs.declared.reading.Reading.TheVariants.{Is, Rejected, Unclear}
use Rattle.login_terms.proofs.Added.{no_permit, no_room, one_permit}
use Rattle.login_terms.proofs.terms.Terms.with_permit_listen.Goals as goal

pub returns-then-len-ge-MOST_PERMITS : goal.returns-then-len-ge-MOST_PERMITS
returns-then-len-ge-MOST_PERMITS c =
    let s = terms_of c.args.self in
    let told = subst (λ (v : List ℕ). Tells permit_of (IsPermitListen v) (MayBeListen v) (Is c.in-Is.permit)) c.as_str.ensures.value (subst (λ (r : Reading Permit). Tells permit_of (IsPermitListen c.as_str.result.now) (MayBeListen c.as_str.result.now) r) c.in-Is.is c.in_ok-permit.ensures) in
    (no_room (IsPermitListen (string_bytes c.args.value)) (MayBeListen (string_bytes c.args.value)) (λ (l : List HostAndPort). record s { permit_listen = l }) s.permit_listen (omega (arith, c.if-len-ge-MOST_PERMITS.true, c.len.ensures, length-map c.args.self.permit_listen.items permit_of)), told.2)

pub returns-in_ok-push-in-Is : goal.returns-in_ok-push-in-Is
returns-in_ok-push-in-Is c =
    let s = terms_of c.args.self in
    let told = subst (λ (v : List ℕ). Tells permit_of (IsPermitListen v) (MayBeListen v) (Is c.in-Is.permit)) c.as_str.ensures.value (subst (λ (r : Reading Permit). Tells permit_of (IsPermitListen c.as_str.result.now) (MayBeListen c.as_str.result.now) r) c.in-Is.is c.in_ok-permit.ensures) in
    let items : map permit_of c.push.new.self.items ≡ map permit_of c.args.self.permit_listen.items ++ (permit_of c.in-Is.permit ∷ []) = ap (map permit_of) c.in_ok-push-in-Is.ensures.items ∙ map-append permit_of c.args.self.permit_listen.items (c.in-Is.permit ∷ []) in
    one_permit (IsPermitListen (string_bytes c.args.value)) (MayBeListen (string_bytes c.args.value)) (λ (l : List HostAndPort). record s { permit_listen = l }) s.permit_listen (permit_of c.in-Is.permit) (map permit_of c.push.new.self.items)
    (omega (arith, c.if-len-ge-MOST_PERMITS.false, c.len.ensures, length-map c.args.self.permit_listen.items permit_of)) items told

pub returns-in-Rejected : goal.returns-in-Rejected
returns-in-Rejected c =
    let s = terms_of c.args.self in
    let told = subst (λ (v : List ℕ). Tells permit_of (IsPermitListen v) (MayBeListen v) Rejected) c.as_str.ensures.value (subst (λ (r : Reading Permit). Tells permit_of (IsPermitListen c.as_str.result.now) (MayBeListen c.as_str.result.now) r) c.in-Rejected.is c.in_ok-permit.ensures) in
    (no_permit (IsPermitListen (string_bytes c.args.value)) (MayBeListen (string_bytes c.args.value)) (λ (l : List HostAndPort). record s { permit_listen = l }) s.permit_listen told.0, told.1)

pub returns-in-Unclear : goal.returns-in-Unclear
returns-in-Unclear c =
    let s = terms_of c.args.self in
    let told = subst (λ (v : List ℕ). Tells permit_of (IsPermitListen v) (MayBeListen v) Unclear) c.as_str.ensures.value (subst (λ (r : Reading Permit). Tells permit_of (IsPermitListen c.as_str.result.now) (MayBeListen c.as_str.result.now) r) c.in-Unclear.is c.in_ok-permit.ensures) in
    (no_permit (IsPermitListen (string_bytes c.args.value)) (MayBeListen (string_bytes c.args.value)) (λ (l : List HostAndPort). record s { permit_listen = l }) s.permit_listen told.0, told.1)
