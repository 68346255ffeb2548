use Rattle.std.proofs.Common.{IfOk, subst, sym}
use Rattle.std.specs.Prelude.{string_bytes}
use Rattle.sshkey_entries.specs.Answers.{Tells}
use Rattle.login_terms.specs.Options.{AddsValue, MayBeValue, terms_of}
use Rattle.login_terms.specs.declared.words.Word.{Word}
use Rattle.login_terms.proofs.terms.Terms.with_value.Goals as goal

pub returns-in-ExpiryTime : goal.returns-in-ExpiryTime
returns-in-ExpiryTime c = subst (λ (w : Word). Tells terms_of (AddsValue w (string_bytes c.args.value) (terms_of c.args.self)) (MayBeValue w (string_bytes c.args.value)) c.with_expiry.result) (sym c.in-ExpiryTime.is) c.with_expiry.ensures

pub returns-in-Environment : goal.returns-in-Environment
returns-in-Environment c = subst (λ (w : Word). IfOk c.with_variable.result (Tells terms_of (AddsValue w (string_bytes c.args.value) (terms_of c.args.self)) (MayBeValue w (string_bytes c.args.value)))) (sym c.in-Environment.is) c.with_variable.ensures

pub returns-in-PermitOpen : goal.returns-in-PermitOpen
returns-in-PermitOpen c = subst (λ (w : Word). IfOk c.with_permit_open.result (Tells terms_of (AddsValue w (string_bytes c.args.value) (terms_of c.args.self)) (MayBeValue w (string_bytes c.args.value)))) (sym c.in-PermitOpen.is) c.with_permit_open.ensures

pub returns-in-PermitListen : goal.returns-in-PermitListen
returns-in-PermitListen c = subst (λ (w : Word). IfOk c.with_permit_listen.result (Tells terms_of (AddsValue w (string_bytes c.args.value) (terms_of c.args.self)) (MayBeValue w (string_bytes c.args.value)))) (sym c.in-PermitListen.is) c.with_permit_listen.ensures

pub returns-in-Tunnel : goal.returns-in-Tunnel
returns-in-Tunnel c = subst (λ (w : Word). Tells terms_of (AddsValue w (string_bytes c.args.value) (terms_of c.args.self)) (MayBeValue w (string_bytes c.args.value)) c.with_tunnel.result) (sym c.in-Tunnel.is) c.with_tunnel.ensures
