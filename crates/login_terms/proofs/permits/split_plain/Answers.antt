use Rattle.std.proofs.Common.{Some, None, ap, arith, length, lit<, sym}
use Rattle.std.proofs.lemmas.Str.Pattern.{split_after, split_parts}
use Rattle.login_terms.specs.Values.{colon}
use Rattle.login_terms.proofs.Hosts.{same_parts}
use Rattle.login_terms.proofs.permits.split_plain.Goals as goal

pub returns-in_default : goal.returns-in_default
returns-in_default c = λ p is. split_after colon c.args.text.now p.0 p.1 None c.in_default.ensures.cases (lit< tt) is.0.is is.0.one_host

pub returns-then-host-ge-TOO_LONG : goal.returns-then-host-ge-TOO_LONG
returns-then-host-ge-TOO_LONG c = λ p is.
    let same = split_after colon c.args.text.now p.0 p.1 (Some (c.in-Some.host, c.in-Some.port)) c.in-Some.ensures.cases (lit< tt) is.0.is is.0.one_host in
    omega (arith, is.1, c.if-host-ge-TOO_LONG.true, ap length same.0)

pub returns : goal.returns
returns c =
    let parts = split_parts colon c.args.text.now (Some (c.in-Some.host, c.in-Some.port)) c.in-Some.ensures.cases (lit< tt) in (
      (record { is = parts.0; one_host = parts.1 }, omega (arith, c.if-host-ge-TOO_LONG.false)),
      λ p is.
          let same = split_after colon c.args.text.now p.0 p.1 (Some (c.in-Some.host, c.in-Some.port)) c.in-Some.ensures.cases (lit< tt) is.0.is is.0.one_host in
          same_parts p.0 c.in-Some.host.now p.1 c.in-Some.port.now (sym same.0) (sym same.1),
    )
