use Rattle.std.proofs.Common.{sym, ◌∙◌}
use Rattle.sshkey_cert.specs.Certificates.{certificate_of}
use Rattle.host_keys.specs.Hosts.{lines_of, login_of}
use Rattle.host_keys.proofs.Certificates.{asks_both, by_key, final, not_final_memory, unknown, unknown_for_good}
use Rattle.host_keys.proofs.certificate.check_asked_certificate.Goals as goal

pub returns-then-is_final : goal.returns-then-is_final
returns-then-is_final g c =
    let login = login_of c.args.login.now (g.H.HostHasher.hmac c.args.hmac.now) in
    let accepts = g.V.RawVerifier.accepts c.args.verifier.now in
    let revokes = g.R.Revocations.revokes c.args.revocations.now in
    let revokes_key = g.R.Revocations.revokes_key c.args.revocations.now in
    let certificate = certificate_of c.args.certificate.now in
    let is = sym c.is_final.ensures ∙ c.if-is_final.true in
    record {
      exactly = unknown_for_good login accepts revokes revokes_key certificate c.in-Err.first c.in-Err.ensures.refused c.in-Err.ensures.exactly is;
      refused = final login accepts revokes revokes_key certificate c.in-Err.first c.in-Err.ensures.refused c.in-Err.ensures.exactly is;
      asks = c.in-Err.ensures.asks;
    }

pub returns-in-Ok-clause-exactly : goal.returns-in-Ok-clause-exactly
returns-in-Ok-clause-exactly g c =
    let login = login_of c.args.login.now (g.H.HostHasher.hmac c.args.hmac.now) in
    let accepts = g.V.RawVerifier.accepts c.args.verifier.now in
    let revokes = g.R.Revocations.revokes c.args.revocations.now in
    let revokes_key = g.R.Revocations.revokes_key c.args.revocations.now in
    by_key login accepts revokes revokes_key (certificate_of c.args.certificate.now) c.in-Err.first c.in-Err.ensures.refused c.in-Err.ensures.exactly (sym c.is_final.ensures ∙ c.if-is_final.false) c.in-Ok.ensures.exactly

pub returns-in-Err-check_certified_key-clause-exactly : goal.returns-in-Err-check_certified_key-clause-exactly
returns-in-Err-check_certified_key-clause-exactly g c =
    let login = login_of c.args.login.now (g.H.HostHasher.hmac c.args.hmac.now) in
    let accepts = g.V.RawVerifier.accepts c.args.verifier.now in
    let revokes = g.R.Revocations.revokes c.args.revocations.now in
    let revokes_key = g.R.Revocations.revokes_key c.args.revocations.now in
    unknown login accepts revokes revokes_key (certificate_of c.args.certificate.now) c.in-Err.first c.in-Err.ensures.refused c.in-Err.ensures.exactly (sym c.is_final.ensures ∙ c.if-is_final.false) c.in-Err-check_certified_key.why c.in-Err-check_certified_key.ensures.exactly c.or_of_key.result c.or_of_key.ensures

pub returns-in-Err-check_certified_key-clause-asks : goal.returns-in-Err-check_certified_key-clause-asks
returns-in-Err-check_certified_key-clause-asks g c =
    asks_both (g.R.Revocations.revokes_none c.args.revocations.now) (lines_of c.args.login.now.texts.now) c.in-Err.first c.in-Err-check_certified_key.why c.or_of_key.result (not_final_memory c.in-Err.first (sym c.is_final.ensures ∙ c.if-is_final.false)) c.or_of_key.ensures c.in-Err-check_certified_key.ensures.asks
