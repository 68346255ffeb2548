use Rattle.std.proofs.Common.{◌≡◌, ap, ◌∙◌, sym, length}
use Rattle.std.proofs.lemmas.Result.{err_from_is_err_and}
use Rattle.sshkey_known_hosts.proofs.Hosts.{no_bar_fault, salt_fault, hash_fault, size_fault, hashed}
use Rattle.sshkey_known_hosts.proofs.host_patterns.HostPatterns.from_hashed.Goals as goal

pub returns-in_default : goal.returns-in_default
returns-in_default c = no_bar_fault c.args.text.now c.in_default.ensures.cases

pub returns-in_err-salt : goal.returns-in_err-salt
returns-in_err-salt c = let p = err_from_is_err_and c.from_residual.result c.from_residual.ensures.1 in rw (p.1, p.2) (salt_fault c.args.text.now c.in-Some.salt c.in-Some.hash c.in-Some.ensures.cases _ c.in_err-salt.ensures)

pub returns-in_err-hash : goal.returns-in_err-hash
returns-in_err-hash c = let p = err_from_is_err_and c.from_residual-in_err-hash.result c.from_residual-in_err-hash.ensures.1 in rw (p.1, p.2) (hash_fault c.args.text.now c.in-Some.salt c.in-Some.hash c.in-Some.ensures.cases _ c.in_err-hash.ensures)

pub returns-in_default-try_from : goal.returns-in_default-try_from
returns-in_default-try_from c = size_fault c.args.text.now c.in-Some.salt c.in-Some.hash c.in-Some.ensures.cases c.in_ok-salt.salt.items c.in_ok-hash.hash.items c.in_ok-salt.ensures.0 c.in_ok-salt.ensures.1 c.in_ok-hash.ensures.0 c.in_ok-hash.ensures.1 (λ size. c.in_default-try_from.ensures.1 (ap length c.as_slice.ensures.value ∙ size))

pub returns : goal.returns
returns c =
    let same = c.in-Ok.ensures.1 in
    let items : c.in-Ok.hash ≡ c.in_ok-hash.hash.items = same.same ∙ c.as_slice.ensures.value in
    let size = ap length (sym c.as_slice.ensures.value) ∙ same.long in
    rw (c.new.ensures, items) (hashed c.args.text.now c.in-Some.salt c.in-Some.hash c.in-Some.ensures.cases c.in_ok-salt.salt.items c.in_ok-hash.hash.items c.in_ok-salt.ensures.0 c.in_ok-salt.ensures.1 c.in_ok-hash.ensures.0 c.in_ok-hash.ensures.1 size)
