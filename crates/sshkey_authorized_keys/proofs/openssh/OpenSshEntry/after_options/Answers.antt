use Rattle.std.proofs.lemmas.Result.{err_from_is_err_and}
use Rattle.sshkey_authorized_keys.proofs.OptionEnds.{uncut, uncut_fault, bad_key, key_fault, key_needs, options_need, options_read}
use Rattle.sshkey_authorized_keys.proofs.openssh.OpenSshEntry.after_options.Goals as goal

pub returns-in_default-clause-reads : goal.returns-in_default-clause-reads
returns-in_default-clause-reads c = λ _. uncut c.args.text.now c.in_default.ensures

pub returns-in_default-clause-fault : goal.returns-in_default-clause-fault
returns-in_default-clause-fault c = λ _. uncut_fault c.args.text.now c.in_default.ensures

pub returns-in_err-public_key-clause-reads : goal.returns-in_err-public_key-clause-reads
returns-in_err-public_key-clause-reads c = let p = err_from_is_err_and c.from_residual.result c.from_residual.ensures.1 in
    rw (p.1, p.2) (bad_key c.args.text.now c.in-Some.front.now c.in-Some.rest.now c.skip_blanks.result.now c.in-Some.ensures c.skip_blanks.ensures _ c.in_err-public_key.ensures.reads)

pub returns-in_err-public_key-clause-fault : goal.returns-in_err-public_key-clause-fault
returns-in_err-public_key-clause-fault c = let p = err_from_is_err_and c.from_residual.result c.from_residual.ensures.1 in
    rw (p.1, p.2) (λ other. key_fault c.args.text.now c.in-Some.front.now c.in-Some.rest.now c.skip_blanks.result.now c.in-Some.ensures c.skip_blanks.ensures _ (c.in_err-public_key.ensures.fault other))

pub returns-in_err-public_key-clause-asks : goal.returns-in_err-public_key-clause-asks
returns-in_err-public_key-clause-asks c = let p = err_from_is_err_and c.from_residual.result c.from_residual.ensures.1 in
    rw (p.1, p.2) (λ memory. key_needs c.args.text.now c.in-Some.front.now c.in-Some.rest.now c.skip_blanks.result.now c.in-Some.ensures c.skip_blanks.ensures (c.in_err-public_key.ensures.asks memory))

pub returns-in_err-options-clause-asks : goal.returns-in_err-options-clause-asks
returns-in_err-options-clause-asks c = let p = err_from_is_err_and c.from_residual-in_err-options.result c.from_residual-in_err-options.ensures.1 in
    rw (p.1, p.2) (λ memory. options_need c.args.text.now c.in-Some.front.now c.in-Some.rest.now c.skip_blanks.result.now c.in-Some.ensures c.skip_blanks.ensures _ _ c.in_ok-public_key.ensures.reads)

pub returns-clause-reads : goal.returns-clause-reads
returns-clause-reads c = options_read c.args.text.now c.in-Some.front.now c.in-Some.rest.now c.skip_blanks.result.now c.in-Some.ensures c.skip_blanks.ensures _ c.requires c.in_ok-options.ensures.copy c.in_ok-public_key.ensures.reads
