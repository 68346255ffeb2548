use Rattle.std.proofs.lemmas.Result.{err_from_is_err_and}
use Rattle.sshkey_authorized_keys.proofs.Entries.{uncut, bad_options, bad_key, uncut_fault, options_asked, options_fault, options_needed, key_fault}
use Rattle.sshkey_authorized_keys.proofs.entry.Entry.after_options.Goals as goal

pub returns-in_default-clause-reads : goal.returns-in_default-clause-reads
returns-in_default-clause-reads c = λ _. uncut c.args.line.now c.in_default.ensures.cases

pub returns-in_default-clause-fault : goal.returns-in_default-clause-fault
returns-in_default-clause-fault c = λ _. uncut_fault c.args.line.now c.in_default.ensures.cases c.requires.1

pub returns-in_err-config_opts-clause-reads : goal.returns-in_err-config_opts-clause-reads
returns-in_err-config_opts-clause-reads c = let p = err_from_is_err_and c.from_residual.result c.from_residual.ensures.1 in rw (p.1, p.2) (bad_options c.args.line.now c.in-Some.options c.in-Some.rest c.in-Some.ensures.cases _ c.in_err-config_opts.ensures)

pub returns-in_err-config_opts-clause-fault : goal.returns-in_err-config_opts-clause-fault
returns-in_err-config_opts-clause-fault c = let p = err_from_is_err_and c.from_residual.result c.from_residual.ensures.1 in rw (p.1, p.2) (options_fault c.args.line.now c.in-Some.options c.in-Some.rest c.in-Some.ensures.cases c.requires.1 _ c.in_err-config_opts.ensures)

pub returns-in_err-public_key-clause-reads : goal.returns-in_err-public_key-clause-reads
returns-in_err-public_key-clause-reads c = let p = err_from_is_err_and c.from_residual-in_err-public_key.result c.from_residual-in_err-public_key.ensures.1 in rw (p.1, p.2) (bad_key c.args.line.now c.in-Some.options c.in-Some.rest c.in-Some.ensures.cases _ c.in_err-public_key.ensures.reads)

pub returns-in_err-public_key-clause-fault : goal.returns-in_err-public_key-clause-fault
returns-in_err-public_key-clause-fault c = let p = err_from_is_err_and c.from_residual-in_err-public_key.result c.from_residual-in_err-public_key.ensures.1 in rw (p.1, p.2) (λ other. key_fault c.args.line.now c.in-Some.options c.in-Some.rest c.in-Some.ensures.cases c.requires.1 _ c.in_ok-config_opts.ensures.0 (c.in_err-public_key.ensures.fault other))

pub returns-in_err-config_opts-clause-asks : goal.returns-in_err-config_opts-clause-asks
returns-in_err-config_opts-clause-asks c = let p = err_from_is_err_and c.from_residual.result c.from_residual.ensures.1 in rw (p.1, p.2) (options_asked c.args.line.now c.in-Some.options c.in-Some.rest c.in-Some.ensures.cases c.requires.1 _ c.in_err-config_opts.ensures)

pub returns-in_err-public_key-clause-asks : goal.returns-in_err-public_key-clause-asks
returns-in_err-public_key-clause-asks c = let p = err_from_is_err_and c.from_residual-in_err-public_key.result c.from_residual-in_err-public_key.ensures.1 in rw (p.1, p.2) (λ _. options_needed c.args.line.now c.in-Some.options c.in-Some.rest c.in-Some.ensures.cases c.requires.1 c.in_ok-config_opts.ensures.0)
