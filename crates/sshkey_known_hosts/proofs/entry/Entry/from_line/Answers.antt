use Rattle.std.proofs.Common.{option_map}
use Rattle.std.proofs.lemmas.Result.{err_from_is_err_and}
use Rattle.sshkey_known_hosts.specs.HostEntries.{hosts_of, marker_of}
use Rattle.sshkey_known_hosts.proofs.Hosts.{have_parts, refused_parts}
use Rattle.sshkey_known_hosts.proofs.Entries.{uncut_hosts, bad_hosts, bad_host_key, known, line_needs, space_fault, hosts_fault, host_key_fault}
use Rattle.sshkey_known_hosts.proofs.entry.Entry.from_line.Goals as goal

pub returns-in_default-clause-reads : goal.returns-in_default-clause-reads
returns-in_default-clause-reads c = λ _. uncut_hosts c.args.line.now (option_map marker_of c.in_ok-marker.marker) c.in_ok-marker.unmarked.now c.in_ok-marker.ensures c.in_default.ensures.cases

pub returns-in_default-clause-fault : goal.returns-in_default-clause-fault
returns-in_default-clause-fault c = λ _. space_fault c.args.line.now (option_map marker_of c.in_ok-marker.marker) c.in_ok-marker.unmarked.now c.in_ok-marker.ensures c.in_default.ensures.cases

pub returns-in_err-host_patterns-clause-reads : goal.returns-in_err-host_patterns-clause-reads
returns-in_err-host_patterns-clause-reads c = let p = err_from_is_err_and c.from_residual-in_err-host_patterns.result c.from_residual-in_err-host_patterns.ensures.1 in
    rw (p.1, p.2) (bad_hosts c.args.line.now (option_map marker_of c.in_ok-marker.marker) c.in_ok-marker.unmarked.now c.in_ok-marker.ensures c.in-Some.hosts c.in-Some.rest c.in-Some.ensures.cases _ c.in_err-host_patterns.ensures.reads)

pub returns-in_err-host_patterns-clause-fault : goal.returns-in_err-host_patterns-clause-fault
returns-in_err-host_patterns-clause-fault c = let p = err_from_is_err_and c.from_residual-in_err-host_patterns.result c.from_residual-in_err-host_patterns.ensures.1 in
    rw (p.1, p.2) (λ other. hosts_fault c.args.line.now (option_map marker_of c.in_ok-marker.marker) c.in_ok-marker.unmarked.now c.in_ok-marker.ensures c.in-Some.hosts c.in-Some.rest c.in-Some.ensures.cases _ (c.in_err-host_patterns.ensures.reads other) c.in_err-host_patterns.ensures.fault)

pub returns-in_err-public_key-clause-reads : goal.returns-in_err-public_key-clause-reads
returns-in_err-public_key-clause-reads c = let p = err_from_is_err_and c.from_residual-in_err-public_key.result c.from_residual-in_err-public_key.ensures.1 in
    rw (p.1, p.2) (bad_host_key c.args.line.now (option_map marker_of c.in_ok-marker.marker) c.in_ok-marker.unmarked.now c.in_ok-marker.ensures c.in-Some.hosts c.in-Some.rest c.in-Some.ensures.cases _ c.in_err-public_key.ensures.reads)

pub returns-in_err-public_key-clause-fault : goal.returns-in_err-public_key-clause-fault
returns-in_err-public_key-clause-fault c = let p = err_from_is_err_and c.from_residual-in_err-public_key.result c.from_residual-in_err-public_key.ensures.1 in
    rw (p.1, p.2) (λ other. host_key_fault c.args.line.now (option_map marker_of c.in_ok-marker.marker) c.in_ok-marker.unmarked.now c.in_ok-marker.ensures c.in-Some.hosts c.in-Some.rest c.in-Some.ensures.cases _ (hosts_of c.in_ok-host_patterns.host_patterns) c.in_ok-host_patterns.ensures.reads (c.in_err-public_key.ensures.fault other))

pub returns-clause-reads : goal.returns-clause-reads
returns-clause-reads c = known c.args.line.now (option_map marker_of c.in_ok-marker.marker) c.in_ok-marker.unmarked.now c.in_ok-marker.ensures c.in-Some.hosts c.in-Some.rest c.in-Some.ensures.cases _ _ _ c.in_ok-host_patterns.ensures.reads c.in_ok-public_key.ensures.reads

pub returns-in_err-host_patterns-clause-asks : goal.returns-in_err-host_patterns-clause-asks
returns-in_err-host_patterns-clause-asks c = let p = err_from_is_err_and c.from_residual-in_err-host_patterns.result c.from_residual-in_err-host_patterns.ensures.1 in
    rw (p.1, p.2) (λ memory. line_needs c.args.line.now (option_map marker_of c.in_ok-marker.marker) c.in_ok-marker.unmarked.now c.in_ok-marker.ensures c.in-Some.hosts c.in-Some.rest c.in-Some.ensures.cases
    (refused_parts c.in-Some.hosts.now _ c.in_err-host_patterns.ensures.fault memory))

pub returns-in_err-public_key-clause-asks : goal.returns-in_err-public_key-clause-asks
returns-in_err-public_key-clause-asks c = let p = err_from_is_err_and c.from_residual-in_err-public_key.result c.from_residual-in_err-public_key.ensures.1 in
    rw (p.1, p.2) (λ memory. line_needs c.args.line.now (option_map marker_of c.in_ok-marker.marker) c.in_ok-marker.unmarked.now c.in_ok-marker.ensures c.in-Some.hosts c.in-Some.rest c.in-Some.ensures.cases
    (have_parts c.in-Some.hosts.now (hosts_of c.in_ok-host_patterns.host_patterns) c.in_ok-host_patterns.ensures.reads))
