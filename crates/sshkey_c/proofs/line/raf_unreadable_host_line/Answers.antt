use Rattle.std.proofs.Common.{List, ℕ, inl, inr, subst, sym, ◌∙◌}
use Rattle.sshkey_matching.specs.AskedHosts.{IsAsked, IsHostFault}
use Rattle.sshkey_entry_calls.specs.Hosts.{TellsUnreadableLine}
use Rattle.sshkey_entry_calls.proofs.Hosts.{needs_memory}
use Rattle.sshkey_c.proofs.line.raf_unreadable_host_line.Goals as goal

pub returns-in-Ok-asked_host-clause-line : goal.returns-in-Ok-asked_host-clause-line
returns-in-Ok-asked_host-clause-line c _ =
    let asked : IsAsked c.in-Ok.host.now c.args.port c.as_str.result.now = subst (IsAsked c.in-Ok.host.now c.args.port) (sym c.as_str.ensures) c.in-Ok-asked_host.ensures in
    subst (λ (t : List ℕ). TellsUnreadableLine c.args.known_hosts.now t c.args.port c.find_line.result c.find_line.new.number) c.in-Ok.ensures.cases.0
    (inl (c.as_str.result.now, asked, c.find_line.ensures.line))

pub returns-in-Err-clause-line : goal.returns-in-Err-clause-line
returns-in-Err-clause-line c _ =
    inr (c.in-Err.fault, subst (λ (t : List ℕ). IsHostFault t c.args.port c.in-Err.fault) c.in-Ok.ensures.cases.0 c.in-Err.ensures, c.host_fault_status.ensures.number)

pub returns-in-Err-clause-memory : goal.returns-in-Err-clause-memory
returns-in-Err-clause-memory c one =
    inr (needs_memory c.args.host.now c.args.port c.in-Err.fault (subst (λ (t : List ℕ). IsHostFault t c.args.port c.in-Err.fault) c.in-Ok.ensures.cases.0 c.in-Err.ensures) (sym c.host_fault_status.ensures.number ∙ one))
