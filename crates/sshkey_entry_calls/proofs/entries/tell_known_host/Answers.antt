use Rattle.std.proofs.Common.{Option, ap, option_map, refl, ◌∙◌}
use Rattle.sshkey_entries.specs.KnownHosts.{hosts_text}
use Rattle.sshkey_known_hosts.specs.HostEntries.{hosts_of, known_host_of, marker_of}
use Rattle.sshkey_known_hosts.specs.declared.host_patterns.HostPatterns.{HostPatterns}
use Rattle.sshkey_known_hosts.specs.declared.marker.Marker.{Marker}
use Rattle.sshkey_entry_calls.specs.Entries.{marker_number, of_known_host}
use Rattle.sshkey_entry_calls.proofs.Found.{found_entry, same_text}
use Rattle.sshkey_entry_calls.proofs.entries.tell_known_host.Goals as goal

pub returns-in-Ok : goal.returns-in-Ok
returns-in-Ok c =
    found_entry _ of_known_host (known_host_of c.args.entry.now) _ _ _ _ _ refl
    (same_text _ _ _ _ _ _ _ _ _ _ _
    (c.as_str.ensures.value ∙ c.in-Ok.ensures.text ∙ ap (λ (h : HostPatterns). hosts_text (hosts_of h)) c.host_patterns.ensures)
    c.public_key.ensures
    (c.marker_number-marker.ensures ∙ ap (λ (m : Option Marker). marker_number (option_map marker_of m)) c.marker.ensures)
    c.answer_with.ensures)
