use denote.Ref.{Bor}
use Rattle.std.proofs.Common.{◌≡◌, ◌∙◌, ◌++◌, List, ℕ, ap, subst, sym}
use Rattle.std.proofs.lemmas.Grind.{flat_map-append}
use Rattle.sshkey_matching.proofs.AskedHosts.{no_fault, one_asked}
use Rattle.sshkey_matching.specs.AskedHosts.{IsHostFault}
use Rattle.sshkey_matching.specs.declared.host.HostFault.TheVariants as fault
use Rattle.sshkey_entries.specs.Fields.{filled_lines}
use Rattle.sshkey_entries.specs.HostVerdicts.{known_name, standard_port}
use Rattle.sshkey_known_hosts.specs.HeldLines.{held_lines, SaySame}
use Rattle.sshkey_known_hosts.proofs.HeldLines.{same_more}
use Rattle.host_keys.specs.Hosts.{lines_of}
use Rattle.host_keys.proofs.host_check.HostCheck.texts_with.Goals as goal

pub returns-in-Err-Port : goal.returns-in-Err-Port
returns-in-Err-Port c = let is : c.in-Err-Port.field-0 ≡ fault.Port = (let i = c.in-Err-Port.is in cc) in record { same = λ hmac name asked. absurd (no_fault c.args.self.now.host.now c.args.self.now.port name fault.Port (λ e. cc e) (subst (IsHostFault c.args.self.now.host.now c.args.self.now.port) is c.in-Err-Port.ensures) asked); memory = tt }

pub returns-in-Err-Empty : goal.returns-in-Err-Empty
returns-in-Err-Empty c = let is : c.in-Err-Empty.field-0 ≡ fault.Empty = (let i = c.in-Err-Empty.is in cc) in record { same = λ hmac name asked. absurd (no_fault c.args.self.now.host.now c.args.self.now.port name fault.Empty (λ e. cc e) (subst (IsHostFault c.args.self.now.host.now c.args.self.now.port) is c.in-Err-Empty.ensures) asked); memory = tt }

pub returns-in-Err-Address : goal.returns-in-Err-Address
returns-in-Err-Address c = let is : c.in-Err-Address.field-0 ≡ fault.Address = (let i = c.in-Err-Address.is in cc) in record { same = λ hmac name asked. absurd (no_fault c.args.self.now.host.now c.args.self.now.port name fault.Address (λ e. cc e) (subst (IsHostFault c.args.self.now.host.now c.args.self.now.port) is c.in-Err-Address.ensures) asked); memory = tt }

pub returns-in-Ok-extend_from_slice-clause-same : goal.returns-in-Ok-extend_from_slice-clause-same
returns-in-Ok-extend_from_slice-clause-same c hmac name asked =
    let own = c.args.self.now in
    let some = c.in-Ok-texts_for.texts.items in
    let own_texts = own.texts.now in
    let all : lines_of c.extend_from_slice.new.self.items ≡ lines_of some ++ lines_of own_texts = ap lines_of c.in-Ok-extend_from_slice.ensures.items ∙ flat_map-append (λ (t : Bor (List ℕ)). filled_lines t.now) some own_texts in
    let named = c.as_str.ensures ∙ one_asked own.host.now own.port _ name c.in-Ok.ensures asked in
    let more = λ (at : ℕ) (same : SaySame hmac (known_name c.as_str.result.now at) (held_lines c.args.held.now) (lines_of some)).
    subst (λ (n : List ℕ). SaySame hmac (known_name n at) (held_lines c.args.held.now ++ lines_of own_texts) (lines_of c.extend_from_slice.new.self.items)) named
    (subst (SaySame hmac (known_name c.as_str.result.now at) (held_lines c.args.held.now ++ lines_of own_texts)) (sym all)
    (same_more hmac (known_name c.as_str.result.now at) (held_lines c.args.held.now) (lines_of some) (lines_of own_texts) same)) in
    (more own.port (c.in-Ok-texts_for.ensures.own hmac), more standard_port (c.in-Ok-texts_for.ensures.plain hmac))
