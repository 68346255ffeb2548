use denote.Ref.{Bor}
use Rattle.std.proofs.Common.{◌≡◌, ◌∙◌, ◌++◌, List, ℕ, ap, subst, sym}
use Rattle.std.proofs.lemmas.Grind.{flat_map-append}
use Rattle.sshkey_matching.proofs.AskedHosts.{no_fault, one_asked}
use Rattle.sshkey_matching.specs.AskedHosts.{IsAsked, IsHostFault}
use Rattle.sshkey_matching.specs.declared.host.HostFault.TheVariants as fault
use Rattle.sshkey_entries.specs.Fields.{filled_lines}
use Rattle.sshkey_entries.specs.HostVerdicts.{known_name, standard_port}
use Rattle.sshkey_known_hosts.specs.Hmac.{hmac_sha1}
use Rattle.sshkey_known_hosts.specs.HeldLines.{SaySame}
use Rattle.sshkey_known_hosts.proofs.HeldLines.{same_more}
use Rattle.host_keys.specs.Hosts.{lines_of}
use Rattle.sshkey_entry_calls.proofs.host_request.HostRequest.texts_with.Goals as goal

pub text_of-requires : goal.text_of-requires
text_of-requires c = c.requires.texts

pub returns-in-Err-Port : goal.returns-in-Err-Port
returns-in-Err-Port c = let is : c.in-Err-Port.field-0 ≡ fault.Port = (let i = c.in-Err-Port.is in cc) in λ are name asked. absurd (no_fault c.args.self.now.host.now c.args.self.now.port name fault.Port (λ e. cc e) (subst (λ (h : List ℕ). IsHostFault h c.args.self.now.port fault.Port) c.text_of.ensures (subst (IsHostFault c.text_of.result.now c.args.self.now.port) is c.in-Err-Port.ensures)) asked)

pub returns-in-Err-Empty : goal.returns-in-Err-Empty
returns-in-Err-Empty c = let is : c.in-Err-Empty.field-0 ≡ fault.Empty = (let i = c.in-Err-Empty.is in cc) in λ are name asked. absurd (no_fault c.args.self.now.host.now c.args.self.now.port name fault.Empty (λ e. cc e) (subst (λ (h : List ℕ). IsHostFault h c.args.self.now.port fault.Empty) c.text_of.ensures (subst (IsHostFault c.text_of.result.now c.args.self.now.port) is c.in-Err-Empty.ensures)) asked)

pub returns-in-Err-Address : goal.returns-in-Err-Address
returns-in-Err-Address c = let is : c.in-Err-Address.field-0 ≡ fault.Address = (let i = c.in-Err-Address.is in cc) in λ are name asked. absurd (no_fault c.args.self.now.host.now c.args.self.now.port name fault.Address (λ e. cc e) (subst (λ (h : List ℕ). IsHostFault h c.args.self.now.port fault.Address) c.text_of.ensures (subst (IsHostFault c.text_of.result.now c.args.self.now.port) is c.in-Err-Address.ensures)) asked)

pub returns-in-Ok-extend_from_slice : goal.returns-in-Ok-extend_from_slice
returns-in-Ok-extend_from_slice c are name asked =
    let l = c.args.self.now in
    let some = c.in-Ok-texts_for.texts.items in
    let own_texts = l.known_hosts.now in
    let held = filled_lines c.args.held.now.text.now in
    let all : lines_of c.extend_from_slice.new.self.items ≡ lines_of some ++ lines_of own_texts = ap lines_of c.in-Ok-extend_from_slice.ensures.items ∙ flat_map-append (λ (t : Bor (List ℕ)). filled_lines t.now) some own_texts in
    let named = c.as_str.ensures ∙ one_asked c.text_of.result.now l.port _ name c.in-Ok.ensures (subst (λ (h : List ℕ). IsAsked h l.port name) (sym c.text_of.ensures) asked) in
    let more = λ (hmac : List ℕ → List ℕ → List ℕ) (at : ℕ) (same : SaySame hmac (known_name c.as_str.result.now at) held (lines_of some)).
    subst (λ (n : List ℕ). SaySame hmac (known_name n at) (held ++ lines_of own_texts) (lines_of c.extend_from_slice.new.self.items)) named
    (subst (SaySame hmac (known_name c.as_str.result.now at) (held ++ lines_of own_texts)) (sym all)
    (same_more hmac (known_name c.as_str.result.now at) held (lines_of some) (lines_of own_texts) same)) in
    (more hmac_sha1 l.port (c.in-Ok-texts_for.ensures.own are hmac_sha1), more hmac_sha1 standard_port (c.in-Ok-texts_for.ensures.plain are hmac_sha1))
