use Rattle.std.proofs.Common.{◌≡◌, List, Some, subst, ℕ}
use Rattle.sshkey_entries.specs.OptionItems.{MaySay, Says}
use Rattle.sshkey_entries.specs.Answers.{Tells}
use Rattle.sshkey_entries.specs.declared.reading.Reading.{Reading}
use Rattle.sshkey_entries.specs.declared.reading.Reading.TheVariants.{Is, Rejected, Unclear}
use Rattle.sshkey_entries.proofs.OptionItems.{all_read, no_options, read_on, rejected_here, unclear_here}
use Rattle.sshkey_authorized_keys.specs.Options.{YieldsOption, key_option_of}
use Rattle.sshkey_authorized_keys.proofs.openssh_options.read_options.Goals as goal

pub loop-option-init : goal.loop-option-init
loop-option-init g c =
    let m = g.T.AddOptions in
    let s = m.means c.args.said in
    let whole : c.into_iter-option-iterator.result ≡ c.args.options.now = cc in
    (tt, tt, λ r read. subst (λ (t : List ℕ). Tells m.means (Says m.Adds s t) (MaySay m.Adds m.MayBe s t) r) whole read)

pub loop-option-preserved : goal.loop-option-preserved
loop-option-preserved g c =
    let m = g.T.AddOptions in
    let o = key_option_of c.in-Ok.option in
    let s = m.means c.loop-option.said in
    let step = subst (λ r. YieldsOption c.loop-option.option-iterator (Some r) c.next.new.self) c.in-Ok.is c.in-Some.ensures.steps in
    let told = subst (λ (r : Reading g.row.T.Denot). Tells m.means (m.Adds o.name o.value s) (m.MayBe o.name o.value) r) c.in-Is.is c.in_ok-more.ensures in
    (tt, tt, λ r rest. c.loop-option.invariant.2 r (read_on m.means m.Adds m.MayBe c.loop-option.option-iterator c.next.new.self o s step c.in-Is.more told r rest))

pub returns-in_default : goal.returns-in_default
returns-in_default g c =
    let m = g.T.AddOptions in
    let step = subst (λ r. YieldsOption c.loop-option.option-iterator (Some r) c.next.new.self) c.in_default.is c.in-Some.ensures.steps in
    c.loop-option.invariant.2 Rejected (no_options m.means m.Adds m.MayBe c.loop-option.option-iterator (m.means c.loop-option.said) step.1 step.2)

pub returns-in-Rejected : goal.returns-in-Rejected
returns-in-Rejected g c =
    let m = g.T.AddOptions in
    let o = key_option_of c.in-Ok.option in
    let s = m.means c.loop-option.said in
    let step = subst (λ r. YieldsOption c.loop-option.option-iterator (Some r) c.next.new.self) c.in-Ok.is c.in-Some.ensures.steps in
    let told = subst (λ (r : Reading g.row.T.Denot). Tells m.means (m.Adds o.name o.value s) (m.MayBe o.name o.value) r) c.in-Rejected.is c.in_ok-more.ensures in
    c.loop-option.invariant.2 Rejected (rejected_here m.means m.Adds m.MayBe c.loop-option.option-iterator c.next.new.self o s step told)

pub returns-in-Unclear : goal.returns-in-Unclear
returns-in-Unclear g c =
    let m = g.T.AddOptions in
    let o = key_option_of c.in-Ok.option in
    let s = m.means c.loop-option.said in
    let step = subst (λ r. YieldsOption c.loop-option.option-iterator (Some r) c.next.new.self) c.in-Ok.is c.in-Some.ensures.steps in
    let told = subst (λ (r : Reading g.row.T.Denot). Tells m.means (m.Adds o.name o.value s) (m.MayBe o.name o.value) r) c.in-Unclear.is c.in_ok-more.ensures in
    c.loop-option.invariant.2 Unclear (unclear_here m.means m.Adds m.MayBe c.loop-option.option-iterator c.next.new.self o s step told)

pub returns : goal.returns
returns g c =
    let m = g.T.AddOptions in
    c.loop-option.invariant.2 (Is c.loop-option.said) (all_read m.means m.Adds m.MayBe c.loop-option.option-iterator c.loop-option.said c.in-None.ensures.steps.0)
