use Rattle.std.proofs.Common.{Some, subst, sym}
use Rattle.sshkey_authorized_keys.specs.Options.{YieldsOption}
use Rattle.sshkey_entry_calls.specs.Options.{FindsFirst}
use Rattle.sshkey_entry_calls.proofs.EntryOptions.{first_of}
use Rattle.sshkey_entry_calls.proofs.options.first_option.Goals as goal

pub returns : goal.returns
returns c = subst (FindsFirst c.args.text.now) (sym c.ok.ensures.value) (first_of c.args.text.now c.in_ok-next.field-0 _ (subst (λ t. YieldsOption t (Some c.in_ok-next.field-0) c.next.new.self) c.new.ensures c.in_ok-next.ensures.steps))
