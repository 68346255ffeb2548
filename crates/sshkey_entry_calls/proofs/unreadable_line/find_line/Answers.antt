use Rattle.std.proofs.Common.{ℕ, Option, subst}
use Rattle.sshkey_entry_calls.specs.Hosts.{IsUnreadableLine}
use Rattle.sshkey_entry_calls.proofs.unreadable_line.find_line.Goals as goal

pub returns-clause-line : goal.returns-clause-line
returns-clause-line c =
    let is : IsUnreadableLine c.args.text.now c.args.name.now c.args.port c.in-Ok.found = c.in-Ok.ensures.answer in
    record {
      found = λ e. subst (λ (o : Option ℕ). IsUnreadableLine c.args.text.now c.args.name.now c.args.port o) (c.tell_line.ensures.found e) is;
      none = λ e. subst (λ (o : Option ℕ). IsUnreadableLine c.args.text.now c.args.name.now c.args.port o) (c.tell_line.ensures.none e) is;
      others = λ _. c.tell_line.ensures.others;
    }
