use Rattle.std.proofs.Common.{◌≡◌, ◌<◌, ◌-◌, ap, arith, drop, length, length-drop, rules, subst, sym, ◌∙◌, List, ℕ}
use Rattle.std.proofs.lemmas.List.{nil_from_length}
use Rattle.sshkey_entries.specs.OptionItems.{without_commas}
use Rattle.sshkey_authorized_keys.proofs.OptionCuts.{at_most}
use Rattle.sshkey_entry_calls.specs.Options.{TellsOption}
use Rattle.sshkey_entry_calls.proofs.EntryOptions.{ends_here, finds, no_text}
use Rattle.sshkey_c.proofs.entry.raf_next_line_option.Goals as goal

pub overflow_sub-next-2 : goal.overflow_sub-next-2
overflow_sub-next-2 c =
    omega (arith, ap length (c.skip_commas-left.ensures ∙ ap without_commas c.rest_from.ensures), at_most (drop c.args.place c.args.options.now), length-drop c.args.place c.args.options.now)

pub returns-then-is_empty : goal.returns-then-is_empty
returns-then-is_empty c =
    let left = c.skip_commas-left.result.now in
    let none : length left ≡ 0 = search rules in
    ends_here c.args.options.now c.args.place c.args.answer.now c.args.room.now (sym (c.skip_commas-left.ensures ∙ ap without_commas c.rest_from.ensures) ∙ nil_from_length left none)

pub returns-in-Ok : goal.returns-in-Ok
returns-in-Ok c =
    let left = c.skip_commas-left.result.now in
    let some : 0 < length left = search rules in
    finds c.args.options.now c.args.place left (c.skip_commas-left.ensures ∙ ap without_commas c.rest_from.ensures) some c.option_end-end.result c.option_end-end.ensures c.in-Ok.ensures.cases.1 _ _ _ _ _
    (subst (λ (t : List ℕ). TellsOption t (length c.args.options.now - (length left - c.option_end-end.result)) c.tell_option.result c.args.answer.now c.tell_option.new.answer c.args.room.now c.tell_option.new.room) c.in-Ok.ensures.cases.0 c.tell_option.ensures)

pub returns-in-Err : goal.returns-in-Err
returns-in-Err c =
    let left = c.skip_commas-left.result.now in
    let some : 0 < length left = search rules in
    no_text c.args.options.now c.args.place left (c.skip_commas-left.ensures ∙ ap without_commas c.rest_from.ensures) some c.option_end-end.result c.option_end-end.ensures _ _ c.in-Err.ensures.cases.0
