use Rattle.std.proofs.Common.{◌≡◌, ◌∙◌, Global, List, None, Option, Some, ap, subst, sym, ℕ}
use Rattle.std.specs.Prelude.{String, option_map, string_bytes}
use Rattle.sshkey_entries.specs.Answers.{IsTheOne}
use Rattle.sshkey_matching.specs.Times.{ReadsTime}
use Rattle.allowed_signers.specs.AllowedSigners.{IsTimeValue}
use Rattle.sshkey_matching.specs.declared.times.Span.{Span}
use Rattle.allowed_signers.proofs.options.time_of.Goals as goal

-- a time has one span
time_read : (text : List ℕ) (r : Option Span) → ReadsTime text r → IsTheOne {X = Span} {Y = Span} (λ n. n) (IsTimeValue (Some text)) r
time_read text None none = none
time_read text (Some n) is = is

pub returns-in-Some : goal.returns-in-Some
returns-in-Some c =
    let value : option_map string_bytes c.args.value ≡ Some c.as_str.result.now
    = ap (λ (o : Option (String Global)). option_map string_bytes o) c.in-Some.is ∙ ap (λ (t : List ℕ). Some t) (sym c.as_str.ensures.value) in
    subst (λ (v : Option (List ℕ)). IsTheOne {X = Span} {Y = Span} (λ n. n) (IsTimeValue v) c.read_time.result) (sym value) (time_read c.as_str.result.now c.read_time.result c.read_time.ensures)
