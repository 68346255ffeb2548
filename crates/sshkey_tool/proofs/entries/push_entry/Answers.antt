use Rattle.std.proofs.Common.{Global, ◌∙◌, ap, ◌++◌, List, ℕ}
use Rattle.std.specs.Prelude.{string_bytes}
use Rattle.sshkey_tool.proofs.ShownEntries.{pushes_refusal}
use Rattle.sshkey_tool.proofs.entries.push_entry.Goals as goal

pub returns-in_ok-push_str-in-Err : goal.returns-in_ok-push_str-in-Err
returns-in_ok-push_str-in-Err c = pushes_refusal Global c.args.file c.args.entry.now (string_bytes c.args.lines.now) (string_bytes c.push_str.new.self) (string_bytes c.in_ok-line-in-Err.line) c.in-Err.error c.in-Err.ensures c.in_ok-line-in-Err.ensures.0 c.in_ok-line-in-Err.ensures.1
    (c.in_ok-push_str-in-Err.ensures.bytes ∙ ap (λ (l : List ℕ). string_bytes c.args.lines.now ++ l) c.deref-in-Err.ensures)
