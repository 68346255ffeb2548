use Rattle.std.proofs.Common.{◌++◌, ◌≤◌, ℕ, take, length, ap, sym, subst, ◌∙◌, take-append-drop}
use Rattle.std.proofs.lemmas.Str.{IsCharBoundary-from_take}
use Rattle.std.specs.List.{position_or_len}
use Rattle.std.specs.Str.{IsUtf8, trim_end}
use Rattle.sshkey_entries.specs.Entries.{is_hash, uncommented}
use Rattle.sshkey_entries.proofs.TextLines.{front_of_front}
use Rattle.sshkey_entries.proofs.entry_lines.split_entry.Goals as goal

pub split_at-requires : goal.split_at-requires
split_at-requires c =
    let trimmed = c.trim_end-entry.ensures.value in
    let front = front_of_front c.args.line.now c.before_hash.result.now c.trim_end-entry.result.now (position_or_len is_hash c.args.line.now) trimmed.0 c.before_hash.ensures trimmed.1 trimmed.5 in
    let size = sym trimmed.4 in
    IsCharBoundary-from_take c.args.line.now (length c.trim_end-entry.result.now) c.utf8.line (subst (λ (n : ℕ). n ≤ length c.args.line.now) size front.1) (subst IsUtf8 (front.0 ∙ ap (λ (n : ℕ). take n c.args.line.now) size) c.trim_end-entry.utf8)

pub returns : goal.returns
unfolding uncommented
returns c =
    let trimmed = c.trim_end-entry.ensures.value in
    let front = front_of_front c.args.line.now c.before_hash.result.now c.trim_end-entry.result.now (position_or_len is_hash c.args.line.now) trimmed.0 c.before_hash.ensures trimmed.1 trimmed.5 in
    let same = c.split_at.ensures.front ∙ ap (λ (n : ℕ). take n c.args.line.now) trimmed.4 ∙ sym front.0 in (
      same ∙ c.trim_end-entry.ensures.trim ∙ ap trim_end c.before_hash.ensures,
      sym (take-append-drop (length c.trim_end-entry.result.now) c.args.line.now) ∙ (λ j. sym c.split_at.ensures.front j ++ sym c.split_at.ensures.back j),
    )
