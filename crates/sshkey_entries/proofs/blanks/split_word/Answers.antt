use Rattle.sshkey_entries.proofs.Fields.{white_place}
use Rattle.sshkey_entries.proofs.blanks.split_word.Goals as goal

pub range-requires-clause-end_boundary : goal.range-requires-clause-end_boundary
range-requires-clause-end_boundary c = white_place _ _ _ c.as_bytes.ensures.value c.word_len.ensures.bound c.word_len.ensures.behind
