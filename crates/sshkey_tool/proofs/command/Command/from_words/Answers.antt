use Rattle.sshkey_tool.proofs.Outcomes.{only_word, one_word}
use Rattle.sshkey_tool.proofs.command.Command.from_words.Goals as goal

pub returns-in-len1 : goal.returns-in-len1
returns-in-len1 c = one_word c.args.words.now _ c.from_word.result (only_word c.args.words.now _ c.in-len1.len_at_least c.in-len1.len_below) c.from_word.ensures
