use Rattle.std.proofs.Common.{List, ℕ, subst}
use Rattle.sshkey_known_hosts.specs.HostLines.{ReadsTwenty}
use Rattle.sshkey_known_hosts.proofs.Wholes.{no_groups, word_read}
use Rattle.sshkey_known_hosts.proofs.named_hosts.read_twenty.Goals as goal

pub returns-then-word-eq-SYMBOLS : goal.returns-then-word-eq-SYMBOLS
returns-then-word-eq-SYMBOLS c = subst (λ (w : List ℕ). ReadsTwenty w c.read_word.result) c.as_bytes.ensures.value c.read_word.ensures

pub returns-in-Ok : goal.returns-in-Ok
returns-in-Ok c = word_read c.args.word.now _ c.read_all.result c.in-Ok.ensures.word c.read_all.ensures

pub returns-in-Err : goal.returns-in-Err
returns-in-Err c = no_groups c.args.word.now c.in-Err.ensures.refused.1
