use Rattle.std.proofs.Common.{rules, ◌≡◌, length, arith}
use Rattle.sshkey_revoked_keys.proofs.LaterKeys.{all_read, odd_word, same_size}
use Rattle.sshkey_revoked_keys.proofs.later_key.read_bytes.Goals as goal

pub returns-in_default : goal.returns-in_default
returns-in_default c = odd_word c.args.word.now c.in_default.ensures.refused.1

pub returns-in-Ok-read : goal.returns-in-Ok-read
returns-in-Ok-read c =
    let size : length c.read.new.buffer ≡ 1371 = search rules in
    let read = all_read c.args.word.now _ c.in-Ok.ensures.word c.read.new.buffer _ (omega (arith, c.remaining_len.ensures, c.if-remaining_len-ne-LEN.false)) size c.in-Ok-read.ensures.takes in
    (read, λ y is. same_size c.args.word.now _ c.in-Ok.ensures.word y c.read.new.buffer is read)
