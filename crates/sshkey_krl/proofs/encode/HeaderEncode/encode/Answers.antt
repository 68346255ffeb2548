use Rattle.std.proofs.Common.{[]}
use Rattle.std.specs.Int.{w32, w64}
use Rattle.sshkey_model.specs.Parts.{◌&◌, number}
use Rattle.sshkey_model.specs.Texts.{string}
use Rattle.sshkey_krl.proofs.Writing.{step}
use Rattle.sshkey_krl.proofs.encode.HeaderEncode.encode.Goals as goal

pub returns : goal.returns
returns g c =
    let h = c.args.self.now in
    let sink = g.W.Writer.sink in
    let fault = g.W.Writer.fault in
    let last = sink c.encode-2.new.writer in
    let text = string h.comment.now in
    let texts = string [] & text in
    let zero = number w64 0 & texts in
    let after_texts = step fault (string []) text (sink c.encode.new.writer) (sink c.encode_string.new.writer) last c.encode-2.result c.in_ok-encode_string.ensures c.encode-2.ensures in
    let after_zero = step fault (number w64 0) texts (sink c.encode_both-2.new.writer) (sink c.encode.new.writer) last c.encode-2.result c.in_ok-encode.ensures after_texts in
    let after_numbers = step fault (number w64 h.number & number w64 h.date) zero (sink c.encode_both.new.writer) (sink c.encode_both-2.new.writer) last c.encode-2.result c.in_ok-encode_both-2.ensures after_zero in
    step fault (number w64 0x5353484b524c0a00 & number w32 1) ((number w64 h.number & number w64 h.date) & zero) (sink c.args.writer.now) (sink c.encode_both.new.writer) last c.encode-2.result c.in_ok-encode_both.ensures after_numbers
