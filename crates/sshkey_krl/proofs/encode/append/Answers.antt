use Rattle.std.proofs.Common.{◌≡◌, length, rules}
use Rattle.sshkey_krl.proofs.Grown.{cut_back, wrote}
use Rattle.sshkey_krl.proofs.encode.append.Goals as goal

pub returns-in-Ok : goal.returns-in-Ok
returns-in-Ok g c = wrote (g.S.Encode.normal c.args.section.now) c.args.bytes.now.items c.encode.new.writer.items c.in-Ok.ensures

pub returns-in-Err : goal.returns-in-Err
returns-in-Err g c =
    let here : c.len-start.result ≡ length c.args.bytes.now.items = search rules in
    cut_back (g.S.Encode.normal c.args.section.now) c.args.bytes.now.items c.encode.new.writer.items c.truncate.new.self.items c.len-start.result _ c.in_ok-encoded_len.ensures.measures.0 c.in-Err.ensures here c.truncate.ensures.items
