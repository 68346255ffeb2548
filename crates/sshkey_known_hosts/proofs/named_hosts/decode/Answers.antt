use Rattle.std.proofs.Common.{arith}
use Rattle.sshkey_base64.proofs.WordSources.{never_ok}
use Rattle.sshkey_model.proofs.CombinedReaders.{fit_bytes}
use Rattle.sshkey_known_hosts.proofs.named_hosts.decode.Goals as goal

pub returns-in-Ok : goal.returns-in-Ok
returns-in-Ok c = (c.in-Ok.ensures.ok.0, omega (arith, c.in-Ok.ensures.ok.2), fit_bytes c.decode_slice_unchecked.new.output (λ i. omega (arith, c.type_inv.room i)))

pub returns-in-Err : goal.returns-in-Err
returns-in-Err c = never_ok c.args.word.now _ c.in-Err.ensures.err
