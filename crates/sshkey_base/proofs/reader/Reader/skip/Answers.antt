use Rattle.std.proofs.Common.{rules, ◌≡◌, ◌+◌, ◌-◌, ◌≤◌, length, arith}
use Rattle.sshkey_base.proofs.Lending.{after_more}
use Rattle.sshkey_base.proofs.reader.Reader.skip.Goals as goal

pub passes-preserved : goal.passes-preserved
passes-preserved g c =
    let size : length c.read.new.buffer ≡ c.min-count.result = search rules in
    let within : c.passes.rest ≤ c.args.len = c.passes.invariant.0 in
    let sum : c.args.len - (c.passes.rest - c.min-count.result) ≡ (c.args.len - c.passes.rest) + c.min-count.result = omega arith in
    (omega arith, rw sum (after_more (c.args.len - c.passes.rest) c.min-count.result (g.Self.Reader.source c.args.self.now) (g.Self.Reader.source c.passes.self) (g.Self.Reader.source c.read.new.self) c.read.new.buffer (omega (arith, c.requires)) c.passes.invariant.1 size c.in-Ok.ensures.takes))
