use Rattle.std.proofs.Common.{refl}
use Rattle.sshkey_pair_kinds.proofs.Halves.{halves_differ, halves_same}
use Rattle.sshkey_pair_kinds.proofs.ed25519.from_halves.Goals as goal

pub returns-then-ne : goal.returns-then-ne
returns-then-ne c = rw (halves_differ c.args.public.now c.args.bytes.now c.ne.result c.told-bytes c.ne.ensures c.if-ne.true) refl

pub returns : goal.returns
returns c =
    let e = halves_same c.args.public.now c.args.bytes.now c.ne.result c.told-bytes c.ne.ensures c.if-ne.false in
    rw (e.0, c.from_bytes.ensures, e.1) refl
