use Rattle.std.proofs.Common.{refl, rules, suc}
use Rattle.sshkey_model.specs.Reading.{to_end}
use Rattle.sshkey_base.proofs.Boxes.{prefixed_gives}
use Rattle.sshkey_base.proofs.FilledBoxes.{filled_stops}
use Rattle.sshkey_keys.specs.Keys.{key_of}
use Rattle.sshkey_private.specs.PrivateParts.{inner_of, inner_at, inner_format, padded_below, padded_format}
use Rattle.sshkey_private.proofs.Lawful.{inner_lawful}
use Rattle.sshkey_private.proofs.Padded.{padded_lawful}
use Rattle.sshkey_private.proofs.inner.decode_inner.Goals as goal

pub returns-clause-gives : goal.returns-clause-gives
returns-clause-gives g c = prefixed_gives _ _ _ _ _ inner_of (to_end (padded_below (suc c.args.most) (inner_at (key_of c.args.public.now)))) (search rules) (search rules) _ _ _ c.read_prefixed.ensures.calls

pub returns-clause-past : goal.returns-clause-past
returns-clause-past g c =
    let padded = padded_format (suc c.args.most) (inner_format (key_of c.args.public.now)) in
    let laws = padded_lawful (suc c.args.most) (inner_format (key_of c.args.public.now)) (inner_lawful (key_of c.args.public.now)) (λ b. refl) in
    filled_stops _ _ _ _ _ inner_of padded.read (search rules) padded.needs padded.overruns laws.lengths (search rules) (search rules) (search rules) _ _ _ c.read_prefixed.ensures.calls
