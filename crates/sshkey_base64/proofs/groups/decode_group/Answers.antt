use Rattle.std.proofs.Common.{◌<◌, ap, ◌∙◌, sym}
use Rattle.base64.specs.Engines.{standard}
use Rattle.base64.specs.GeneralPurpose.{encode_of}
use Rattle.sshkey_base64.proofs.Symbols.{group_of, all_small}
use Rattle.sshkey_base64.proofs.groups.decode_group.Goals as goal

pub returns : goal.returns
returns c = λ yes.
    let small : (c.value-a.result < 64) × (c.value-b.result < 64) × (c.value-c.result < 64) × (c.value-d.result < 64) = all_small _ _ _ _ c.if-a-b.false in
    group_of c.args.text.now _ _ _ _ c.requires.group small.0 small.1 small.2 small.3 (c.value-a.ensures small.0) (c.value-b.ensures small.1) (c.value-c.ensures small.2) (c.value-d.ensures small.3) ∙ ap (encode_of standard) (sym c.copy_from_slice.ensures.after)
