use Rattle.std.proofs.Common.{◌≡◌, ◌∙◌, ◌≤◌, ◌+◌, ◌-◌, ◌*◌, ℕ, List, length, take, drop, refl, arith}
use Rattle.std.proofs.lemmas.List.{length-take-le, length-drop}
use Rattle.sshkey_base64.proofs.Symbols.{decoded_none, decoded_more}
use Rattle.sshkey_base64.proofs.groups.decode_symbols.Goals as goal

pub groups-init : goal.groups-init
groups-init c = decoded_none c.args.text.now c.args.bytes.now

part : (l : List ℕ) (i : ℕ) → i + 3 ≤ length l → length (take (i + 3 - i) (drop i l)) ≡ 3
part l i le = length-take-le (i + 3 - i) (drop i l) (omega (arith, length-drop i l)) ∙ omega arith

pub groups-preserved : goal.groups-preserved
groups-preserved c = decoded_more c.args.text.now c.args.bytes.now c.groups.bytes c.decode_group.new.bytes c.groups.done _ _ _ _ c.groups.invariant c.groups-test.true c.requires.room refl (omega arith) refl (omega arith) (c.decode_group.auto.bytes ∙ part c.groups.bytes (c.groups.done * 3) (omega (arith, c.groups.invariant.same, c.groups-test.true, c.requires.room))) (c.decode_group.ensures c.if-not-decode_group.false)
