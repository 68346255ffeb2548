-- Values that stand in a string: `using(ssh_key::proofs::Boxes::boxes)`.
pub use Rattle.sshkey_base.proofs.Boxes.{boxes}
pub use Rattle.sshkey_base.proofs.Boxes.{some_after}
pub use Rattle.sshkey_base.proofs.Boxes.{prefixed_gives, prefixed_asks, prefixed_stops_to_end}
pub use Rattle.sshkey_base.proofs.FilledBoxes.{filled_stops, boxed_stops}
