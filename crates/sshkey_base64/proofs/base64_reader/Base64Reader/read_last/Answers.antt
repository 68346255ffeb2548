use Rattle.std.proofs.Common.{◌≡◌, ◌≢◌, ℕ, arith, sym, ◌∙◌, length}
use Rattle.std.proofs.lemmas.Bool.{eqb-false}
use Rattle.std.specs.Prelude.{slice_range}
use Rattle.sshkey_base64.proofs.WordSources.{some_text, range_none}
use Rattle.sshkey_base64.proofs.base64_reader.Base64Reader.read_last.Goals as goal

pub hold-requires-clause-some : goal.hold-requires-clause-some
hold-requires-clause-some c =
    let r = c.args.self.now in
    let n : ℕ = length c.args.bytes.now in
    let other : n ≢ 0 = eqb-false n 0 (sym c.is_empty.ensures ∙ c.if-not-is_empty.true) in
    let none : r.from ≡ r.to = omega (arith, c.requires.none_held, other) in
    some_text (slice_range r.held r.from r.to) r.text.now n (range_none r.held r.from r.to none) r.characters r.groups (omega arith) c.requires.room
