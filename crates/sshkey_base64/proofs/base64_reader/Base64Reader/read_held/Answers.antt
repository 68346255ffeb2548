use Rattle.std.proofs.Common.{arith, ap, sym, ◌∙◌, ◌++◌, ◌+◌, List, ℕ, length}
use Rattle.std.specs.Prelude.{slice_range}
use Rattle.sshkey_model.proofs.CombinedReaders.{fit_bytes}
use Rattle.sshkey_base64.proofs.WordSources.{held_taken, range_split}
use Rattle.sshkey_base64.proofs.base64_reader.Base64Reader.read_held.Goals as goal

pub returns-clause-taken : goal.returns-clause-taken
returns-clause-taken c =
    let r = c.args.self.now in
    let n : ℕ = length c.args.bytes.now in
    held_taken _ c.copy_few.new.to _ r.text.now
    (range_split r.held r.from n r.to c.requires ∙ ap (λ (l : List ℕ). l ++ slice_range r.held (r.from + n) r.to) (sym c.copy_few.ensures))
    (fit_bytes c.copy_few.new.to (λ i. omega (arith, c.type_inv.bytes i)))
