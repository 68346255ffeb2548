use Rattle.std.proofs.Common.{ℕ, ◌≡◌, ◌+◌, ◌-◌, ◌∷◌, List, length, take, drop, ap, ◌∙◌, sym, refl, arith}
use Rattle.std.proofs.lemmas.List.{length-take-le, length-drop}
use borrow.Rule.Slice.PartMut.{put_mid}
use Rattle.sshkey_model.proofs.CombinedReaders.{fit_bytes}
use Rattle.sshkey_base64.proofs.Windows.{kept_more, kept_size, before_more}
use Rattle.sshkey_base64.proofs.window.WindowWriter.write.Goals as goal

-- the room is what it was
same_size : (c : goal.After-copy_from_slice) → length (put_mid c.args.self.now.len (c.args.self.now.len + c.min-count.result - c.args.self.now.len) c.args.self.now.kept c.copy_from_slice.new.self) ≡ length c.args.self.now.kept
same_size c =
    let w = c.args.self.now in
    let count : ℕ = c.min-count.result in
    let added : List ℕ = c.args.bytes.now in
    let passed : ℕ = c.min-passed.result in
    let piece : length c.copy_from_slice.new.self ≡ w.len + count - w.len
    = ap length c.copy_from_slice.ensures.after ∙ length-take-le (passed + count - passed) (drop passed added) (omega (arith, length-drop passed added, c.min-count.ensures)) ∙ omega arith in
    kept_size w.kept c.copy_from_slice.new.self w.len (w.len + count - w.len) piece (omega (arith, w.size, w.room, c.min-count.ensures))

pub invariant_of-self-clause-size : goal.invariant_of-self-clause-size
invariant_of-self-clause-size c = same_size c ∙ c.args.self.now.size

pub invariant_of-self-clause-room : goal.invariant_of-self-clause-room
invariant_of-self-clause-room c = omega (arith, same_size c, c.args.self.now.size, c.args.self.now.room, c.min-count.ensures)

pub invariant_of-self-clause-place : goal.invariant_of-self-clause-place
invariant_of-self-clause-place c =
    let w = c.args.self.now in
    before_more w.history.bytes c.args.bytes.now w.start w.before c.min-passed.result w.place c.min-passed.ensures ∙ ap (λ (l : List ℕ). w.start - length l) (sym c.and-history.ensures)

pub invariant_of-self-clause-part : goal.invariant_of-self-clause-part
invariant_of-self-clause-part c =
    let w = c.args.self.now in
    let count : ℕ = c.min-count.result in
    let passed : ℕ = c.min-passed.result in
    let n : ℕ = w.len + count - w.len in
    kept_more w.history.bytes c.args.bytes.now w.kept _ w.start w.before w.len 3072 passed count (passed + count - passed) n (w.len + count)
    w.place (w.part ∙ ap (λ (k : ℕ). take k (drop w.start w.history.bytes)) w.size) (omega (arith, w.room, w.size)) w.size c.min-passed.ensures c.min-count.ensures (omega arith) (omega arith) refl
    (ap (λ (x : List ℕ). put_mid w.len n w.kept x) c.copy_from_slice.ensures.after)
    ∙ ap (λ (l : List ℕ). take 3072 (drop w.start l)) (sym c.and-history.ensures) ∙ ap (λ (k : ℕ). take k (drop w.start c.and-history.result.bytes)) (sym (same_size c ∙ w.size))

pub returns : goal.returns
returns c = record { added = ap (λ (l : List ℕ). c.args.self.now.start ∷ l) c.and-history.ensures; limit = refl; are = fit_bytes c.args.bytes.now (λ i. omega (arith, c.type_inv.bytes i)) }
