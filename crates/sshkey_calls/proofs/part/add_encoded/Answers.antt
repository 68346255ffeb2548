use Rattle.std.proofs.Common.{◌≡◌, ◌+◌, List, ℕ, ◌++◌, length, ap, sym, arith, rules, ◌∙◌, refl, inl, inr}
use Rattle.std.proofs.lemmas.List.{length-append}
use Rattle.std.proofs.lemmas.Result.{err_from_is_err_and}
use Rattle.sshkey_base.specs.Causes.{widened}
use Rattle.sshkey_base.specs.declared.encoding.Error as narrow
use Rattle.sshkey_base.specs.declared.encoding.Error.TheVariants.{Memory}
use Rattle.sshkey_base.specs.Sink.{NotWritten, Sink, after}
use Rattle.sshkey_model.specs.Parts.{Parts, flat}
use Rattle.sshkey_calls.specs.Writing.{AddsBeginning, IsNotAdded}
use Rattle.sshkey_calls.proofs.part.add_encoded.Goals as goal

-- what the sink has then
added : (p : Parts) (s t : Sink) → t ≡ after p s → t.written ≡ s.written ++ flat p
unfolding after
added p s t is = rw is refl

-- and so how many bytes were added
counted : {n m : ℕ} (p : Parts) (old new : List ℕ) → new ≡ old ++ flat p → n ≡ length old → m ≡ length new → m ≡ n + length (flat p)
counted p old new is here there = there ∙ ap (λ (l : List ℕ). length l) is ∙ length-append old (flat p) ∙ ap (λ (k : ℕ). k + length (flat p)) (sym here)

pub overflow_sub-result : goal.overflow_sub-result
overflow_sub-result g c =
    let here : c.len-start.result ≡ length c.args.content.now.items = search rules in
    let there : c.len.result ≡ length c.encode.new.writer.items = search rules in
    let all = counted (g.T.Encode.normal c.args.value.now) c.args.content.now.items c.encode.new.writer.items (added _ _ _ c.in_ok-encode.ensures.1) here there in
    omega (arith, all)

pub returns-clause-added : goal.returns-clause-added
returns-clause-added g c = added _ _ _ c.in_ok-encode.ensures.1

pub returns-clause-length : goal.returns-clause-length
returns-clause-length g c =
    let here : c.len-start.result ≡ length c.args.content.now.items = search rules in
    let there : c.len.result ≡ length c.encode.new.writer.items = search rules in
    let all = counted (g.T.Encode.normal c.args.value.now) c.args.content.now.items c.encode.new.writer.items (added _ _ _ c.in_ok-encode.ensures.1) here there in
    omega (arith, all)

-- why a vector does not take the parts
not_added : (p : Parts) (s t : Sink) (e : narrow.Error) → NotWritten (λ own. own ≡ Memory) p s e t → IsNotAdded p (widened e)
unfolding NotWritten
not_added p s t e (inl long) = inl (long.misfit, ap widened long.is)
not_added p s t e (inr stopped) = inr (ap widened stopped.own)

pub returns-in_err-encode-clause-refused : goal.returns-in_err-encode-clause-refused
returns-in_err-encode-clause-refused g c =
    let p = err_from_is_err_and c.from_residual.result c.from_residual.ensures.1 in
    rw (p.1, p.2) (not_added _ _ _ _ c.in_err-encode.ensures)

-- what it holds where it does not
begun : (p : Parts) (s t : Sink) (e : narrow.Error) → NotWritten (λ own. own ≡ Memory) p s e t → AddsBeginning s.written (flat p) t.written
unfolding NotWritten
begun p s t e (inl long) = (long.prefix.count, long.prefix.added)
begun p s t e (inr stopped) = (stopped.prefix.count, stopped.prefix.added)

pub returns-in_err-encode-clause-begun : goal.returns-in_err-encode-clause-begun
returns-in_err-encode-clause-begun g c =
    let p = err_from_is_err_and c.from_residual.result c.from_residual.ensures.1 in
    rw p.1 (begun _ _ _ _ c.in_err-encode.ensures)
