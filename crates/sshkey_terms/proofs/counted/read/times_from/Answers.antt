use Rattle.std.proofs.Common.{◌≡◌, ◌∷◌, [], ◌++◌, map, ap, refl, ◌∙◌, arith}
use Rattle.std.proofs.lemmas.List.{length-map, map-append}
use Rattle.std.proofs.lemmas.Result.{err_from_is_err_and}
use Rattle.sshkey_base.specs.Causes.{encoding_cause}
use Rattle.sshkey_base.proofs.Places.{later_then}
use Rattle.sshkey_terms.proofs.ReadLists.{gathers_end, gathers_full, gathers_more, gathers_refused, gathers_stopped}
use Rattle.sshkey_terms.proofs.counted.read.times_from.Goals as goal

pub returns-in_err-decode-clause-gives : goal.returns-in_err-decode-clause-gives
returns-in_err-decode-clause-gives g c =
    let p = err_from_is_err_and c.from_residual.result c.from_residual.ensures.1 in
    rw (p.1, p.2) (gathers_refused g.T.Decode.format _ _ _ _ c.reads.invariant.0 _ (omega (arith, c.reads-test.true, c.len.ensures, c.reads.values.ok.0, length-map c.reads.values.items g.T.Decode.means)) c.in_err-decode.ensures.gives)

pub returns-in_err-decode-clause-later : goal.returns-in_err-decode-clause-later
returns-in_err-decode-clause-later g c = later_then _ _ _ c.reads.invariant.1 c.in_err-decode.ensures.later

pub returns-in_err-decode-clause-past : goal.returns-in_err-decode-clause-past
returns-in_err-decode-clause-past g c =
    let p = err_from_is_err_and c.from_residual.result c.from_residual.ensures.1 in
    rw (p.1, p.2) (gathers_stopped g.T.Decode.format _ _ _ _ c.reads.invariant.0 _ (omega (arith, c.reads-test.true, c.len.ensures, c.reads.values.ok.0, length-map c.reads.values.items g.T.Decode.means)) c.in_err-decode.ensures.past)

pub returns-in_err-add-clause-past : goal.returns-in_err-add-clause-past
returns-in_err-add-clause-past g c =
    let p = err_from_is_err_and c.from_residual-in_err-add.result c.from_residual-in_err-add.ensures.1 in
    let memory = g.met.T.Error.DecodeError.keeps_causes _ p.0 p.2 ∙ ap encoding_cause c.in_err-add.ensures.memory in
    rw p.1 (gathers_full g.T.Decode.format _ _ _ _ c.reads.invariant.0 g.T.Decode.means c.in_ok-decode.field-0 _ _ (omega (arith, c.reads-test.true, c.len.ensures, c.reads.values.ok.0, length-map c.reads.values.items g.T.Decode.means)) c.in_ok-decode.ensures.gives memory)

pub reads-preserved : goal.reads-preserved
reads-preserved g c =
    let all : map g.T.Decode.means c.add.new.values.items ≡ map g.T.Decode.means c.reads.values.items ++ g.T.Decode.means c.in_ok-decode.field-0 ∷ [] = ap (λ (xs : _). map g.T.Decode.means xs) c.in_ok-add.ensures.added ∙ map-append g.T.Decode.means _ _ in
    (rw all (gathers_more g.T.Decode.format _ _ _ _ c.reads.invariant.0 c.lawful.ensures g.T.Decode.means c.in_ok-decode.field-0 _ (omega (arith, c.reads-test.true, c.len.ensures, c.reads.values.ok.0, length-map c.reads.values.items g.T.Decode.means)) c.in_ok-decode.ensures.gives), later_then _ _ _ c.reads.invariant.1 c.in_ok-decode.ensures.later)

pub returns-in_err-add-clause-later : goal.returns-in_err-add-clause-later
returns-in_err-add-clause-later g c = later_then _ _ _ c.reads.invariant.1 c.in_ok-decode.ensures.later

pub returns-clause-gives : goal.returns-clause-gives
returns-clause-gives g c = gathers_end g.T.Decode.format c.args.count _ _ (map g.T.Decode.means c.reads.values.items) c.reads.invariant.0 _ c.reads.values refl (omega (arith, c.reads-test.false, c.len.ensures, c.reads.values.ok.0, length-map c.reads.values.items g.T.Decode.means))
