-- The history that `and` makes has the bytes of both. Assumes `Logic`.
use Rattle.std.proofs.Common.{[], ◌∷◌, ◌++◌, refl}
use Rattle.std.proofs.raw_atomic.Walks.{proved}
use mir.Syntax.{named}
use types.Kit.{‵, raw, ◌⊛◌, ◌$◌, ◌∵◌, !, qed, move, keep, split, fjoin, suffices, done}
use types.Part.{agg}
use types.Run.{enter, returns, no_more}
use types.ByLocal.{alloc_all, pass_all, free_all, look_at, sets}
use denote.Builtin.{RefOf}
use denote.Exit.{yes}
use denote.RattleType.{owns}
use denote.Ref.{shr_vals, shr_Tells}
use denote.Signature.{types_at, plain, named_lft}
use denote.Steps.{nothing}
use denote.Triple.Entry.{Vals, alive}
use denote.Triple.Walked.{says, Stays, stay_dropped, ends_at, Goes-dropped}
use Rattle.sshkey_base64.proofs.Walks.{empty, made_empty}
use Rattle.sshkey_base64.specs.contracts.history.History as History
use Rattle.sshkey_base64.specs.contracts.history.History.and as F
use Rattle.sshkey_base64.specs.contracts.history.Piece as Piece
use Rattle.sshkey_base64.proofs.history.History.and.Statement.{statement}
use Rattle.sshkey_base64.proofs.history.History.and.Code as code

abbrev stayed : Stays F.ended.signature.params F.ended.kept
stayed = (stay_dropped _ yes, (stay_dropped _ yes, tt))

pub and_spec : {M : Type 1} → statement M
and_spec 𝓤 𝓛 𝓜 𝓡 wired =
    let c = F.clauses 𝓛 𝓜.mem 𝓡.returns in
    proved 𝓛 F.ended stayed c 𝓜 𝓡
    (Goes-dropped 𝓛 3 (RefOf (0 ∷ []) tt (plain (λ _. History.the_row)) (λ _. tt)) yes (λ κs x f. refl), (Goes-dropped 𝓛 3 (RefOf (1 ∷ []) tt (plain (λ κs. Piece.the_row (named_lft 3 2 tt κs))) (λ _. tt)) yes (λ κs x f. refl), tt))
    F.Key.name code.function (code.unfolded 𝓤 𝓛.H 𝓜 𝓡 wired) (λ κs. (shr_vals, (shr_vals, tt)))
    (λ κs. (shr_Tells (named 0) κs.0 History.the_row, (shr_Tells (named 1) κs.1.0 (Piece.the_row (named_lft 3 2 tt κs)), tt))) (λ κs qs bounds a n are.
    let vs : Vals F.ended.signature κs = (shr_vals a.0, (shr_vals a.1.0, tt)) in
    let made : (History.the_row).Denot = record { bytes = a.0.now.bytes ++ a.1.0.now.bytes.now } in
    qed 𝓛 ((raw (alive 𝓛 F.ended.signature κs qs) ⊛ ‵ (owns (types_at F.ended.signature.params κs) a vs)) ∷ raw ((c κs a).requires n) ∷ []) ∵
    split ! $ keep ! (0 ∷ []) $ enter ! _ _ _ _ _ $ alloc_all ! (λ l. pass_all ! refl ((tt, tt), ((tt, tt), tt)) $
    sets ! (agg ! (no_more !)) refl (tt, tt) $
    nothing ! $ made_empty ! $ fjoin ! $
    returns ! (look_at ! 0 refl) $ free_all ! refl $
    suffices ! _ (ends_at 𝓛 F.ended stayed c ((κs, qs, bounds, a, vs), n) empty made (tt, (tt, tt)) (tt, (tt, tt))) $ says ! refl $
    nothing ! $ nothing ! $ fjoin ! $ nothing ! $ fjoin ! $ move ! (2 ∷ 0 ∷ 1 ∷ []) $ done !))
