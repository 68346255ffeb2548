-- The history that `new` makes has no bytes. Assumes `Logic`.
use Rattle.std.proofs.Common.{[], ◌∷◌, refl}
use Rattle.std.proofs.raw_atomic.Walks.{proved}
use types.Kit.{‵, ◌⊛◌, ◌$◌, ◌∵◌, !, qed, move, split, drop, fjoin, suffices, done}
use types.Part.{agg}
use types.Run.{enter, returns, no_more}
use types.ByLocal.{alloc_all, pass_all, free_all, look_at, sets}
use base.Fml.{ftrue}
use denote.Steps.{nothing}
use denote.Triple.Walked.{says, ends_at}
use Rattle.sshkey_base64.proofs.Walks.{empty, made_empty}
use Rattle.sshkey_base64.specs.contracts.history.History as History
use Rattle.sshkey_base64.specs.contracts.history.History.new as F
use Rattle.sshkey_base64.proofs.history.History.new.Statement.{statement}
use Rattle.sshkey_base64.proofs.history.History.new.Code as code

pub new_spec : {M : Type 1} → statement M
new_spec 𝓤 𝓛 𝓜 𝓡 wired =
    let c = F.clauses 𝓛 𝓜.mem 𝓡.returns in
    proved 𝓛 F.ended tt c 𝓜 𝓡 tt F.Key.name code.function (code.unfolded 𝓤 𝓛.H 𝓜 𝓡 wired)
    (λ κs. tt) (λ κs. tt) (λ κs qs bounds a n are.
    let made : (History.the_row).Denot = record { bytes = [] } in
    qed 𝓛 ((‵ ftrue ⊛ ‵ ftrue) ∷ ‵ ftrue ∷ []) ∵ split ! $ drop ! $ drop ! $
    enter ! _ _ _ _ _ $ alloc_all ! (λ l. pass_all ! refl tt $
    sets ! (agg ! (no_more !)) refl (tt, tt) $
    nothing ! $ made_empty ! $ fjoin ! $
    returns ! (look_at ! 0 refl) $ free_all ! refl $
    suffices ! _ (ends_at 𝓛 F.ended tt c ((κs, qs, bounds, a, tt), n) empty made tt tt) $ says ! refl $
    nothing ! $ move ! (2 ∷ 0 ∷ 1 ∷ []) $ done !))
