-- `encode_openssh` lends its slice to `write_openssh`, and then hands it to `filled_text` as it
-- stands. Assumes `Logic`.
use mathlib.Core.Path.{refl}
use Prim.Native.Nat.{ℕ}
use mathlib.Core.List.{List, [], ◌∷◌}
use mir.Syntax.{named}
use base.Fraction.{full_share}
use base.Logic.{id⊢, emp}
use base.Fml.{Lft, GName, ftrue, flft, fres}
use base.Stored.{coded_list}
use contract.Monad.{fact, fact_i}
use contract.Running.{tables}
use types.Kit.{‵, ◌⊛◌, raw, some, later, ◌$◌, ◌∵◌, !, qed, move, split, join, fjoin, fsplit, use0, use1, use2, use3, suffices, frame, pick, await, done, drop, keep}
use types.Part.{agg, sub, whole}
use types.Run.{stop, hop, fld, from, addr, of_opd, returns, enter, and_then, no_more}
use types.ByLocal.{alloc_all, pass_all, free_all, look_at, look_in_at, get, get_in, sets, lands_as}
use types.Tokens.{lft_new, lft_end}
use borrow.Table.Str.{str_laws}
use denote.Builtin.{RefOf, SliceRefMutOf, u8, usize}
use denote.Exit.{no, yes}
use denote.Laws.{Is, shows}
use denote.Param.Laws as laws
use denote.Param.Shared.{copy_shared}
use denote.Ref.{Bor, ShrRef, shr_vals, shr_Tells}
use denote.RattleType.{RattleType}
use denote.Signature.{plain}
use denote.Slice.{MutSlice, mut_slice_vals, mut_slice_Tells}
use denote.Steps.{nothing, heard, peeks}
use denote.Struct.Field.{usize-field}
use denote.Struct.Laws.{usize-laws, usize-copy}
use denote.Text.{Str}
use denote.Triple.Call.{calls_at}
use denote.Triple.Clauses.{lasts, Lasts}
use denote.Triple.Spec.{triple_of}
use denote.Triple.Table.{framed}
use denote.Triple.Walked.{Stays, stay_dropped, ends_at, Goes-dropped, Goes-spent_slice}
use Rattle.std.proofs.raw_atomic.Walks.{proved}
use Rattle.std.proofs.result.Result.TheLaws.{the_row_laws as result_laws}
use Rattle.std.specs.Prelude.{IfOk, length}
use Rattle.std.specs.contracts.result.Result.{the_row as ResultOf}
use Rattle.sshkey_base.proofs.error.Error.TheLaws as error_laws
use Rattle.sshkey_base.specs.contracts.error.Error as error
use Rattle.sshkey_model.specs.Keys.{normal_key}
use Rattle.sshkey_model.specs.Lines.{key_name}
use Rattle.sshkey_public.proofs.LentSlices.{lends_slice, shares_slice, Kept, Loan, Shared, is_written, stays}
use Rattle.sshkey_public.proofs.public_key.PublicKey.encode_openssh.Code as code
use Rattle.sshkey_public.proofs.public_key.PublicKey.encode_openssh.Statement.{statement}
use Rattle.sshkey_public.proofs.public_key.PublicKey.write_openssh.Met as g_met
use Rattle.sshkey_public.proofs.public_key.filled_text.Met as k_met
use Rattle.sshkey_public.specs.PublicKeys.{public_of, comment_of, FillsSlice, IsTextUpTo, GivesFront, WritesLine, StaysAfter}
use Rattle.sshkey_public.specs.contracts.public_key.PublicKey.{the_row as R}
use Rattle.sshkey_public.specs.contracts.public_key.PublicKey.encode_openssh as F
use Rattle.sshkey_public.specs.contracts.public_key.PublicKey.write_openssh as g
use Rattle.sshkey_public.specs.contracts.public_key.filled_text as k

abbrev stayed : Stays F.ended.signature.params F.ended.kept
stayed = (stay_dropped (RefOf (0 ∷ []) tt (plain (λ _. R)) (λ _. tt)) yes, (stay_dropped (SliceRefMutOf (1 ∷ []) tt (plain (λ _. u8)) (λ _. tt)) no, tt))

-- ---- the two results

abbrev Filled : RattleType
Filled = ResultOf usize error.the_row

abbrev Text : Lft → RattleType
Text κ = ResultOf (Str (named 1) κ) error.the_row

filled_laws : laws.Laws Filled
filled_laws = result_laws usize error.the_row (laws.of_field usize-field usize-laws refl (copy_shared usize-field usize-copy)) error_laws.the_row_laws

text_laws : (κ : Lft) → laws.Laws (Text κ)
text_laws κ = result_laws (Str (named 1) κ) error.the_row (str_laws (record { mir = named 1; lft = κ })) error_laws.the_row_laws

pub encode_openssh_spec : {M : Type 1} → statement M
encode_openssh_spec 𝓤 𝓛 𝓜 𝓡 wired =
    let c = F.clauses 𝓛 𝓜.mem 𝓡.returns in let called = framed 𝓤 𝓛.H 𝓜 (tables 𝓤 𝓛.H 𝓜 𝓡 𝓡.env) in
    proved 𝓛 F.ended stayed c 𝓜 𝓡 (Goes-dropped 𝓛 2 (RefOf (0 ∷ []) tt (plain (λ _. R)) (λ _. tt)) yes (λ κs x f. refl), (Goes-spent_slice 𝓛 2 (1 ∷ []) tt (plain (λ _. u8)), tt))
    F.Key.name code.function (code.unfolded 𝓤 𝓛.H 𝓜 𝓡 wired)
    (λ κs. (shr_vals, (mut_slice_vals, tt))) (λ κs. (shr_Tells (named 0) κs.0 R, (mut_slice_Tells (named 1) κs.1.0 u8, tt))) (λ κs qs bounds a n are.
    let s = a.1.0 in let κ = κs.1.0 in let q = qs.1.0 in let count = are.1.0.0.1.0 in
    let of_self = ‵ (flft κs.0 qs.0) in let token = ‵ (flft κ q) in
    let name = key_name (public_of a.0.now) in let parts = normal_key (public_of a.0.now) in let comment = comment_of a.0.now in
    let G = triple_of 𝓛 g.signature (g.spec 𝓛 𝓜.mem 𝓡.returns) in let K = triple_of 𝓛 k.signature (k.spec 𝓛 𝓜.mem 𝓡.returns) in
    qed 𝓛 (((of_self ⊛ token ⊛ ‵ ftrue) ⊛ ‵ ((ShrRef (named 0) κs.0 R).own_val a.0 (shr_vals a.0)) ⊛ ‵ ((MutSlice (named 1) κ u8).own_val s (mut_slice_vals s)) ⊛ ‵ ftrue) ∷ ‵ ftrue ∷ []) ∵
    split ! $ split ! $ move ! (1 ∷ []) $ split ! $ move ! (1 ∷ []) $ drop ! $ move ! (2 ∷ []) $ split ! $ move ! (1 ∷ []) $ split ! $ keep ! (0 ∷ 2 ∷ 3 ∷ 4 ∷ []) $
    -- [the slice; self; the token of κ; self's token]
    enter ! _ _ _ _ _ $ alloc_all ! (λ l. pass_all ! refl ((tt, tt), ((tt, (tt, (record { fits = count }, tt))), tt)) $
    lft_new ! tt (λ α. move ! (1 ∷ 3 ∷ []) $
    use2 𝓛 (later (some (λ (δ : GName). ‵ (Loan 𝓛 κ q (α ∷ []) s (named 1) δ) ⊛ Kept 𝓛 κ q (α ∷ []) s δ))) (lends_slice 𝓛 κ q (α ∷ []) s (named 1) (named 1)) $ await ! tt $ pick ! (λ δ. split ! $
    -- [the loan; what is kept; the token of α; self; self's token]
    sets ! (addr ! (from ! (fld ! refl (hop ! (look_in_at ! 2 (sub ! 0 refl (whole !))) (stop !))))) refl (tt, tt) $
    sets ! (agg ! (and_then ! (get ! refl) (and_then ! (get_in ! (fld ! refl (stop !)) (sub ! 1 refl (whole !))) (no_more !)))) refl (tt, (tt, (record { fits = count }, tt))) $
    let z : G.Ghost = (((κs.0, (α ∷ [], tt)), (qs.0, (full_share, tt)), tt, (a.0, (record s { ghost_name = δ }, tt)), (shr_vals a.0, (mut_slice_vals s, tt))), tt) in
    nothing ! $ move ! (1 ∷ 0 ∷ []) $ fjoin ! $ move ! (3 ∷ 0 ∷ []) $ fjoin ! $ nothing ! $ move ! (3 ∷ 0 ∷ []) $ join ! $ move ! (3 ∷ 0 ∷ []) $ join ! $ join ! $
    nothing ! $ move ! (1 ∷ 0 ∷ []) $ use2 𝓛 (raw (G.pre z)) (id⊢ 𝓤 _) $
    calls_at ! called G (g_met.met 𝓤 𝓛 𝓜 𝓡 (code.calls-sshkey_public::public_key::PublicKey::write_openssh 𝓡.env wired)) z (and_then ! (get ! refl) (and_then ! (get ! refl) (no_more !))) (λ v.
    use1 𝓛 (later (some (λ (h : Filled.Denot). ((of_self ⊛ ‵ (flft (α ∷ []) full_share) ⊛ ‵ ftrue) ⊛ ‵ (Filled.own_val h (v ∷ []))) ⊛
    some (λ (ws : Lasts g.ended z.0.0 z.0.3). ‵ (lasts g.ended z.0.0 z.0.3 ws) ⊛ raw (fact 𝓤 (FillsSlice name parts comment s.now h ws.1.0)) ⊛ raw (fact 𝓤 (IfOk h (IsTextUpTo ws.1.0))))))) (id⊢ 𝓤 _) $
    await ! tt $ pick ! (λ h. split ! $ split ! $ move ! (2 ∷ []) $ pick ! (λ ws. split ! $ move ! (1 ∷ []) $ split ! $ heard ! _ (λ fills. heard ! _ (λ is_text.
    -- [what the parameters leave; the tokens; the result; what is kept]
    fsplit ! $ drop ! $ fsplit ! $ fsplit ! $ fsplit ! $ move ! (4 ∷ []) $ split ! $ move ! (1 ∷ []) $ split ! $ lft_end ! tt $
    -- [α is over; nothing; self's token; what the loan ends as; its length; its borrow; nothing;
    -- the result; what is kept]
    let new = ws.1.0 in
    move ! (0 ∷ 8 ∷ 3 ∷ []) $ use3 𝓛 (later (‵ (Shared 𝓛 κ q (α ∷ []) s (named 1) new) ⊛ ‵ (fres s.ghost_name ((coded_list u8.coded).code new)) ⊛ token)) (shares_slice 𝓛 κ q (α ∷ []) s (named 1) δ new) $ await ! tt $ split ! $ move ! (1 ∷ []) $ split ! $
    -- [how the slice ends; the token of κ; the `&`; nothing; self's token; two entries; nothing;
    -- the result]
    move ! (8 ∷ []) $ peeks ! Filled (Is Filled) (shows 𝓛 Filled) h (v ∷ []) (λ is. let typed = ((filled_laws.lawful 𝓛).typed h (v ∷ []) is).0 in
    lands_as ! refl refl typed $ sets ! (of_opd ! (get ! refl)) refl typed $
    sets ! (addr ! (from ! (fld ! refl (hop ! (look_in_at ! 2 (sub ! 0 refl (whole !))) (stop !))))) refl (tt, tt) $
    sets ! (agg ! (and_then ! (get ! refl) (and_then ! (get_in ! (fld ! refl (stop !)) (sub ! 1 refl (whole !))) (no_more !)))) refl (tt, (tt, (record { fits = count }, tt))) $
    let x : Bor (List ℕ) = record { ref_ptr = s.ref_ptr; now = new } in
    let j : K.Ghost = (((κ, tt), (q, tt), tt, (h, (x, tt)), (v ∷ [], (mut_slice_vals s, tt))), tt) in
    let Asked = IfOk h (IsTextUpTo new) in
    move ! (4 ∷ []) $ move ! (4 ∷ 0 ∷ []) $ fjoin ! $ move ! (1 ∷ 0 ∷ []) $ fjoin ! $ nothing ! $ move ! (3 ∷ 0 ∷ []) $ join ! $ join ! $
    use0 𝓛 (raw (fact 𝓤 Asked)) (fact_i 𝓤 Asked (emp 𝓤) is_text) $ move ! (1 ∷ 0 ∷ []) $ use2 𝓛 (raw (K.pre j)) (id⊢ 𝓤 _) $
    calls_at ! called K (k_met.met 𝓤 𝓛 𝓜 𝓡 (code.calls-sshkey_public::public_key::filled_text 𝓡.env wired)) j (and_then ! (get ! refl) (and_then ! (get ! refl) (no_more !))) (λ u.
    use1 𝓛 (later (some (λ (r : (Text κ).Denot). ((token ⊛ ‵ ftrue) ⊛ ‵ ((Text κ).own_val r (u ∷ []))) ⊛ some (λ (ws' : Lasts k.ended (κ, tt) (h, (x, tt))). ‵ (lasts k.ended (κ, tt) (h, (x, tt)) ws') ⊛ raw (fact 𝓤 (GivesFront new h r)))))) (id⊢ 𝓤 _) $
    await ! tt $ pick ! (λ r. split ! $ split ! $ move ! (2 ∷ []) $ pick ! (λ ws'. split ! $ drop ! $ heard ! _ (λ front.
    -- [the token of κ; the result; how the slice ends; self's token]
    move ! (1 ∷ []) $ peeks ! (Text κ) (Is (Text κ)) (shows 𝓛 (Text κ)) r (u ∷ []) (λ is_r.
    lands_as ! refl refl (((text_laws κ).lawful 𝓛).typed r (u ∷ []) is_r).0 $ returns ! (look_at ! 0 refl) $ free_all ! refl $
    let Line = WritesLine name parts comment (length s.now) r in
    move ! (2 ∷ []) $ use1 𝓛 (‵ (StaysAfter s r)) (stays 𝓛 s new h r name parts comment fills front) $
    use0 𝓛 (raw (fact 𝓤 Line)) (fact_i 𝓤 Line (emp 𝓤) (is_written name parts comment s.now new h r fills front)) $
    -- [the line; how the slice ends; the result; the token of κ; self's token]
    keep ! (1 ∷ 0 ∷ 2 ∷ 3 ∷ 4 ∷ []) $ join ! $ move ! (3 ∷ 2 ∷ []) $ join ! $ move ! (2 ∷ []) $
    suffices ! _ (ends_at 𝓛 F.ended stayed c ((κs, qs, bounds, a, (shr_vals a.0, (mut_slice_vals s, tt))), n) u r (tt, (tt, tt)) (tt, (tt, tt))) $
    nothing ! $ nothing ! $ fjoin ! $ nothing ! $ fjoin ! $ join ! $ move ! (1 ∷ 0 ∷ []) $ join ! $ frame ! $ done !)))))))))))))))
