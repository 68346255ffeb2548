-- `critical_option` hands back the builder that `chain_critical_option` answers. Assumes `Logic`.
use Rattle.sshkey_cert_builder.proofs.Chained.{refl, [], ◌∷◌, named, tables, raw, ◌$◌, ◌∵◌, !, qed, move, join, fjoin, suffices, frame, done, stop, addr, of_opd, returns, enter, and_then, no_more, alloc_all, pass_all, free_all, look_at, get, through, sets, lands_as, RefMutOf, no, yes, mut_vals, mut_Tells, plain, nothing, calls_at, lasts, triple_of, framed, Stays, stay_dropped, ends_at, Goes-spent_ref, proved, Chains, R, Said, Text, text_is, text_laws, text_goes, answered, hands_back, text_rest}
use Rattle.sshkey_cert_builder.specs.contracts.builder.Builder.critical_option as F
use Rattle.sshkey_cert_builder.specs.contracts.builder.Builder.chain_critical_option as g
use Rattle.sshkey_cert_builder.proofs.builder.Builder.chain_critical_option.Met as g_met
use Rattle.sshkey_cert_builder.proofs.builder.Builder.critical_option.Statement.{statement}
use Rattle.sshkey_cert_builder.proofs.builder.Builder.critical_option.Code as code
use Rattle.sshkey_model.specs.Drafts.{Critical}
use Rattle.sshkey_cert_values.specs.CertificateFields.{option_of}

abbrev stayed : Stays F.ended.signature.params F.ended.kept
stayed = (stay_dropped (RefMutOf (0 ∷ []) tt (plain (λ _. R)) (λ _. tt)) no, (stay_dropped (plain (λ _. Text)) yes, (stay_dropped (plain (λ _. Text)) yes, tt)))

pub critical_option_spec : {M : Type 1} → statement M
critical_option_spec 𝓤 𝓛 𝓜 𝓡 wired =
    let c = F.clauses 𝓛 𝓜.mem 𝓡.returns in let called = framed 𝓤 𝓛.H 𝓜 (tables 𝓤 𝓛.H 𝓜 𝓡 𝓡.env) in
    proved 𝓛 F.ended stayed c 𝓜 𝓡 (Goes-spent_ref 𝓛 1 (0 ∷ []) tt (plain (λ _. R)), (text_goes 𝓛, (text_goes 𝓛, tt)))
    F.Key.name code.function (code.unfolded 𝓤 𝓛.H 𝓜 𝓡 wired)
    (λ κs. (mut_vals, ((λ y. text_is.val y ∷ []), ((λ y. text_is.val y ∷ []), tt)))) (λ κs. (mut_Tells (named 0) κs.0 R, (text_is.tells, (text_is.tells, tt)))) (λ κs qs bounds a n are.
    let s = a.0 in let text_fits = (text_laws.lawful 𝓛).typed in
    let said = Said 𝓛 s (Chains (Critical (option_of (a.1.0, a.1.1.0))) s.now) in
    let G = triple_of 𝓛 g.signature (g.spec 𝓛 𝓜.mem 𝓡.returns) in
    let z : G.Ghost = ((κs, qs, bounds, a, (mut_vals s, (text_is.val a.1.0 ∷ [], (text_is.val a.1.1.0 ∷ [], tt)))), n) in
    qed 𝓛 (raw (G.pre z) ∷ []) ∵ enter ! _ _ _ _ _ $
    alloc_all ! (λ l. pass_all ! refl ((tt, tt), ((text_fits a.1.0 _ are.1.0).0, ((text_fits a.1.1.0 _ are.1.1.0).0, tt))) $
    sets ! (addr ! (through ! refl (stop !))) refl (tt, tt) $ sets ! (of_opd ! (get ! refl)) refl (text_fits a.1.0 _ are.1.0).0 $ sets ! (of_opd ! (get ! refl)) refl (text_fits a.1.1.0 _ are.1.1.0).0 $
    calls_at ! called G (g_met.met 𝓤 𝓛 𝓜 𝓡 (code.calls-sshkey_cert_builder::builder::Builder::chain_critical_option 𝓡.env wired)) z (and_then ! (get ! refl) (and_then ! (get ! refl) (and_then ! (get ! refl) (no_more !)))) (λ v.
    answered 𝓛 𝓜 𝓡 κs qs said (lasts g.ended κs a) v ! tt (λ h typed. lands_as ! refl refl typed.0 $
    hands_back 𝓛 𝓜 𝓡 κs qs said h v ! (code.calls-sshkey_cert_builder::builder::chain::hand_back 𝓡.env wired) (and_then ! (get ! refl) (no_more !)) (λ u r fits. lands_as ! refl refl fits.0 $
    returns ! (look_at ! 0 refl) $ free_all ! refl $
    suffices ! _ (ends_at 𝓛 F.ended stayed c z u r (tt, (text_rest a.1.0, (text_rest a.1.1.0, tt))) (tt, (tt, (tt, tt)))) $
    nothing ! $ nothing ! $ fjoin ! $ nothing ! $ fjoin ! $ nothing ! $ fjoin ! $ join ! $ move ! (1 ∷ 0 ∷ []) $ join ! $ frame ! $ done !)))))
