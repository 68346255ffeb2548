-- What the walks of the chained setters cite: each calls a function that answers the builder in a
-- struct, and hands it back. Assumes `Logic`.
pub use mathlib.Core.Path.{refl}
pub use mathlib.Core.List.{[], ◌∷◌}
pub use mir.Syntax.{named, w64}
pub use contract.Running.{tables}
pub use types.Kit.{raw, ◌$◌, ◌∵◌, !, qed, move, join, fjoin, suffices, frame, done}
pub use types.Run.{stop, addr, of_opd, returns, enter, and_then, no_more}
pub use types.ByLocal.{alloc_all, pass_all, free_all, look_at, get, through, sets, lands_as}
pub use denote.Builtin.{RefMutOf, u64}
pub use denote.Exit.{no, yes}
pub use denote.Plain.{uint_vals, uint_Tells}
pub use denote.Ref.{mut_vals, mut_Tells}
pub use denote.Signature.{plain}
pub use denote.Steps.{nothing}
pub use denote.Triple.Call.{calls_at}
pub use denote.Triple.Clauses.{lasts}
pub use denote.Triple.Spec.{triple_of}
pub use denote.Triple.Table.{framed}
pub use denote.Triple.Walked.{Stays, stay_dropped, ends_at, Goes-dropped, Goes-spent_ref}
pub use Rattle.std.proofs.raw_atomic.Walks.{proved}
pub use Rattle.std.specs.Prelude.{string_bytes}
pub use Rattle.sshkey_cert_values.specs.contracts.cert_type.CertType.{the_row as CertType}
pub use Rattle.sshkey_cert_builder.specs.Builders.{Chains, ChainsAlways}
pub use Rattle.sshkey_cert_builder.specs.contracts.builder.Builder.{the_row as R}
use mathlib.Core.Path.{◌≡◌, sym}
use mathlib.Core.List.{List}
use seplogic.Ra.Ura.{Ura}
use mir.Syntax.{Body, Opd as Operand, Place, call, seq}
use mir.Val.{Val}
use base.Logic.{id⊢}
use base.Fml.{ftrue, flft, Fml}
use prog.Model.{Model}
use prog.Wired.{Wired}
use prog.Wp.{Env, Loops}
use types.Kit.{‵, ◌⊛◌, some, later, split, rewrite, use1, pick, await, drop, Goal, Item, Post, Seq, Soaks, lands, mean, runs, updating, now as at_once}
use types.Logic.{Logic}
use types.Run.{Opds}
use contract.Monad.{fact}
use contract.Lifetimes.{Lfts, Shares}
use contract.Running.{MachineTables, Running}
use denote.Laws.{Is, shows, Typed}
use denote.Ref.{NamedLft, MutBor, MutRef}
use denote.Steps.{heard, peeks}
use denote.Triple.Clauses.{Lasts}
use denote.Exit.{Last, rest}
use denote.Param.Laws as laws
use denote.Param.Shared.{mut_ref_shared}
use denote.RattleType.{RattleType}
use denote.Struct.Field.{mut_ref_field}
use denote.Struct.Laws.{mut_ref_laws}
use denote.Triple.Statement.{Contract}
use denote.Triple.Walked.{Goes}
use Rattle.sshkey_cert_builder.specs.Builders.{handed_back, IsTheBuilder, StaysIfRefused}
use Rattle.std.specs.Prelude.{Result}
use Rattle.std.specs.contracts.alloc.Global
use Rattle.std.specs.contracts.impls.GlobalAllocator.TheImpl
use Rattle.std.specs.contracts.result.Result.{the_row as ResultOf}
use Rattle.std.specs.contracts.string.String as string
use Rattle.std.proofs.alloc.Global.TheLaws as heap_laws
use Rattle.std.proofs.result.Result.TheLaws.{the_row_laws as result_laws}
use Rattle.std.proofs.string.String.TheLaws as string_laws
use Rattle.sshkey_base.specs.contracts.error.Error as error
use Rattle.sshkey_base.specs.declared.error.Error.{Error}
use Rattle.sshkey_base.proofs.error.Error.TheLaws as error_laws
use Rattle.sshkey_cert_values.proofs.cert_type.CertType.TheLaws as cert_type_laws
use Rattle.sshkey_cert_builder.specs.contracts.builder.chain.Loan as loan
use Rattle.sshkey_cert_builder.specs.contracts.builder.chain.hand_back as k
use Rattle.sshkey_cert_builder.specs.declared.builder.Builder.{Builder}
use Rattle.sshkey_cert_builder.proofs.builder.Builder.TheLaws as builder_laws
use Rattle.sshkey_cert_builder.proofs.builder.chain.Loan.TheLaws as the_loan_laws
use Rattle.sshkey_cert_builder.proofs.builder.chain.hand_back.Met.{met}
use Rattle.sshkey_cert_builder.proofs.builder.chain.hand_back.Symbol as hand_back

-- what the clauses of such a setter say of an answer
module _ {M : Type 1} {𝓤 : Ura M} (𝓛 : Logic 𝓤) (s : MutBor Builder) (Step : Result (MutBor Builder) Error → Type 0) where
  abbrev pub Said : Result (MutBor Builder) Error → Item 𝓤
  Said r = ‵ (StaysIfRefused s r) ⊛ raw (fact 𝓤 (IsTheBuilder s r)) ⊛ raw (fact 𝓤 (Step r))

-- ---- the builder in a struct, and what is handed back

module _ (κs : Lfts 1) where
  abbrev Loaned : RattleType
  Loaned = ResultOf (loan.the_row (record { mir = named 0; lft = κs.0 })) error.the_row

  abbrev Reference : RattleType
  Reference = MutRef (named 0) κs.0 R

  abbrev Back : RattleType
  Back = ResultOf Reference error.the_row

  loaned_laws : laws.Laws Loaned
  loaned_laws = result_laws (loan.the_row (record { mir = named 0; lft = κs.0 })) error.the_row (the_loan_laws.the_row_laws (record { mir = named 0; lft = κs.0 })) error_laws.the_row_laws

  reference_laws : laws.Laws Reference
  reference_laws =
      let a : NamedLft = record { mir = named 0; lft = κs.0 } in
      laws.of_field (mut_ref_field a R tt) (mut_ref_laws a R tt) refl (mut_ref_shared a R tt (laws.row_shared R builder_laws.the_row_laws))

  back_laws : laws.Laws Back
  back_laws = result_laws Reference error.the_row reference_laws error_laws.the_row_laws

module _ {M : Type 1} {𝓤 : Ura M} (𝓛 : Logic 𝓤) (𝓜 : Model 𝓤 𝓛.H) (𝓡 : Running 𝓤 𝓛.H 𝓜) (κs : Lfts 1) (qs : Shares 1) where
  open 𝓛 use {H}

  abbrev Handing : Contract 𝓤
  Handing = triple_of 𝓛 k.signature (k.spec 𝓛 𝓜.mem 𝓡.returns)

  abbrev called : MachineTables 𝓤 H 𝓜
  called = tables 𝓤 H 𝓜 𝓡 𝓡.env

  abbrev handing : (Loaned κs).Denot → Val → Handing.Ghost
  handing h v = ((κs, qs, tt, (h, tt), (v ∷ [], tt)), tt)

  abbrev tokens : Item 𝓤
  tokens = ‵ (flft κs.0 qs.0) ⊛ ‵ ftrue

  module _ (says : Result (MutBor Builder) Error → Item 𝓤) where
    abbrev Answer : {W : Type 0} → (W → Fml) → Val → Item 𝓤
    Answer {W} last v = later (some (λ (h : (Loaned κs).Denot). (tokens ⊛ ‵ ((Loaned κs).own_val h (v ∷ []))) ⊛ some (λ (w : W). ‵ (last w) ⊛ says (handed_back h))))

    module _ {K : Type 0} {Γ : List (Item 𝓤)} {G : Goal 𝓤 H} where
      -- what the first call answers is what `hand_back` is handed
      pub answered : {W : Type 0} (last : W → Fml) (v : Val) → K → Soaks G
          → ((h : (Loaned κs).Denot) → Typed (Loaned κs).mir (v ∷ []) → Seq K 𝓛 (raw (Handing.pre (handing h v)) ∷ says (handed_back h) ∷ Γ) G)
          → Seq K 𝓛 (raw (mean 𝓛 (Answer last v)) ∷ Γ) G
      answered last v t z go =
          use1 𝓛 (Answer last v) (id⊢ 𝓤 _) $ await t z $ pick t (λ h. split t $ split t $ move t (2 ∷ []) $ pick t (λ w. split t $ drop t $
          -- [what is said; the tokens; the builder]
          move t (2 ∷ []) $ peeks t (Loaned κs) (Is (Loaned κs)) (shows 𝓛 (Loaned κs)) h (v ∷ []) (λ is.
          nothing t $ move t (1 ∷ 0 ∷ []) $ fjoin t $ move t (2 ∷ 0 ∷ []) $ join t $ nothing t $ move t (1 ∷ 0 ∷ []) $ join t $ use1 𝓛 (raw (Handing.pre (handing h v))) (id⊢ 𝓤 _) $
          go h (((loaned_laws κs).lawful 𝓛).typed h (v ∷ []) is))))

    -- what is said of it is said of what `hand_back` returns
    module _ {K : Type 0} {Γ : List (Item 𝓤)} {E : Env 𝓤 H} {Λ : Loops 𝓤 H} {q : Post 𝓤 H} {xs : List Operand} {d : Place} {rest : Body} where
      pub hands_back : (h : (Loaned κs).Denot) (v : Val) → K → Wired 𝓡.env hand_back.code → Opds K 𝓛 (raw (Handing.pre (handing h v)) ∷ says (handed_back h) ∷ Γ) E xs (v ∷ [])
          → ((u : Val) (r : (Back κs).Denot) → Typed (Back κs).mir (u ∷ []) → Seq K 𝓛 (‵ ((Back κs).own_val r (u ∷ [])) ∷ tokens ∷ says r ∷ Γ) (lands called.C Λ E d u rest q))
          → Seq K 𝓛 (raw (Handing.pre (handing h v)) ∷ says (handed_back h) ∷ Γ) (runs called.C Λ E (seq (call hand_back.name xs d) rest) q)
      hands_back h v t wired ops go =
          calls_at t (framed 𝓤 H 𝓜 called) Handing (met 𝓤 𝓛 𝓜 𝓡 wired) (handing h v) ops (λ u.
          use1 𝓛 (later (some (λ (r : (Back κs).Denot). (tokens ⊛ ‵ ((Back κs).own_val r (u ∷ []))) ⊛ some (λ (w : Lasts k.ended κs (h, tt)). ‵ (lasts k.ended κs (h, tt) w) ⊛ raw (fact 𝓤 (r ≡ handed_back h)))))) (id⊢ 𝓤 _) $
          await t tt $ pick t (λ r. split t $ split t $ move t (2 ∷ []) $ pick t (λ w. split t $ drop t $ heard t _ (λ same.
          -- [the tokens; the result; what is said]
          move t (1 ∷ []) $ peeks t (Back κs) (Is (Back κs)) (shows 𝓛 (Back κs)) r (u ∷ []) (λ is.
          rewrite t 2 says (sym same) refl $ go u r (((back_laws κs).lawful 𝓛).typed r (u ∷ []) is))))))

-- ---- what is passed

abbrev pub Text : RattleType
Text = string.the_row Global.the_row TheImpl.ghosts

-- its machine value
abbrev pub text_is : laws.Told Text
text_is = string_laws.the_told Global.the_row TheImpl.ghosts heap_laws.the_row_laws heap_laws.the_told

pub text_laws : laws.Laws Text
text_laws = string_laws.the_row_laws Global.the_row TheImpl.ghosts heap_laws.the_row_laws

-- nothing is left of a text that was passed on
pub text_goes : {M : Type 1} {𝓤 : Ura M} (𝓛 : Logic 𝓤) → Goes 𝓛 1 (plain (λ _. Text)) yes (stay_dropped (plain (λ _. Text)) yes)
text_goes 𝓛 κs x f vs fits = qed 𝓛 (‵ ftrue ∷ []) ∵ updating ! $ at_once ! $ nothing ! $ fjoin ! $ done !

-- what else is left
abbrev pub text_rest : (x : Text.Denot) → Last (Text.exit yes) x
text_rest = rest (Text.exit yes)

abbrev pub type_is : laws.Told CertType
type_is = cert_type_laws.the_told

pub type_laws : laws.Laws CertType
type_laws = cert_type_laws.the_row_laws
