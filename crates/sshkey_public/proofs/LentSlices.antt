-- A `&mut [u8]` is lent to a call, and then shared for all the time that it has left. Assumes
-- `Logic`.
use Rattle.std.proofs.Common.{◌∙◌, arith}
use Rattle.std.proofs.lemmas.List.{length-take, take-append-drop}
use Rattle.std.specs.Prelude.{Result, Ok, Err, ◌++◌, drop}
use mathlib.Core.Path.{◌≡◌, refl, sym, ap}
use Prim.Native.Nat.{ℕ}
use mathlib.Core.List.{List, [], ◌∷◌}
use lib.ListN.{length}
use seplogic.Ra.Ura.{Ura}
use mir.Syntax.{Lifetime, erased}
use mir.Val.{Val}
use base.Stored.{coded_list}
use contract.BorrowLft.{⊑_static}
use base.Logic.{SProp, ent, sep, ex, ex_i}
use base.Fml.{Lft, GName, Share, Fml, flft, fdead, fres}
use types.Logic.{Logic, sem}
use types.Kit.{Item, ‵, ◌⊛◌, some, given, later, mean, ◌$◌, !, qed, move, use1, use2, split, join, learn, pick, fsplit, fjoin, feq_l, feq_i, show, await, updating, now, done}
use denote.Builtin.{u8}
use denote.Follow.{such_by, follows_by}
use denote.FollowSlice.{finally-res}
use denote.Param.Laws as laws
use denote.Param.Shared.{copy_shared}
use denote.Ref.{Bor, MutBor}
use denote.Shares.{Shares-less}
use denote.Slice.{MutSlice, ShrSlice, finally, slice_val}
use denote.Struct.Field.{u8-field}
use denote.Struct.Laws.{u8-laws, u8-copy}
use borrow.Rule.Slice.Handed.{sl_Share}
use borrow.Rule.Slice.Lend.{kept_f, sl_relend, sl_relent_backˡ}
use borrow.Table.Owned as bare
use Rattle.sshkey_model.specs.Parts.{Parts}
use Rattle.sshkey_base.specs.declared.error.Error.{Error}
use Rattle.sshkey_public.specs.PublicKeys.{FillsSlice, GivesFront, WritesLine, IsAfter, StaysAfter}

byte_laws : laws.Laws u8
byte_laws = laws.of_field u8-field u8-laws refl (copy_shared u8-field u8-copy)

module _ {M : Type 1} {𝓤 : Ura M} (𝓛 : Logic 𝓤) (κ : Lft) (q : Share) (κ' : Lft) (s : MutBor (List ℕ)) where
  open 𝓛 use {H, A}

  abbrev b : ℕ
  b = s.ref_ptr.0

  abbrev o : ℕ
  o = s.ref_ptr.1

  abbrev pub word : List Val
  word = slice_val s.ref_ptr (length s.now) ∷ []

  -- what the lender keeps meanwhile, where the loan has that name
  abbrev pub Kept : GName → Item 𝓤
  Kept δ = kept_f 𝓛 u8 κ q κ' s.ghost_name δ s.now b o

  -- the loan
  abbrev pub Loan : Lifetime → GName → Fml
  Loan ℓ δ = (MutSlice ℓ κ' u8).own_val (record s { ghost_name = δ }) word

  abbrev Lent : Lifetime → GName → SProp 𝓤
  Lent ℓ δ = sep 𝓤 (sem 𝓛 (Loan ℓ δ)) (mean 𝓛 (Kept δ))

  pub lends_slice : (ℓ ℓ' : Lifetime) → ent 𝓤 (sep 𝓤 (sem 𝓛 ((MutSlice ℓ κ u8).own_val s word)) (A.lft κ q)) (H.⇛ (ex 𝓤 (Lent ℓ')))
  lends_slice ℓ ℓ' =
      qed 𝓛 (‵ ((MutSlice ℓ κ u8).own_val s word) ∷ ‵ (flft κ q) ∷ []) {P = H.⇛ (ex 𝓤 (Lent ℓ'))} (updating ! $ fsplit ! $ fsplit ! $ feq_l ! (λ e. fjoin ! $
      use2 𝓛 (later (some (λ (δ : GName). ‵ ((bare.MutSlice erased κ' u8).own_val (record s { ghost_name = δ })) ⊛ Kept δ))) (sl_relend 𝓛 u8 κ q κ' b o s.ghost_name s.now) $ await ! tt $ pick ! (λ δ. split ! $ fsplit ! $
      feq_i ! (List Val) word word refl $ fjoin ! $ fjoin ! $ now ! $ show ! (Lent ℓ') δ $ done !)))

  -- The loan is over, and left the slice with those elements: it is a `&[u8]` from here on, and its
  -- name ends at them.
  abbrev pub Shared : Lifetime → List ℕ → Fml
  Shared ℓ ys = (ShrSlice ℓ κ u8).own_val (record { ref_ptr = s.ref_ptr; now = ys }) word

  abbrev Ends : Lifetime → List ℕ → SProp 𝓤
  Ends ℓ ys = sep 𝓤 (sem 𝓛 (Shared ℓ ys)) (sep 𝓤 (A.res s.ghost_name ((coded_list u8.coded).code ys)) (A.lft κ q))

  pub shares_slice : (ℓ : Lifetime) (δ : GName) (ys : List ℕ) → ent 𝓤 (sep 𝓤 (A.dead κ') (sep 𝓤 (mean 𝓛 (Kept δ)) (sem 𝓛 (finally u8 δ ys)))) (H.⇛ (Ends ℓ ys))
  shares_slice ℓ δ ys =
      qed 𝓛 (‵ (fdead κ') ∷ Kept δ ∷ ‵ (finally u8 δ ys) ∷ []) {P = H.⇛ (Ends ℓ ys)} (updating ! $ move ! (1 ∷ 2 ∷ []) $ join ! $ move ! (1 ∷ 0 ∷ []) $ join ! $
      use1 𝓛 (later (given (length ys ≡ length s.now) (‵ ((bare.MutSlice erased κ u8).own_val (record { ref_ptr = s.ref_ptr; ghost_name = s.ghost_name; now = ys })) ⊛ ‵ (flft κ q))))
      (sl_relent_backˡ 𝓛 u8 κ q κ' b o s.ghost_name δ s.now ys) $ await ! tt $ learn ! (λ long.
      use1 𝓛 (later (‵ ((bare.ShrSlice erased κ u8).own_val (record { ref_ptr = s.ref_ptr; now = ys })) ⊛ ‵ (finally u8 s.ghost_name ys) ⊛ ‵ (flft κ q)))
      (sl_Share 𝓛 u8 b o s.ghost_name ys byte_laws.shr_laws κ q (Shares-less 𝓛 u8 [] κ (⊑_static κ) (byte_laws.shares 𝓛))) $ await ! tt $ split ! $ fsplit ! $
      feq_i ! (List Val) word (slice_val s.ref_ptr (length ys) ∷ []) (ap (λ (n : ℕ). slice_val s.ref_ptr n ∷ []) (sym long)) $ fjoin ! $ fjoin ! $ move ! (1 ∷ []) $ split ! $
      use1 𝓛 (‵ (fres s.ghost_name ((coded_list u8.coded).code ys))) (finally-res 𝓛 u8 s.ghost_name ys) $ join ! $ move ! (1 ∷ 0 ∷ []) $ now ! $ done !))

-- ---- by cases, of the slice's bytes, what was written, and what is handed out

pub is_written : (name : List ℕ) (p : Parts) (comment old new : List ℕ) (h : Result ℕ Error) (r : Result (Bor (List ℕ)) Error) → FillsSlice name p comment old h new → GivesFront new h r → WritesLine name p comment (length old) r
is_written name p comment old new (Ok n) (Ok text) f g = (f.0, g ∙ f.1.front, omega (arith, ap length g, length-take n new, f.1.room))
is_written name p comment old new (Ok n) (Err e) f g = absurd g
is_written name p comment old new (Err d) (Ok text) f g = absurd g
is_written name p comment old new (Err d) (Err e) f g = (g ∙ f.0, f.1)

is_after : (name : List ℕ) (p : Parts) (comment old new : List ℕ) (h : Result ℕ Error) (r : Result (Bor (List ℕ)) Error) → FillsSlice name p comment old h new → GivesFront new h r → IsAfter old r new
is_after name p comment old new (Ok n) (Ok text) f g =
    let at : n ≡ length text.now = f.1.len ∙ sym (ap length f.1.front) ∙ sym (ap length g) in
    sym (take-append-drop n new) ∙ ap (λ (l : List ℕ). l ++ drop n new) (sym g) ∙ ap (λ (l : List ℕ). text.now ++ l) (f.1.after ∙ ap (λ (m : ℕ). drop m old) at)
is_after name p comment old new (Ok n) (Err e) f g = absurd g
is_after name p comment old new (Err d) (Ok text) f g = absurd g
is_after name p comment old new (Err d) (Err e) f g = f.2

module _ {M : Type 1} {𝓤 : Ura M} (𝓛 : Logic 𝓤) (s : MutBor (List ℕ)) (new : List ℕ) (h : Result ℕ Error) (r : Result (Bor (List ℕ)) Error) where
  pub stays : (name : List ℕ) (p : Parts) (comment : List ℕ) → FillsSlice name p comment s.now h new → GivesFront new h r → ent 𝓤 (sem 𝓛 (fres s.ghost_name ((coded_list u8.coded).code new))) (sem 𝓛 (StaysAfter s r))
  unfolding such_by follows_by
  stays name p comment f g = ex_i 𝓤 (λ (d : (d : (List ℕ → List ℕ) × List ℕ) × ((w : List ℕ) → Unit {0}) × IsAfter s.now r d.1). sem 𝓛 (fres s.ghost_name ((coded_list u8.coded).code d.0.1))) (((λ w. new), new), (λ w. tt), is_after name p comment s.now new h r f g)
