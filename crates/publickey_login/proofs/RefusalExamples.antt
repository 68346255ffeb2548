-- Which text refuses first, and what may not be offered: for worked examples.
use Rattle.std.proofs.Common.{◌≡◌, ℕ, zero, suc, List, [], ◌∷◌, Option, Some, None, arith, false, inl, inr}
use Rattle.std.specs.List.{Any}
use Rattle.std.specs.Option.{option_or}
use Rattle.std.specs.Str.Lines.{lines}
use Rattle.sshkey_model.specs.Certificates.{Certificate}
use Rattle.sshkey_model.specs.Keys.{Key}
use Rattle.sshkey_model.specs.Refusals.{has_trusted_authority}
use Rattle.user_keys.proofs.FirstLines.{some_first}
use Rattle.user_keys.specs.UserLogins.{Ends, IsListedBy, OfKey, UserLogin}
use Rattle.user_keys.specs.declared.refusal.Reason.{Reason}
use Rattle.user_keys.specs.declared.refusal.Reason.TheVariants.{Expired}
use Rattle.publickey_login.specs.Sources.{Login, Read, IsOfFirst, KeyLine, ArePassed, Sought, in_text}
use Rattle.publickey_login.specs.RefusalExamples.{Refuse}
use Rattle.publickey_login.specs.Stops.{AuthorityRefusesFirst, HasNone, IsWhy, RefusesFirst, RefusesWith, refusal_for}
use Rattle.publickey_login.specs.declared.grant.Source.TheVariants as source
use Rattle.publickey_login.specs.declared.refusal.PublickeyRefusal.TheVariants as refusal
use Rattle.publickey_login.specs.declared.search.LineRefusal.{LineRefusal}
use Rattle.publickey_login.specs.declared.search.TextList.TheVariants as list
use Rattle.user_keys.specs.declared.refusal.UserRefusal.TheVariants as why

no_line : (P : List ℕ → Type 0) → Any P (lines []) → ⊥
no_line P (k, x, less, is, p) = absurd (omega (arith, less))

module _ (u : UserLogin) (k : Key) where
  pub nothing : HasNone u (KeyLine k) []
  nothing = (no_line (Ends (in_text u []) (OfKey k)), no_line (IsListedBy (OfKey k)))

  -- a text that refuses has a line
  pub has_some : (text : List ℕ) (n : ℕ) (reason : Reason) → RefusesWith u (KeyLine k) n reason text → HasNone u (KeyLine k) text → ⊥
  has_some text n reason refuses none = none.1 (some_first (IsListedBy (OfKey k)) (lines text) refuses.1.0 n refuses.1.1)

  module _ (over elsewhere : List ℕ) (both : Refuse u (KeyLine k) (KeyLine k) over elsewhere) where
    pub not_silent : RefusesFirst u (KeyLine k) list.AuthorizedKeys (Read over ∷ []) None → ⊥
    unfolding ArePassed
    not_silent a = has_some over 3 Expired both.third a.0

    pub only_first : (x : LineRefusal) → RefusesFirst u (KeyLine k) list.AuthorizedKeys (Read over ∷ Read elsewhere ∷ []) (Some x) → (x.source ≡ source.AuthorizedKeys 0) × IsWhy u (KeyLine k) over (why.NotAllowed x.line x.reason)
    unfolding IsOfFirst
    only_first x (zero, is, first) = (is, first)
    only_first x (suc n, is, first) = absurd (has_some over 3 Expired both.third first.0)

    pub never_unlisted : (files command : Option LineRefusal) → RefusesFirst u (KeyLine k) list.Command (Read over ∷ []) command → refusal.NotListed ≡ refusal_for (option_or files command) → ⊥
    unfolding ArePassed
    never_unlisted None None a is = has_some over 3 Expired both.third a.0
    never_unlisted None (Some x) a is = absurd (cc is)
    never_unlisted (Some x) command a is = absurd (cc is)

-- an authority whom nobody trusts asks for no principals
untrusted : (l : Login) (c : Certificate) (x : LineRefusal) → has_trusted_authority l.trusted.authorities c ≡ false → AuthorityRefusesFirst l c (Some x) → ⊥
untrusted l c x other (inl never) = absurd (cc never.1)
untrusted l c x other (inr told) = absurd (cc (other, told.0))

-- where no text is asked nothing is told of one
pub never_told : (u : UserLogin) (s : Sought) (l : Login) (c : Certificate) (x : LineRefusal) → has_trusted_authority l.trusted.authorities c ≡ false → (files authority command : Option LineRefusal) → RefusesFirst u s list.AuthorizedKeys [] files → AuthorityRefusesFirst l c authority → RefusesFirst u s list.Command [] command → refusal.NotAllowed x.source x.line x.reason ≡ refusal_for (option_or files (option_or authority command)) → ⊥
unfolding IsOfFirst
never_told u s l c x other (Some y) authority command (n, from, first) b d is = first
never_told u s l c x other None (Some y) command a b d is = untrusted l c y other b
never_told u s l c x other None None (Some y) a b (n, from, first) is = first
never_told u s l c x other None None None a b d is = absurd (cc is)
