-- What is answered of a login, and where memory is needed.
use Rattle.std.specs.Prelude.{◌≡◌, ◌≢◌, ◌⊎◌, ℕ, List, Bool, true, false, IsTrue, Option, Some, None, Result, Ok, Err}
use Rattle.std.specs.List.{Any}
use Rattle.openssh_limits.specs.Limits.{openssh_accepts_key}
use Rattle.sshkey_krl.specs.Revocations.{is_key_revoked}
use Rattle.sshkey_model.specs.Keys.{Key}
use Rattle.login_terms.specs.Options.{Terms, terms_of}
use Rattle.user_keys.specs.UserLogins.{IsFirst, Credential, Ends, IsListedBy, Lets, MayLet, OfKey, RefusesFor, UserLogin, listed_key}
use Rattle.user_keys.specs.Spellings.{MaySpell, own_part}
use Rattle.login_terms.specs.declared.terms.Terms as code
use Rattle.user_keys.specs.declared.answer.Judgement.{Judgement}
use Rattle.user_keys.specs.declared.answer.Judgement.TheVariants as judgement
use Rattle.user_keys.specs.declared.answer.LineVerdict.{LineVerdict}
use Rattle.user_keys.specs.declared.answer.LineVerdict.TheVariants as verdict
use Rattle.user_keys.specs.declared.grant.UserGrant.{UserGrant}
use Rattle.user_keys.specs.declared.refusal.Reason.{Reason}
use Rattle.user_keys.specs.declared.refusal.UserRefusal.{UserRefusal}
use Rattle.user_keys.specs.declared.refusal.UserRefusal.TheVariants as refusal

-- ---- a line

-- It lets the key in on these terms alone; or refuses it; or may let it in; or is not for it.
abbrev pub SaysOf : UserLogin → Credential → List ℕ → LineVerdict → Type 0
SaysOf login by line (verdict.Lets t) = Lets login by line (terms_of t) × ((u : Terms) → Lets login by line u → u ≡ terms_of t) × ¬ MayLet login by line
SaysOf login by line (verdict.Refuses r) = RefusesFor login by line r × ¬ Ends login by line
SaysOf login by line verdict.Unclear = MayLet login by line × ((t : Terms) → Lets login by line t → ⊥)
SaysOf login by line verdict.Passes = ¬ IsListedBy by line × ¬ Ends login by line

-- what it says whose terms are judged so
abbrev pub FollowsFrom : code.Terms → Judgement → LineVerdict → Type 0
FollowsFrom t judgement.Allows v = v ≡ verdict.Lets t
FollowsFrom t (judgement.Refuses r) v = v ≡ verdict.Refuses r
FollowsFrom t judgement.Unclear v = v ≡ verdict.Unclear

-- ---- all lines

-- The grant that this holds of. Refused for anything but memory, it holds of none.
abbrev pub GrantsExactly : (UserGrant → Type 0) → Result UserGrant UserRefusal → Type 0
GrantsExactly Holds (Ok g) = Holds g
GrantsExactly Holds (Err r) = r ≢ refusal.Memory → (g : UserGrant) → Holds g → ⊥

-- Of the lines none lets the key in or may do so, and none is for it, or the first that is refuses
-- it for that; or one may let it in, before any that does.
abbrev pub IsWhyNoLine : UserLogin → Credential → UserRefusal → Type 0
IsWhyNoLine login by refusal.NotListed = ¬ Any (Ends login by) login.lines × ¬ Any (IsListedBy by) login.lines
IsWhyNoLine login by (refusal.NotAllowed n reason) = ¬ Any (Ends login by) login.lines × ((line : List ℕ) × IsFirst (IsListedBy by) login.lines line n × RefusesFor login by line reason)
IsWhyNoLine login by (refusal.Unclear n) = (line : List ℕ) × IsFirst (Ends login by) login.lines line n × MayLet login by line
IsWhyNoLine login by refusal.UnacceptedKey = ⊥
IsWhyNoLine login by refusal.Revoked = ⊥
IsWhyNoLine login by (refusal.Certificate r) = ⊥
IsWhyNoLine login by refusal.Memory = ⊥

-- sshd does not accept the key; or it does, and the key is revoked, or is not, and the lines refuse
-- it.
abbrev pub IsWhyNoKey : UserLogin → Key → (List ℕ → Bool) → UserRefusal → Type 0
IsWhyNoKey login key revokes_key r = ((openssh_accepts_key login.least_rsa_bits key ≡ false) × (r ≡ refusal.UnacceptedKey))
    ⊎ (IsTrue (openssh_accepts_key login.least_rsa_bits key) × (is_key_revoked revokes_key key ≡ true) × (r ≡ refusal.Revoked))
    ⊎ (IsTrue (openssh_accepts_key login.least_rsa_bits key) × (is_key_revoked revokes_key key ≡ false) × IsWhyNoLine login (OfKey key) r)

-- the first line that refuses, and why: of those so far, or else this one
abbrev pub first_refused : Option (ℕ × Reason) → ℕ → Reason → Option (ℕ × Reason)
first_refused None line reason = Some (line, reason)
first_refused (Some first) line reason = Some first

-- what refuses where no line lets in
abbrev pub refusal_for : Option (ℕ × Reason) → UserRefusal
refusal_for None = refusal.NotListed
refusal_for (Some x) = refusal.NotAllowed x.0 x.1

-- ---- memory

-- Memory was refused only where the key may be spelled in a line.
abbrev pub AsksOfLines : UserLogin → Credential → Result UserGrant UserRefusal → Type 0
AsksOfLines login by (Ok g) = Unit {0}
AsksOfLines login by (Err r) = r ≡ refusal.Memory → Any (MaySpell (own_part (listed_key by))) login.lines

-- The same, or where somebody says what is revoked.
abbrev pub AsksOfKey : UserLogin → Key → Bool → Result UserGrant UserRefusal → Type 0
AsksOfKey login key revokes_none (Ok g) = Unit {0}
AsksOfKey login key revokes_none (Err r) = r ≡ refusal.Memory → (revokes_none ≡ false) ⊎ Any (MaySpell (own_part key)) login.lines
