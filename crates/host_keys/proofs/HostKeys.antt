-- From the name that is asked to the host.
use Rattle.std.proofs.Common.{◌≡◌, ◌≢◌, ◌⊎◌, ◌<◌, length, ℕ, Bool, true, false, IfErr, List, Result, Ok, Err, inl, inr, subst, sym, ◌∙◌, IsTrue, IfOk, refl}
use Rattle.sshkey_matching.specs.AskedHosts.{IsAsked, IsHostFault}
use Rattle.sshkey_matching.specs.FromLists.{is_like_address}
use Rattle.sshkey_matching.specs.declared.host.HostFault.{HostFault}
use Rattle.sshkey_matching.proofs.AskedHosts.{no_fault, one_asked}
use Rattle.host_keys.specs.Answers.{IsRefusalForHost, KnownExactly, OkExactly, RefusesAsked, AsksOf, IsRefusalFor, IsWhy, answer_of}
use Rattle.host_keys.specs.Hosts.{HostCheck, OfAsked, IsBadFor, IsSaid, IsSettled, IsEitherRevoked, IsSaidOfSigned, IsVerdictOfSigned}
use Rattle.host_keys.specs.declared.known_by.KnownBy.{KnownBy}
use Rattle.host_keys.specs.declared.refusal.HostRefusal.{HostRefusal}
use Rattle.host_keys.specs.declared.refusal.HostRefusal.TheVariants as refusal
use Rattle.sshkey_entries.specs.HostVerdicts.{known_name, standard_port, HidesSome, IsAuthority, IsRevoked}
use Rattle.sshkey_base.specs.declared.error.Error.{Error}
use Rattle.sshkey_base.specs.declared.error.Error.TheVariants.{Memory}
use Rattle.sshkey_model.specs.Certificates.{Certificate}
use Rattle.sshkey_model.specs.Verification.{Question}
use Rattle.sshkey_known_hosts.specs.declared.verdict.Verdict.{Verdict}
use Rattle.sshkey_known_hosts.specs.declared.verdict.Verdict.TheVariants.{Revoked, Trusted, Unknown, Changed, Unreadable}
use Rattle.sshkey_known_hosts.specs.Verdicts.{IsVerdict}
use Rattle.sshkey_model.specs.Keys.{Key}

-- ---- under the name that is asked

module _ (login : HostCheck) (name : List ℕ) (asked : IsAsked login.host login.port name) where
  -- what holds under another name that is asked holds under this one
  same_name : (Holds : HostCheck → Type 0) → OfAsked login Holds → Holds (record login { host = name })
  same_name Holds of = subst (λ (n : List ℕ). Holds (record login { host = n })) (one_asked login.host login.port of.name name of.asked asked) of.holds

  pub exactly_asked : (r : Result (Unit {0}) HostRefusal) (Holds : HostCheck → Type 0) → OkExactly (Holds (record login { host = name })) r → OkExactly (OfAsked login Holds) r
  exactly_asked (Ok x) Holds holds = record { name = name; asked = asked; holds = holds }
  exactly_asked (Err e) Holds none = λ other of. none other (same_name Holds of)

  pub known_asked : (r : Result KnownBy HostRefusal) (Holds : HostCheck → KnownBy → Type 0) → KnownExactly (Holds (record login { host = name })) r → KnownExactly (λ by. OfAsked login (λ it. Holds it by)) r
  known_asked (Ok by) Holds holds = record { name = name; asked = asked; holds = holds }
  known_asked (Err e) Holds none = λ other by of. none other by (same_name (λ it. Holds it by) of)

  pub why_asked : {X : Type 0} (r : Result X HostRefusal) (Why : HostCheck → HostRefusal → Type 0) → IfErr r (Why (record login { host = name })) → IfErr r (RefusesAsked login Why)
  why_asked (Ok x) Why why = tt
  why_asked (Err e) Why why = inr (record { name = name; asked = asked; holds = why })

-- ---- where nothing can be asked

abbrev pub IsOfFault : HostCheck → HostRefusal → Type 0
IsOfFault login r = (f : HostFault) × IsHostFault login.host login.port f × IsRefusalForHost f r

pub none_asked : (login : HostCheck) (Holds : HostCheck → Type 0) (r : HostRefusal) → IsOfFault login r → r ≢ refusal.Memory → OfAsked login Holds → ⊥
none_asked login Holds r (f, fault, inl memory) other of = other memory.1
none_asked login Holds r (f, fault, inr is) other of = no_fault login.host login.port of.name f is.0 fault of.asked

pub needs_name : (login : HostCheck) (none : Bool) (lines : List (List ℕ)) (r : HostRefusal) → IsOfFault login r → r ≡ refusal.Memory → (is_like_address login.host ≡ true) ⊎ (0 < length lines) ⊎ (none ≡ false)
needs_name login none lines r (f, fault, inl memory) = λ ran_out. inl (subst (IsHostFault login.host login.port) memory.0 fault)
needs_name login none lines r (f, fault, inr is) = λ ran_out. cc (sym ran_out ∙ is.1)

-- What is said of a host, by its name at the port or by its plain name, and what is answered.

module _ (Says : List ℕ → Verdict → Type 0) (host : List ℕ) (port : ℕ) where
  at_standard : (v : Verdict) → port ≡ standard_port → Says (known_name host port) v → IsSaid Says host port v
  at_standard Unknown e s = inr (s, subst (λ (p : ℕ). Says (known_name host p) Unknown) e s)
  at_standard v e s = inl ((λ u. cc u), s)

  pub settled : (v : Verdict) → IsSettled v port → Says (known_name host port) v → IsSaid Says host port v
  settled v (inl e) s = at_standard v e s
  settled v (inr some) s = inl (some, s)

  module _ (one : (name : List ℕ) (v w : Verdict) → Says name v → Says name w → v ≡ w) where
    pub one_said : (v w : Verdict) → IsSaid Says host port v → IsSaid Says host port w → v ≡ w
    one_said v w (inl s) (inl t) = one _ v w s.1 t.1
    one_said v w (inl s) (inr t) = absurd (s.0 (one _ v Unknown s.1 t.0))
    one_said v w (inr s) (inl t) = absurd (t.0 (one _ w Unknown t.1 s.0))
    one_said v w (inr s) (inr t) = one _ v w s.1 t.1

-- ---- what is answered

-- what follows from one thing, where the other is the same
pub as_much : {P Q : Type 0} (r : Result (Unit {0}) HostRefusal) → (P → Q) → (Q → P) → OkExactly P r → OkExactly Q r
as_much (Ok u) to from holds = to holds
as_much (Err e) to from none = λ other q. none other (from q)

-- and of a host that is known
pub known_as : (P Q : KnownBy → Type 0) (r : Result KnownBy HostRefusal) → ((by : KnownBy) → P by → Q by) → ((by : KnownBy) → Q by → P by) → KnownExactly P r → KnownExactly Q r
known_as P Q (Ok by) to from holds = to by holds
known_as P Q (Err e) to from none = λ other by q. none other by (from by q)

module _ {E F : Type 0} (Said : Verdict → Type 0) (revoked : Bool) where
  -- only what is trusted and not revoked is accepted
  pub exactly : ((v w : Verdict) → Said v → Said w → v ≡ w) → (asked : Result Bool E) (says : Result Verdict F) → IfOk asked (λ yes. yes ≡ revoked) → IfOk says Said → OkExactly ((revoked ≡ false) × Said Trusted) (answer_of asked says)
  exactly one (Ok true) says is said = λ other holds. cc (is ∙ holds.0)
  exactly one (Ok false) (Ok Trusted) is said = (sym is, said)
  exactly one (Ok false) (Ok v) is said = λ other holds. cc (one v Trusted said holds.1)
  exactly one (Ok false) (Err e) is said = λ other. absurd (other refl)
  exactly one (Err e) says is said = λ other. absurd (other refl)

  module _ (accepted : Bool) (Bad : HostRefusal → Type 0) where
    pub why : (asked : Result Bool E) (says : Result Verdict F) → IfOk asked (λ yes. yes ≡ revoked) → IfOk says Said → IfErr (answer_of asked says) (IsWhy Said revoked accepted Bad)
    why (Ok true) says is said = inl (sym is)
    why (Ok false) (Ok Trusted) is said = tt
    why (Ok false) (Ok Revoked) is said = inr said
    why (Ok false) (Ok v) is said = (sym is, said)
    why (Ok false) (Err e) is said = tt
    why (Err e) says is said = tt

-- memory was refused for the lines, or by who says what is revoked
pub asks_of : {E F : Type 0} (Reads : Type 0) (none : Bool) (lines : List (List ℕ)) (asked : Result Bool E) (says : Result Verdict F) → IfErr asked (λ e. none ≡ false) → IfErr says (λ e. 0 < length lines) → AsksOf Reads none lines (answer_of asked says)
asks_of Reads none lines (Ok true) says a s = λ m. cc m
asks_of Reads none lines (Ok false) (Ok Trusted) a s = tt
asks_of Reads none lines (Ok false) (Ok v) a s = λ m. cc m
asks_of Reads none lines (Ok false) (Err e) a s = λ m. inr (inl s)
asks_of Reads none lines (Err e) says a s = λ m. inr (inr a)

-- for what is wrong with the certificate
module _ (Said : Verdict → Type 0) (revoked accepted : Bool) (accepts : Question → Bool) (t : ℕ) (host : List ℕ) (c : Certificate) (good : (revoked ≡ false) × Said Trusted) (let_in : IsTrue accepted) where
  why_refused : (r : HostRefusal) → (r ≢ refusal.Memory → IsBadFor accepts t host c r) → IsWhy Said revoked accepted (IsBadFor accepts t host c) r
  why_refused refusal.Memory bad = tt
  why_refused (refusal.Certificate e) bad = (good.0, good.1, let_in, bad (λ same. cc same))
  why_refused (refusal.Invalid first) bad = (good.0, good.1, let_in, bad (λ same. cc same))
  why_refused refusal.Revoked bad = absurd (bad (λ same. cc same))
  why_refused refusal.Unreadable bad = absurd (bad (λ same. cc same))
  why_refused refusal.Changed bad = absurd (bad (λ same. cc same))
  why_refused refusal.Unknown bad = absurd (bad (λ same. cc same))
  why_refused refusal.UnacceptedKey bad = absurd (bad (λ same. cc same))
  why_refused refusal.NotNormalForm bad = absurd (bad (λ same. cc same))
  why_refused (refusal.Host f) bad = absurd (bad (λ same. cc same))

  pub why_bad : (r : Result (Unit {0}) HostRefusal) → IfErr r (λ x. x ≢ refusal.Memory → IsBadFor accepts t host c x) → IfErr r (IsWhy Said revoked accepted (IsBadFor accepts t host c))
  why_bad (Ok u) bad = tt
  why_bad (Err r) bad = why_refused r bad

-- a refusal for something else than memory is for an error that is no lack of memory
pub other_of : (e : Error) (r : HostRefusal) → IsRefusalFor e r → r ≢ refusal.Memory → e ≢ Memory
other_of e r (inl ran_out) other = absurd (other ran_out.1)
other_of e r (inr is) other = is.0

-- who needs memory for less needs it for more
pub asks_more : {X : Type 0} (P Q : Type 0) → (P → Q) → (none : Bool) (lines : List (List ℕ)) (r : Result X HostRefusal) → AsksOf P none lines r → AsksOf Q none lines r
asks_more P Q to none lines (Ok u) asks = tt
asks_more P Q to none lines (Err e) asks = λ memory. elim (asks memory) [ inl p ↦ inl (to p) | inr rest ↦ inr rest ]

-- What is said of a key and of the key that signed it.

module _ (hmac : List ℕ → List ℕ → List ℕ) (name : List ℕ) (lines : List (List ℕ)) where
  pub revoked : (k : Key) (v : Verdict) → v ≡ Revoked → IsVerdict hmac name k lines v → IsRevoked hmac name k lines
  revoked k v e s = subst (IsVerdict hmac name k lines) e s

  not_revoked : (k : Key) (v : Verdict) → (v ≡ Revoked → ⊥) → IsVerdict hmac name k lines v → IsRevoked hmac name k lines → ⊥
  not_revoked k Revoked other s = absurd (other refl)
  not_revoked k Unreadable other s = s.0
  not_revoked k Trusted other s = s.0
  not_revoked k Changed other s = s.0
  not_revoked k Unknown other s = s.0

  none_hidden : (k : Key) (v : Verdict) → (v ≡ Revoked → ⊥) → (v ≡ Unreadable → ⊥) → IsVerdict hmac name k lines v → HidesSome hmac name lines → ⊥
  none_hidden k Revoked other read s = absurd (other refl)
  none_hidden k Unreadable other read s = absurd (read refl)
  none_hidden k Trusted other read s = s.1
  none_hidden k Changed other read s = s.1
  none_hidden k Unknown other read s = s.1

  module _ (k signer : Key) (v w : Verdict) (not_own : v ≡ Revoked → ⊥) (not_signer : w ≡ Revoked → ⊥) (own : IsVerdict hmac name k lines v) (by : IsVerdict hmac name signer lines w) where
    neither : IsEitherRevoked hmac name k signer lines → ⊥
    neither (inl r) = not_revoked k v not_own own r
    neither (inr r) = not_revoked signer w not_signer by r

    pub unreadable : v ≡ Unreadable → IsVerdictOfSigned hmac name k signer lines Unreadable
    unreadable e = (neither, (subst (IsVerdict hmac name k lines) e own).1)

    module _ (read : v ≡ Unreadable → ⊥) where
      pub unknown : (IsAuthority hmac name signer lines → ⊥) → IsVerdictOfSigned hmac name k signer lines Unknown
      unknown none = (neither, none_hidden k v not_own read own, none)

      pub trusted : IsAuthority hmac name signer lines → IsVerdictOfSigned hmac name k signer lines Trusted
      trusted authority = (neither, none_hidden k v not_own read own, authority)

  module _ (k signer : Key) where
    pub one_verdict : (v w : Verdict) → IsVerdictOfSigned hmac name k signer lines v → IsVerdictOfSigned hmac name k signer lines w → v ≡ w
    one_verdict Revoked Revoked a b = refl
    one_verdict Changed w a b = absurd a
    one_verdict v Changed a b = absurd b
    one_verdict Revoked w a b = absurd (b.0 a)
    one_verdict v Revoked a b = absurd (a.0 b)
    one_verdict Unreadable Unreadable a b = refl
    one_verdict Unreadable w a b = absurd (b.1 a.1)
    one_verdict v Unreadable a b = absurd (a.1 b.1)
    one_verdict Trusted Trusted a b = refl
    one_verdict Trusted Unknown a b = absurd (b.2 a.2)
    one_verdict Unknown Trusted a b = absurd (a.2 b.2)
    one_verdict Unknown Unknown a b = refl

-- ---- what is answered of a certificate

module _ {E F : Type 0} (hmac : List ℕ → List ℕ → List ℕ) (host : List ℕ) (port : ℕ) (c : Certificate) (lines : List (List ℕ)) (revoked : Bool) (asked : Result Bool E) (says : Result Verdict F) (k signer : Key) (own : k ≡ c.signed.key) (by : signer ≡ c.signed.signature_key) (is : IfOk asked (λ yes. yes ≡ revoked)) (said : IfOk says (IsSaidOfSigned hmac host port k signer lines)) (r : Result (Unit {0}) HostRefusal) (was : answer_of asked says ≡ r) where
  abbrev Said : Verdict → Type 0
  Said = IsSaidOfSigned hmac host port c.signed.key c.signed.signature_key lines

  said_of_both : IfOk says Said
  said_of_both = subst (λ (s : Key). IfOk says (IsSaidOfSigned hmac host port c.signed.key s lines)) by (subst (λ (x : Key). IfOk says (IsSaidOfSigned hmac host port x signer lines)) own said)

  pub judged : OkExactly ((revoked ≡ false) × IsSaidOfSigned hmac host port c.signed.key c.signed.signature_key lines Trusted) r
  judged =
      let one = one_said (λ (name : List ℕ). IsVerdictOfSigned hmac name c.signed.key c.signed.signature_key lines) host port (λ name. one_verdict hmac name lines c.signed.key c.signed.signature_key) in
      subst (OkExactly ((revoked ≡ false) × Said Trusted)) was (exactly Said revoked one asked says is said_of_both)

  pub why_judged : (accepted : Bool) (Bad : HostRefusal → Type 0) → IfErr r (IsWhy (IsSaidOfSigned hmac host port c.signed.key c.signed.signature_key lines) revoked accepted Bad)
  why_judged accepted Bad = subst (λ (x : Result (Unit {0}) HostRefusal). IfErr x (IsWhy Said revoked accepted Bad)) was (why Said revoked accepted Bad asked says is said_of_both)
