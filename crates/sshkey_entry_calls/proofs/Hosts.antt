-- What is told where nothing can be asked about a host.
use Rattle.std.proofs.Common.{◌≡◌, ℕ, true, List, ◌≢◌, Bool, Result, Ok, Err, IfErr, inl, inr, refl, ap, subst, sym, ◌⊎◌, ◌∙◌}
use Rattle.sshkey_matching.specs.AskedHosts.{IsHostFault}
use Rattle.sshkey_matching.specs.FromLists.{is_like_address}
use Rattle.sshkey_matching.specs.declared.host.HostFault.{HostFault}
use Rattle.sshkey_matching.specs.declared.host.HostFault.TheVariants.{Address, Empty, Memory, Port}
use Rattle.sshkey_entry_calls.specs.Hosts.{host_fault_status, IsJudged, IsJudgedBy, TellsKnown, answer_status, host_status, JudgesCertificate, TellsKey, login_with}
use Rattle.host_keys.specs.Answers.{KnownExactly, OkExactly}
use Rattle.host_keys.specs.declared.known_by.KnownBy.{KnownBy}
use Rattle.host_keys.specs.declared.refusal.HostRefusal.{HostRefusal}
use Rattle.host_keys.specs.declared.refusal.HostRefusal.TheVariants as refusal
use Rattle.host_keys.specs.Hosts.{SayTheSame}
use Rattle.host_keys.proofs.SameAnswers.{certificate_refused, host_from, host_key_from, host_key_to, host_to, key_refused}
use Rattle.sshkey_entry_calls.specs.Revocations.{one_revokes, one_revokes_key}
use Rattle.sshkey_model.specs.Keys.{Key}
use Rattle.sshkey_model.specs.Verification.{Question}
use Rattle.sshkey_entry_calls.specs.declared.host_request.HostRequest as code

pub needs_memory : (host : List ℕ) (port : ℕ) (f : HostFault) → IsHostFault host port f → host_fault_status f ≡ 1 → is_like_address host ≡ true
needs_memory host port Port fault e = absurd (cc e)
needs_memory host port Empty fault e = absurd (cc e)
needs_memory host port Address fault e = absurd (cc e)
needs_memory host port Memory fault e = fault

-- From what is answered of a host to its number.

is_memory : (r : HostRefusal) → (r ≡ refusal.Memory) ⊎ (r ≢ refusal.Memory)
is_memory refusal.Memory = inl refl
is_memory refusal.Revoked = inr (λ same. cc same)
is_memory refusal.Unreadable = inr (λ same. cc same)
is_memory refusal.Changed = inr (λ same. cc same)
is_memory refusal.Unknown = inr (λ same. cc same)
is_memory refusal.UnacceptedKey = inr (λ same. cc same)
is_memory refusal.NotNormalForm = inr (λ same. cc same)
is_memory (refusal.Host f) = inr (λ same. cc same)
is_memory (refusal.Certificate e) = inr (λ same. cc same)
is_memory (refusal.Invalid first) = inr (λ same. cc same)

module _ (Holds : Type 0) (IsWhy : HostRefusal → Type 0) (are_read : Bool) where
  refused : (r : HostRefusal) → (r ≡ refusal.Memory) ⊎ (r ≢ refusal.Memory) → host_status are_read r ≢ 0 → (r ≢ refusal.Memory → Holds → ⊥) → (r ≢ refusal.Memory → IsWhy r) → IsJudged Holds IsWhy are_read (host_status are_read r)
  refused r (inl memory) some none why = record {
    says = record { yes_ = λ zero_. absurd (some zero_); no_ = λ _ other. absurd (other (ap (host_status are_read) memory)) };
    first = λ _ other. absurd (other (ap (host_status are_read) memory));
  }
  refused r (inr other) some none why = record {
    says = record { yes_ = λ zero_. absurd (some zero_); no_ = λ _ _. none other };
    first = λ _ _. (r, why other, refl);
  }

  pub judged : (answer : Result (Unit {0}) HostRefusal) → IfErr answer (λ r. answer_status are_read answer ≢ 0) → OkExactly Holds answer → IfErr answer (λ r. r ≢ refusal.Memory → IsWhy r) → IsJudged Holds IsWhy are_read (answer_status are_read answer)
  judged (Ok x) some holds why = record {
    says = record { yes_ = λ _. holds; no_ = λ not_zero. absurd (not_zero refl) };
    first = λ not_zero. absurd (not_zero refl);
  }
  judged (Err r) some none why = refused r (is_memory r) some none why

  pub judged_as : (answer : Result (Unit {0}) HostRefusal) (n : ℕ) (b : Bool) → n ≡ answer_status b answer → b ≡ are_read → IfErr answer (λ r. n ≢ 0) → OkExactly Holds answer → IfErr answer (λ r. r ≢ refusal.Memory → IsWhy r) → IsJudged Holds IsWhy are_read n
  judged_as answer n b number same some exactly why =
      let is : n ≡ answer_status are_read answer = number ∙ ap (λ (x : Bool). answer_status x answer) same in
      subst (IsJudged Holds IsWhy are_read) (sym is) (judged answer (subst (λ (x : ℕ). IfErr answer (λ r. x ≢ 0)) is some) exactly why)

-- what holds anyway holds for something else than memory
pub for_others : (IsWhy : HostRefusal → Type 0) (answer : Result (Unit {0}) HostRefusal) → IfErr answer IsWhy → IfErr answer (λ r. r ≢ refusal.Memory → IsWhy r)
for_others IsWhy (Ok x) why = tt
for_others IsWhy (Err r) why = λ _. why

-- ---- and by what

module _ (Holds : KnownBy → Type 0) (IsWhy : HostRefusal → Type 0) (are_read : Bool) where
  known : (by n : ℕ) (answer : Result KnownBy HostRefusal) → IfErr answer (λ r. n ≢ 0) → TellsKnown are_read answer by n → KnownExactly Holds answer → IfErr answer (λ r. r ≢ refusal.Memory → IsWhy r) → IsJudgedBy Holds IsWhy are_read by n
  known by n (Ok k) some tells holds why = record {
    yes_ = λ _. (k, holds, tells.1);
    no_ = λ not_zero. absurd (not_zero tells.0);
    first = λ not_zero. absurd (not_zero tells.0);
  }
  known by n (Err r) some tells none why =
      let live : n ≢ 1 → r ≢ refusal.Memory = λ other memory. other (tells.0 ∙ ap (host_status are_read) memory) in
      record {
        yes_ = λ zero_. absurd (some zero_);
        no_ = λ _ other. none (live other);
        first = λ _ other. (r, why (live other), tells.0);
      }

  pub known_as : (by n : ℕ) (answer : Result KnownBy HostRefusal) (b : Bool) → TellsKnown b answer by n → b ≡ are_read → IfErr answer (λ r. n ≢ 0) → KnownExactly Holds answer → IfErr answer (λ r. r ≢ refusal.Memory → IsWhy r) → IsJudgedBy Holds IsWhy are_read by n
  known_as by n answer b tells same some = known by n answer some (subst (λ (x : Bool). TellsKnown x answer by n) same tells)

-- What is told of a host by other lines that say the same of it.

module _ (l : code.HostRequest) (lines others : List (List ℕ)) (same : SayTheSame (login_with l lines) others) where
  pub key_there : (k : Key) (n : ℕ) → TellsKey l others k n → TellsKey l lines k n
  key_there k n tells not_memory =
      let t = tells not_memory in
      let login = login_with l lines in
      let revokes = one_revokes_key t.0 in (
        t.0,
        t.1,
        record {
          says = record {
            yes_ = λ zero_. host_key_from login others same revokes k (t.2.says.yes_ zero_);
            no_ = λ some other holds. t.2.says.no_ some other (host_key_to login others same revokes k holds);
          };
          first = λ some other.
              let w = t.2.first some other in
              (w.0, key_refused login others same revokes k w.0 w.1, w.2);
        },
      )

  pub certificate_there : (accepts : Question → Bool) (bytes : List ℕ) (by n : ℕ) → JudgesCertificate l others accepts bytes by n → JudgesCertificate l lines accepts bytes by n
  certificate_there accepts bytes by n judges not_memory =
      let t = judges not_memory in
      let login = login_with l lines in
      let revokes = one_revokes t.0 in
      let revokes_key = one_revokes_key t.0 in (
        t.0,
        t.1,
        record {
          yes_ = λ zero_.
              let k = t.2.yes_ zero_ in
              (k.0, host_from login others same accepts revokes revokes_key bytes k.0 k.1, k.2);
          no_ = λ some other known holds. t.2.no_ some other known (host_to login others same accepts revokes revokes_key bytes known holds);
          first = λ some other.
              let w = t.2.first some other in
              (w.0, certificate_refused login others same accepts revokes revokes_key bytes w.0 w.1, w.2);
        },
      )
