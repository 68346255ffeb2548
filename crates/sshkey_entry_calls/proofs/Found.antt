-- Entries that stand in the room.
use Rattle.std.proofs.Common.{◌≡◌, ◌≢◌, ℕ, List, refl, subst}
use Rattle.sshkey_base.specs.Causes.{NoMemory, cause}
use Rattle.sshkey_base.specs.declared.error.Error.{Error}
use Rattle.sshkey_calls.specs.Numbers.{error_status}
use Rattle.sshkey_calls.specs.Rooms.{IsAtFront, LacksRoom}
use Rattle.sshkey_calls.proofs.Rooms.{none_given}
use Rattle.sshkey_public.specs.PublicKeys.{comment_of, public_of}
use Rattle.sshkey_public.specs.declared.public_key.PublicKey.{PublicKey}
use Rattle.sshkey_entry_calls.specs.Entries.{ArePlaced, EntryText, FindsEntry, TellsFault, content_of, entry_text}
use Rattle.sshkey_entry_calls.specs.declared.entries.EntryParts.{EntryParts}

-- The same of equal parts.
pub same_text : (f g : List ℕ) (k l : PublicKey) (m n : ℕ) (number : ℕ) (was answer : EntryParts) (before after : List ℕ) → f ≡ g → k ≡ l → m ≡ n → FindsEntry (λ x. x ≡ entry_text f (public_of k) (comment_of k) m) (λ x. x) number was answer before after → FindsEntry (λ x. x ≡ entry_text g (public_of l) (comment_of l) n) (λ x. x) number was answer before after
same_text f g k l m n number was answer before after front key marker = subst (λ (y : EntryText). FindsEntry (λ x. x ≡ y) (λ x. x) number was answer before after) (λ i. entry_text (front i) (public_of (key i)) (comment_of (key i)) (marker i))

-- It is that of the entry.
pub found_entry : {A : Type 0} (IsEntry : A → Type 0) (text_of : A → EntryText) (a : A) (n : ℕ) (was answer : EntryParts) (before after : List ℕ) → IsEntry a → FindsEntry (λ x. x ≡ text_of a) (λ x. x) n was answer before after → FindsEntry IsEntry text_of n was answer before after
found_entry IsEntry text_of a n was answer before after is found = record {
  given = λ zero_. let w = found.given zero_ in (a, is, subst (λ (x : EntryText). IsAtFront (content_of x) (ArePlaced x answer) before after) w.1 w.2);
  short = λ two. let w = found.short two in (a, is, subst (λ (x : EntryText). LacksRoom (content_of x) answer.length before after) w.1 w.2);
  none = λ not_zero not_one not_two _ _. found.none not_zero not_one not_two (text_of a) refl;
  stays = found.stays;
}

-- An entry that is there has no fault.
pub no_fault : {A : Type 0} (HasFault : List ℕ → Error → Type 0) (line : List ℕ) (text_of : A → EntryText) (a : A) (n : ℕ) (was answer : EntryParts) (before after : List ℕ) → FindsEntry (λ x. x ≡ a) text_of n was answer before after → TellsFault HasFault line n
no_fault HasFault line text_of a n was answer before after found not_zero not_one not_two = absurd (found.none not_zero not_one not_two a refl)

-- There is none.
pub none_found : {A : Type 0} (IsEntry : A → Type 0) (text_of : A → EntryText) (e : Error) (n : ℕ) (was answer : EntryParts) (before after : List ℕ) → (answer ≡ was) × (after ≡ before) → n ≢ 0 → n ≢ 2 → (cause e ≡ NoMemory → n ≡ 1) → (cause e ≢ NoMemory → (a : A) → IsEntry a → ⊥) → FindsEntry IsEntry text_of n was answer before after
none_found IsEntry text_of e n was answer before after same some apart memory none = none_given n was answer before after same some apart (λ not_one. none (λ is. not_one (memory is)))

pub told : (HasFault : List ℕ → Error → Type 0) (line : List ℕ) (e : Error) (n : ℕ) → (cause e ≡ NoMemory → n ≡ 1) → n ≡ error_status e → (cause e ≢ NoMemory → HasFault line e) → TellsFault HasFault line n
told HasFault line e n memory number fault _ not_one _ = (e, fault (λ is. not_one (memory is)), number)
