-- A record that is read as a term: where its plain reader is the term's and then a test of the
-- parts, what a call says of the term it says of the record.
use Rattle.std.proofs.Common.{◌≡◌, ℕ, List, Result, Ok, Err, IsErrAnd, refl}
use Rattle.sshkey_model.specs.Reading.{Fault, Front}
use Rattle.sshkey_base.specs.Causes.{Cause}
use Rattle.sshkey_base.specs.Source.{Source}
use Rattle.sshkey_base.specs.Reading.{Reads, IsRefused, Gives}
use Rattle.sshkey_base.proofs.Steps.{refused_first}
use Rattle.sshkey_terms.proofs.Lawful.{IsMapped}
use Rattle.sshkey_terms.proofs.Stopping.{mapped_stopped, mapped_stops}

pub mapped_reads : {X Y Z W : Type 0} (parts : X → Y) (read : Front Y) (s t : Source) (x : X) (form : Y → Result Z Fault) (record_at : Front Z) (means : W → Z) (w : W) → Reads parts read s x t → IsMapped record_at form read → form (parts x) ≡ Ok (means w) → Reads means record_at s w t
mapped_reads parts read s t x form record_at means w h same is = record { value = rw (same.same s.left, h.value, is) refl; missing = h.missing; outer = h.outer }

pub mapped_refused : {Y Z : Type 0} (read : Front Y) (m : ℕ) (c : Cause) (b : List ℕ) (form : Y → Result Z Fault) (record_at : Front Z) → IsMapped record_at form read → IsRefused m c (read b) → IsRefused m c (record_at b)
mapped_refused read m c b form record_at same h = rw (same.same b) (refused_first m c (read b) _ h)

-- what `?` hands on
pub mapped_handed : {Y Z W E : Type 0} (read : Front Y) (s t : Source) (form : Y → Result Z Fault) (record_at : Front Z) (means : W → Z) (why : E → Cause) (r : Result W E) (e : E) → IsErrAnd r (λ x. x ≡ e) → IsMapped record_at form read → IsRefused s.missing (why e) (read s.left) → Gives means why record_at s r t
mapped_handed read s t form record_at means why (Ok w) e is same h = absurd is
mapped_handed read s t form record_at means why (Err x) e is same h = rw is (mapped_refused read s.missing (why e) s.left form record_at same h)

pub ruleset mapped = (mapped_reads, mapped_refused, mapped_handed, mapped_stopped, mapped_stops)
