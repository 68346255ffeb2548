-- The steps of a reading that takes no memory.
use Rattle.std.proofs.Common.{◌≡◌, ℕ, List, IfErr, Result, Ok, Err, refl}
use denote.Ref.{Bor}
use Rattle.sshkey_model.specs.Parts.{flat}
use Rattle.sshkey_model.specs.Reading.{bytes_at}
use Rattle.sshkey_model.proofs.CombinedReaders.{bytes_reads}
use Rattle.sshkey_base.specs.declared.encoding.Error.{Error}
use Rattle.sshkey_base.specs.Causes.{encoding_cause}
use Rattle.sshkey_base.specs.Source.{Later, all_of}
use Rattle.sshkey_base.specs.Reading.{GivesAlways}
use Rattle.sshkey_base.proofs.Judging.{judged_always}
use Rattle.sshkey_base.proofs.Places.{later_none, later_then}
use Rattle.sshkey_base.proofs.Steps.{refuses_first, refuses_later}

-- bytes that were cut off a slice were passed, and where there are too few it stands where it stood
pub later_bytes : (n : ℕ) (s t : Bor (List ℕ)) (r : Result (Bor (List ℕ)) Error) → GivesAlways (λ b. b.now) encoding_cause (bytes_at n) (all_of s.now) r (all_of t.now) → IfErr r (λ _. t ≡ s) → Later (all_of s.now) (all_of t.now)
unfolding flat
later_bytes n s t (Ok b) h same = record { passed = b.now; left = ((bytes_reads n).takes s.now b.now t.now h.value).2; missing = refl; outer = refl }
later_bytes n s t (Err e) h same = rw same (later_none (all_of s.now))

pub ruleset walking = (refuses_first, refuses_later, judged_always, later_none, later_then)
