-- What is read of an input whose bytes are known.
use Rattle.std.specs.Prelude.{◌≡◌, ◌⊎◌, ℕ, List, Option, IfSome, Result, Ok, Err, String, string_bytes}
use Rattle.std.specs.Io.KnownBytes.{Consumes}
use Rattle.std.specs.Str.{IsUtf8}
use Rattle.sshkey_base.specs.Causes.{IsMachineFault}
use Rattle.sshkey_base.specs.declared.encoding.Error.TheVariants.{CharacterEncoding}
use Rattle.sshkey_base.specs.declared.error.Error.{Error}
use Rattle.sshkey_base.specs.declared.error.Error.TheVariants.{Encoding}

-- Some of the bytes were passed, from the front on, and the others are left.
abbrev pub IsPassed : Option (List ℕ) → Option (List ℕ) → Type 0
IsPassed old new = (passed : List ℕ) × Consumes old new passed

-- The bytes are no text.
abbrev pub IsNoText : Option (List ℕ) → Type 0
IsNoText known = IfSome known (λ bytes. IsUtf8 bytes → ⊥)

-- The text is all that the input has left; or that is no text, and `CharacterEncoding`; or the
-- machine failed.
abbrev pub ReadsText : {Z : Type 0} → Option (List ℕ) → Result (String Z) Error → Type 0
ReadsText known (Ok s) = IfSome known (λ bytes. string_bytes s ≡ bytes)
ReadsText known (Err e) = IsMachineFault e ⊎ ((e ≡ Encoding CharacterEncoding) × IsNoText known)

-- The text is all that the file has left; or the machine failed, or that is no text.
abbrev pub ReadsFileText : {Z : Type 0} → Option (List ℕ) → Result (String Z) Error → Type 0
ReadsFileText known (Ok s) = IfSome known (λ bytes. string_bytes s ≡ bytes)
ReadsFileText known (Err e) = IsMachineFault e
