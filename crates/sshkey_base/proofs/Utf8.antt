-- What the test of UTF-8 answers.
use Rattle.std.proofs.Common.{◌≡◌, ℕ, List, Bool, true, false, Result, Ok, Err, refl}
use Rattle.std.specs.Str.{is_utf8, IsUtf8}
use Rattle.std.proofs.lemmas.Str.{IsUtf8-from_is_utf8, is_utf8-from_IsUtf8}
use Rattle.sshkey_model.specs.Reading.{Fault, CharacterEncoding}
use Rattle.sshkey_model.specs.Texts.{text_from}

pub text_from-IsUtf8 : (b : List ℕ) → IsUtf8 b → text_from b ≡ Ok b
text_from-IsUtf8 b is = let t = is_utf8-from_IsUtf8 b is in rw t refl

pub text_from-not : (b : List ℕ) → (IsUtf8 b → ⊥) → text_from b ≡ Err CharacterEncoding
text_from-not b none = go (is_utf8 b) refl
  where
    done : List ℕ → Result (List ℕ) Fault
    done x = Ok x

    go : (t : Bool) → is_utf8 b ≡ t → text_from b ≡ Err CharacterEncoding
    go true e = absurd (none (IsUtf8-from_is_utf8 b e))
    go false e = rw e refl
