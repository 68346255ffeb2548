-- How the parts of a section about certificates are spelled (PROTOCOL.krl).
use Rattle.std.specs.List.{list_any}
use Rattle.std.specs.Prelude.{ℕ, List, Result, Ok, Err, ◌==◌, if◌then◌else◌}
use Rattle.sshkey_model.specs.Formats.{Format}
use Rattle.sshkey_model.specs.Leaves.{byte_format, number64_format, string_format}
use Rattle.sshkey_model.specs.Reading.{Fault, FormatEncoding, ◌>>=◌}
use Rattle.sshkey_model.specs.Terms.{◌then◌, boxed, called, tested}
use Rattle.sshkey_model.specs.ToEnd.{values_to_end}
use Rattle.sshkey_krl.specs.Revocation.{KeyIds, Numbers, Part, without_zero, Listed, bitmap_from, range_from, serial_from}
use Rattle.sshkey_krl.specs.declared.part.PartKind.{PartKind}
use Rattle.sshkey_krl.specs.declared.part.PartKind.TheVariants as kinds

-- ---- a value that its number calls for, in a string

abbrev pub numbered : {K A : Type 0} → (ℕ → Result K Fault) → (K → Format A) → Format A
numbered kind_from body = called (tested kind_from byte_format) (λ k. boxed (body k))

-- ---- a text, which a zero byte may follow

abbrev pub text_from : List ℕ → Result (List ℕ) Fault
text_from b = let text = without_zero b in if list_any (λ c. c == 0) text then Err FormatEncoding else Ok text

-- ---- what a part is made of

abbrev pub serial_format : Format ℕ
serial_format = tested serial_from number64_format

abbrev pub key_id_format : Format (List ℕ)
key_id_format = tested text_from string_format

-- ---- a part

abbrev pub kind_from : ℕ → Result PartKind Fault
kind_from n =
    if n == 0x20 then Ok kinds.Serials
    else if n == 0x21 then Ok kinds.Range
    else if n == 0x22 then Ok kinds.Bitmap
    else if n == 0x23 then Ok kinds.KeyIds
    else Err FormatEncoding

abbrev pub body : PartKind → Format Part
body kinds.Serials = tested (λ ns. Ok (Numbers (Listed ns))) (values_to_end serial_format)
body kinds.Range = tested (λ r. range_from r >>= λ s. Ok (Numbers s)) (number64_format then number64_format)
body kinds.Bitmap = tested (λ b. bitmap_from b >>= λ s. Ok (Numbers s)) (number64_format then string_format)
body kinds.KeyIds = tested (λ ids. Ok (KeyIds ids)) (values_to_end key_id_format)

abbrev pub part_format : Format Part
part_format = numbered kind_from body
