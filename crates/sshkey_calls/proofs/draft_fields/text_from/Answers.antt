use Rattle.std.proofs.Common.{◌≡◌, arith, inr, rules}
use Rattle.std.proofs.lemmas.Str.{IsUtf8-from_is_utf8, is_utf8-from_IsUtf8}
use Rattle.sshkey_calls.proofs.DraftNumbers.{no_text, text_right}
use Rattle.sshkey_calls.proofs.draft_fields.text_from.Goals as goal

pub returns-in-Ok-from_str : goal.returns-in-Ok-from_str
returns-in-Ok-from_str c =
    let same : c.new.result ≡ c.args.bytes.now = search rules in
    let is = is_utf8-from_IsUtf8 c.args.bytes.now c.in-Ok.ensures.cases.1 in
    ((same, rw same is), text_right _ is)

pub returns-in-Err : goal.returns-in-Err
returns-in-Err c = inr (omega arith, no_text c.args.bytes.now (λ is. c.in-Err.ensures.cases.0 (IsUtf8-from_is_utf8 c.args.bytes.now is)))
