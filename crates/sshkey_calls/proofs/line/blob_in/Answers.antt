use Rattle.std.proofs.Common.{◌≡◌, List, ℕ, Result, Ok, ap, sym, ◌∙◌, refl, drop}
use Rattle.base64.specs.Engines.{standard}
use Rattle.base64.specs.GeneralPurpose.{decode_of, encode_of}
use Rattle.base64.specs.declared.decode.DecodeError.{DecodeError}
use Rattle.base64.proofs.EngineFacts.{decode_of-encode_of}
use Rattle.sshkey_model.proofs.Lines.{line_cut}
use Rattle.sshkey_calls.proofs.line.blob_in.Goals as goal

-- what follows nothing is all
after_nothing : (word blob added : List ℕ) (place : ℕ) → place ≡ 0 → word ≡ encode_of standard blob → decode_of standard (encode_of standard blob) ≡ Ok blob → decode_of standard word ≡ Ok (drop place added) → added ≡ blob
after_nothing word blob added place none is back read =
    let both : ◌≡◌ {A = Result (List ℕ) DecodeError} (Ok blob) (Ok (drop place added)) = sym back ∙ ap (decode_of standard) (sym is) ∙ read in
    let same : blob ≡ drop place added = cc both in
    sym (same ∙ rw none refl)

pub returns-in-Ok : goal.returns-in-Ok
returns-in-Ok c first blob comment line fits =
    let word = c.base64_word.ensures first (encode_of standard blob) comment (line_cut c.args.text.now first blob comment line) in
    after_nothing c.as_bytes-word.result.now blob c.decode_vec.new.buffer.items _ c.in_ok-blob.ensures.len (c.as_bytes-word.ensures.value ∙ word) (decode_of-encode_of standard blob refl fits) c.in-Ok.ensures.ok
