use Rattle.std.proofs.Common.{◌≡◌, ◌++◌, ◌<◌, ℕ, List, length, inl, inr, refl, sym, ap, ◌∙◌, arith, append-nil}
use Rattle.std.proofs.lemmas.Bool.{cases_lt}
use Rattle.std.proofs.lemmas.List.{length-append}
use Rattle.base64.specs.Engines.{standard_no_pad}
use Rattle.base64.specs.GeneralPurpose.{encode_of, encoded_size_of}
use Rattle.base64.proofs.RoundTrip.{length-encode_symbols}
use Rattle.sshkey_calls.proofs.key.print.Goals as goal

-- without padding, nothing follows the symbols
encoded_len : (b : List ℕ) → length (encode_of standard_no_pad b) ≡ encoded_size_of standard_no_pad (length b)
encoded_len b = ap length (append-nil _) ∙ length-encode_symbols _ b

pub returns-in_default-encode_slice : goal.returns-in_default-encode_slice
returns-in_default-encode_slice c =
    let cut = c.in-Some.ensures.cases in
    let rest = c.in-Some.rest.now in
    let digest = c.args.digest.now in
    let less : length rest < encoded_size_of standard_no_pad (length digest) = elim (cases_lt (length rest) (encoded_size_of standard_no_pad (length digest))) [
      | inl less ↦ less
      | inr fits ↦ absurd (cc (c.in_default-encode_slice.is, c.in_default-encode_slice.ensures.fits fits))
    ] in
    record {
      printed = λ zero_. absurd (omega (arith, zero_));
      short = λ _. (
        refl,
        ap (λ (l : List ℕ). c.in-Some.front.now ++ l) c.in_default-encode_slice.ensures.same ∙ sym cut.0,
        omega (arith, less, encoded_len digest, cut.1, ap length cut.0, length-append c.in-Some.front.now rest, length-append c.args.prefix.now (encode_of standard_no_pad digest)),
      );
    }
