use Rattle.std.proofs.Common.{◌∙◌, ℕ, List, Bor, Option, ap, map, rules, string_bytes, sym}
use Rattle.sshkey_matching.specs.SourceAddresses.{pieces, pieces_of}
use Rattle.user_keys.specs.Certificates.{first_listed}
use Rattle.user_keys.proofs.PrincipalLines.{at_listed, at_other, mapped, of_bytes}
use Rattle.user_keys.proofs.names.first_listed.Goals as goal

pub returns-then-is_listed : goal.returns-then-is_listed
returns-then-is_listed c =
    let name = c.split_name.result.0.now in
    sym (c.names.invariant.0 ∙ at_listed (map string_bytes c.args.listed.now) name (pieces_of c.split_name.result.1) (pieces c.names.rest.now) c.split_name.ensures (sym c.is_empty.ensures ∙ c.if-is_empty.false) (sym (mapped name c.args.listed.now) ∙ of_bytes c.args.listed.now _ name (sym c.as_bytes.ensures.value) ∙ sym c.is_listed.ensures ∙ c.if-is_listed.true))

pub returns-in_default : goal.returns-in_default
returns-in_default c =
    let name = c.split_name.result.0.now in
    sym (c.names.invariant.0 ∙ at_other (map string_bytes c.args.listed.now) name (pieces_of c.split_name.result.1) (pieces c.names.rest.now) c.split_name.ensures (sym c.is_empty.ensures ∙ c.if-is_empty.false) (sym (mapped name c.args.listed.now) ∙ of_bytes c.args.listed.now _ name (sym c.as_bytes.ensures.value) ∙ sym c.is_listed.ensures ∙ c.if-is_listed.false) ∙ ap (λ (m : Option (Bor (List ℕ))). first_listed (map string_bytes c.args.listed.now) (pieces_of m)) c.in_default.is)

pub names-preserved : goal.names-preserved
names-preserved c =
    let name = c.split_name.result.0.now in (
      c.names.invariant.0 ∙ at_other (map string_bytes c.args.listed.now) name (pieces_of c.split_name.result.1) (pieces c.names.rest.now) c.split_name.ensures (sym c.is_empty.ensures ∙ c.if-is_empty.false) (sym (mapped name c.args.listed.now) ∙ of_bytes c.args.listed.now _ name (sym c.as_bytes.ensures.value) ∙ sym c.is_listed.ensures ∙ c.if-is_listed.false) ∙ ap (λ (m : Option (Bor (List ℕ))). first_listed (map string_bytes c.args.listed.now) (pieces_of m)) c.in-Some.is,
      search rules,
    )
