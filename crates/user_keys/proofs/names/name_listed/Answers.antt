use Rattle.std.proofs.Common.{◌≡◌, ◌∙◌, map, refl, string_bytes, sym, true, false}
use Rattle.user_keys.specs.Certificates.{is_listed}
use Rattle.user_keys.proofs.PrincipalLines.{mapped, of_bytes}
use Rattle.user_keys.proofs.names.name_listed.Goals as goal

pub returns-then-is_listed : goal.returns-then-is_listed
returns-then-is_listed c =
    let has : is_listed (map string_bytes c.args.listed.now) c.args.user.now ≡ true = sym (mapped c.args.user.now c.args.listed.now) ∙ of_bytes c.args.listed.now _ c.args.user.now (sym c.as_bytes.ensures.value) ∙ sym c.is_listed.ensures ∙ c.if-is_listed.true in
    rw (c.in-None.is, has) refl

pub returns-else-is_listed : goal.returns-else-is_listed
returns-else-is_listed c =
    let has : is_listed (map string_bytes c.args.listed.now) c.args.user.now ≡ false = sym (mapped c.args.user.now c.args.listed.now) ∙ of_bytes c.args.listed.now _ c.args.user.now (sym c.as_bytes.ensures.value) ∙ sym c.is_listed.ensures ∙ c.if-is_listed.false in
    rw (c.in-None.is, has) refl
