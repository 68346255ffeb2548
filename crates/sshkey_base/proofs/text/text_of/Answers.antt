use Rattle.std.proofs.Common.{◌≡◌, true, false, ℕ, refl, subst, sym, ap, ◌∙◌, Vec, Global}
use Rattle.std.proofs.lemmas.Str.{IsUtf8-string_bytes}
use Rattle.std.specs.Str.{IsUtf8}
use Rattle.sshkey_base.proofs.Utf8.{text_from-IsUtf8, text_from-not}
use Rattle.sshkey_base.proofs.text.text_of.Goals as goal

pub returns-in-Ok : goal.returns-in-Ok
returns-in-Ok c =
    let items : c.in-Ok.text.bytes.items ≡ c.args.bytes = ap (λ (v : Vec ℕ Global). v.items) c.in-Ok.ensures.ok ∙ c.into_vec.ensures in
    let utf8 : IsUtf8 c.args.bytes = subst IsUtf8 items (IsUtf8-string_bytes c.in-Ok.text) in
    rw (text_from-IsUtf8 c.args.bytes utf8) items

pub returns : goal.returns
returns c = rw (text_from-not c.args.bytes (λ utf8. let no : false ≡ true = c.in-Err.ensures.succeeds (subst IsUtf8 (sym c.into_vec.ensures) utf8) in cc no)) refl
