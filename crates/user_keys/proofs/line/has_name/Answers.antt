use Rattle.std.proofs.Common.{◌∙◌, inl, refl, sym}
use Rattle.sshkey_keys.specs.Keys.{key_of}
use Rattle.user_keys.proofs.Lines.{behind, nowhere}
use Rattle.user_keys.proofs.line.has_name.Goals as goal

pub returns-then-begins_with_name : goal.returns-then-begins_with_name
returns-then-begins_with_name c = (λ yes. inl (c.begins_with_name.ensures.0 c.if-begins_with_name.true), λ has. refl)

pub returns-in-Some : goal.returns-in-Some
returns-in-Some c =
    let is = behind (key_of c.args.key.now) c.args.text.now (λ begins. cc (sym c.if-begins_with_name.false ∙ c.begins_with_name.ensures.1 begins)) c.in-Some.field-0-0.now c.in-Some.rest.now c.skip_blanks.result.now c.in-Some.ensures.0 c.in-Some.ensures.1 c.skip_blanks.ensures in (
      λ yes. is.0 (c.begins_with_name-in-Some.ensures.0 yes),
      λ has. c.begins_with_name-in-Some.ensures.1 (is.1 has),
    )

pub returns-in-None : goal.returns-in-None
returns-in-None c = (λ no. absurd cc, λ has. absurd (nowhere (key_of c.args.key.now) c.args.text.now (λ begins. cc (sym c.if-begins_with_name.false ∙ c.begins_with_name.ensures.1 begins)) c.in-None.ensures has))
