use Rattle.std.proofs.Common.{◌≡◌, true, inl, inr, sym, ap, subst, ◌∙◌, rules}
use Rattle.std.proofs.NetLemmas.Theorems.{IsIpText_unique}
use Rattle.sshkey_matching.specs.AskedHosts.{HasOneText}
use Rattle.sshkey_matching.specs.FromLists.{is_like_address}
use Rattle.sshkey_matching.proofs.host.asked_host.Goals as goal

pub returns-then-not-has_one_text : goal.returns-then-not-has_one_text
returns-then-not-has_one_text c =
    let like : is_like_address c.args.host.now ≡ true = sym (ap is_like_address c.as_bytes.ensures.value) ∙ sym c.is_like_address.ensures ∙ c.if-not-is_like_address.false in (
      c.if-port-eq0.false,
      search rules,
      λ name asked. elim asked [
        | inl plain ↦ cc (sym like ∙ plain.0)
        | inr text ↦ cc (sym c.if-not-has_one_text.true ∙ c.has_one_text.ensures.1 (subst HasOneText (IsIpText_unique c.args.host.now text.1.address c.in-Ok.address text.1.written c.in-Ok.ensures.value) text.1.one))
      ],
    )
