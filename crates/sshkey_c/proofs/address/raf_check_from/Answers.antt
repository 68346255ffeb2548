use Rattle.std.proofs.Common.{ℕ, List, inl, inr, refl, subst}
use Rattle.sshkey_entry_calls.specs.Addresses.{TellsFromAt}
use Rattle.sshkey_c.proofs.address.raf_check_from.Goals as goal

pub returns-in_default-from_utf8 : goal.returns-in_default-from_utf8
returns-in_default-from_utf8 c = inr (c.in-Some.address, c.in-Some.ensures, inl (refl, λ t. c.in_default-from_utf8.ensures.cases.0 t.0))

pub returns-in_default-from_utf8-2 : goal.returns-in_default-from_utf8-2
returns-in_default-from_utf8-2 c = inr (c.in-Some.address, c.in-Some.ensures, inl (refl, λ t. c.in_default-from_utf8-2.ensures.cases.0 t.1))

pub returns : goal.returns
returns c = inr (
  c.in-Some.address,
  c.in-Some.ensures,
  inr (
    (c.in-Ok.ensures.cases.1, c.in-Ok-from_utf8.ensures.cases.1),
    subst (λ (t : List ℕ). TellsFromAt t c.args.host.now c.in-Some.address c.from_texts.result) c.in-Ok.ensures.cases.0
        (subst (λ (h : List ℕ). TellsFromAt c.in-Ok.list.now h c.in-Some.address c.from_texts.result) c.in-Ok-from_utf8.ensures.cases.0 c.from_texts.ensures),
  ),
)
