use Rattle.std.proofs.Common.{◌≡◌, ◌∙◌, List, eq-eqb, lit<, subst, sym, true, ℕ}
use Rattle.sshkey_entries.specs.KnownHosts.{comma}
use Rattle.sshkey_entries.specs.OptionItems.{MaySay, Says}
use Rattle.sshkey_entries.specs.Answers.{Tells}
use Rattle.sshkey_entries.specs.declared.reading.Reading.{Reading}
use Rattle.allowed_signers.specs.AllowedSigners.{AddsOption, AreTimesInOrder, Terms, no_terms, terms_of}
use Rattle.allowed_signers.specs.declared.options.SignerOptions.{SignerOptions}
use Rattle.allowed_signers.proofs.options.SignerOptions.read.Goals as goal

abbrev Told : List ℕ → Terms → Reading SignerOptions → Type 0
Told text s r = Tells terms_of (Says AddsOption s text) (MaySay AddsOption (λ _ _. ⊥) s text) r

-- what is read is read of nothing said
told : (options : List ℕ) (s : Terms) (r q : Reading SignerOptions) → s ≡ no_terms → r ≡ q → Told options s r → Told options no_terms q
told options s r q none e read = subst (λ (x : Reading SignerOptions). Told options no_terms x) e (subst (λ (u : Terms). Told options u r) none read)

pub returns-then-not-are_in_order : goal.returns-then-not-are_in_order
returns-then-not-are_in_order c = λ y are.
    let read = told c.args.options.now (terms_of c.none.result) c.in_ok-said.field-0 _ c.none.ensures c.in-Is.is c.in_ok-said.ensures in
    let yes : c.are_in_order.result ≡ true = c.are_in_order.ensures.1 (subst AreTimesInOrder (read.1 y are.say) are.in_order) in
    absurd cc

pub returns-else-not-are_in_order : goal.returns-else-not-are_in_order
returns-else-not-are_in_order c =
    let read = told c.args.options.now (terms_of c.none.result) c.in_ok-said.field-0 _ c.none.ensures c.in-Is.is c.in_ok-said.ensures in
    let last = c.ends_with.ensures.byte (lit< tt) (lit< tt) (λ w o h. h) in (
      record {
        say = read.0;
        no_comma = λ e. cc (sym c.if-ends_with.false ∙ last ∙ eq-eqb _ comma e);
        in_order = c.are_in_order.ensures.0 c.if-not-are_in_order.false;
      },
      λ y are. read.1 y are.say,
    )

pub returns-in-Rejected : goal.returns-in-Rejected
returns-in-Rejected c = λ y are.
    let read = told c.args.options.now (terms_of c.none.result) c.in_ok-said.field-0 _ c.none.ensures c.in-Rejected.is c.in_ok-said.ensures in
    read.0 y are.say

pub returns-in-Unclear : goal.returns-in-Unclear
returns-in-Unclear c = λ y are.
    let read = told c.args.options.now (terms_of c.none.result) c.in_ok-said.field-0 _ c.none.ensures c.in-Unclear.is c.in_ok-said.ensures in
    read.0 y are.say
