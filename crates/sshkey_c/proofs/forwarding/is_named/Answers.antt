use Rattle.std.proofs.Common.{◌≡◌, ◌∙◌, length, ap, refl, subst, sym}
use Rattle.std.proofs.lemmas.Bool.Decides.{Decides-eqb}
use Rattle.std.specs.List.{Any}
use Rattle.sshkey_c.specs.Grants.{IsFor, permit_strings}
use Rattle.sshkey_c.proofs.Places.{here, later, next, no_bytes, not_here, nowhere}
use Rattle.sshkey_c.proofs.forwarding.is_named.Goals as goal

pub returns-in_default : goal.returns-in_default
returns-in_default c = λ places each is.
    let so_far = c.places.invariant places each is in
    let n = next (IsFor c.args.way c.args.host.now c.args.port) places c.places.rest.now so_far.0 so_far.1 so_far.2 so_far.3 (λ e. cc (sym c.places-test.true ∙ c.is_empty.ensures ∙ (Decides-eqb (length c.places.rest.now) 0).1 e)) in
    absurd (c.in_default.ensures.place n.first (permit_strings n.more) n.is n.bytes)

pub returns-then-stands_for : goal.returns-then-stands_for
returns-then-stands_for c = λ places each is.
    let so_far = c.places.invariant places each is in
    let n = next (IsFor c.args.way c.args.host.now c.args.port) places c.places.rest.now so_far.0 so_far.1 so_far.2 so_far.3 (λ e. cc (sym c.places-test.true ∙ c.is_empty.ensures ∙ (Decides-eqb (length c.places.rest.now) 0).1 e)) in
    let found = c.in-Some.ensures.place n.first (permit_strings n.more) n.is n.bytes in
    let holds = (c.stands_for.ensures n.first found.0 found.1).0 c.if-stands_for.true in
    ((λ e. n.same.1 (here (IsFor c.args.way c.args.host.now c.args.port) n.first n.more holds)), (λ any. refl))

pub places-preserved : goal.places-preserved
places-preserved c = λ places each is.
    let so_far = c.places.invariant places each is in
    let n = next (IsFor c.args.way c.args.host.now c.args.port) places c.places.rest.now so_far.0 so_far.1 so_far.2 so_far.3 (λ e. cc (sym c.places-test.true ∙ c.is_empty.ensures ∙ (Decides-eqb (length c.places.rest.now) 0).1 e)) in
    let found = c.in-Some.ensures.place n.first (permit_strings n.more) n.is n.bytes in (
      n.more,
      n.each,
      sym found.2,
      (
        (λ any. not_here (IsFor c.args.way c.args.host.now c.args.port) n.first n.more (λ holds. cc (sym c.if-stands_for.false ∙ (c.stands_for.ensures n.first found.0 found.1).1 holds)) (n.same.0 any)),
        (λ any. n.same.1 (later (IsFor c.args.way c.args.host.now c.args.port) n.first n.more any)),
      ),
    )

pub returns : goal.returns
returns c = λ places each is.
    let so_far = c.places.invariant places each is in
    let empty : length c.places.rest.now ≡ 0 = (Decides-eqb (length c.places.rest.now) 0).0 (sym c.is_empty.ensures ∙ c.places-test.false) in
    let none = no_bytes so_far.0 (ap length (sym so_far.2) ∙ empty) in
    ((λ never. cc), (λ any. absurd (nowhere (IsFor c.args.way c.args.host.now c.args.port) (subst (Any (IsFor c.args.way c.args.host.now c.args.port)) none (so_far.3.0 any)))))
