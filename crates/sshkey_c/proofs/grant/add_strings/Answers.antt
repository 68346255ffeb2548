use Rattle.std.proofs.Common.{◌≡◌, arith, length, refl, rules}
use Rattle.sshkey_c.proofs.Grants.{all_added, counted, first_text, one_more, placed, spelled_text, spelled_texts}
use Rattle.sshkey_c.proofs.grant.add_strings.Goals as goal

pub loop-text-init : goal.loop-text-init
loop-text-init c = refl

pub loop-text-preserved : goal.loop-text-preserved
loop-text-preserved c = one_more spelled_texts spelled_text c.args.texts.now c.loop-text.text-index _ _ c.text-item.result _ (first_text c.args.texts.now c.loop-text.text-index c.text-item.result (omega arith) c.text-item.is) c.loop-text.invariant c.in_ok-add_encoded.ensures.added

pub overflow_sub-result : goal.overflow_sub-result
overflow_sub-result c =
    let here : c.len-start.result ≡ length c.args.content.now.items = search rules in
    let there : c.len.result ≡ length c.loop-text.content.items = search rules in
    let is = all_added spelled_texts spelled_text c.args.texts.now c.loop-text.text-index c.args.content.now.items c.loop-text.content.items refl (omega arith) c.loop-text.invariant in
    omega (arith, counted (spelled_texts c.args.texts.now) c.args.content.now.items c.loop-text.content.items is)

pub returns : goal.returns
returns c =
    let here : c.len-start.result ≡ length c.args.content.now.items = search rules in
    let there : c.len.result ≡ length c.loop-text.content.items = search rules in
    let is = all_added spelled_texts spelled_text c.args.texts.now c.loop-text.text-index c.args.content.now.items c.loop-text.content.items refl (omega arith) c.loop-text.invariant in
    placed (spelled_texts c.args.texts.now) c.args.content.now.items c.loop-text.content.items _ is here (omega (arith, counted (spelled_texts c.args.texts.now) c.args.content.now.items c.loop-text.content.items is))
