use Rattle.std.proofs.Common.{◌≡◌, arith, length, refl, rules}
use Rattle.sshkey_c.proofs.Grants.{all_added, counted, first_permit, both_added, one_more, placed, spelled_permit, spelled_permits}
use Rattle.sshkey_c.proofs.grant.add_permits.Goals as goal

pub loop-permit-init : goal.loop-permit-init
loop-permit-init c = refl

pub loop-permit-preserved : goal.loop-permit-preserved
loop-permit-preserved c = one_more spelled_permits spelled_permit c.args.permits.now c.loop-permit.permit-index _ _ c.permit-item.result _ (first_permit c.args.permits.now c.loop-permit.permit-index c.permit-item.result (omega arith) c.permit-item.is) c.loop-permit.invariant (both_added c.permit-item.result _ _ _ c.in_ok-add_encoded.ensures.added c.in_ok-add_port.ensures)

pub overflow_sub-result : goal.overflow_sub-result
overflow_sub-result c =
    let here : c.len-start.result ≡ length c.args.content.now.items = search rules in
    let there : c.len.result ≡ length c.loop-permit.content.items = search rules in
    let is = all_added spelled_permits spelled_permit c.args.permits.now c.loop-permit.permit-index c.args.content.now.items c.loop-permit.content.items refl (omega arith) c.loop-permit.invariant in
    omega (arith, counted (spelled_permits c.args.permits.now) c.args.content.now.items c.loop-permit.content.items is)

pub returns : goal.returns
returns c =
    let here : c.len-start.result ≡ length c.args.content.now.items = search rules in
    let there : c.len.result ≡ length c.loop-permit.content.items = search rules in
    let is = all_added spelled_permits spelled_permit c.args.permits.now c.loop-permit.permit-index c.args.content.now.items c.loop-permit.content.items refl (omega arith) c.loop-permit.invariant in
    placed (spelled_permits c.args.permits.now) c.args.content.now.items c.loop-permit.content.items _ is here (omega (arith, counted (spelled_permits c.args.permits.now) c.args.content.now.items c.loop-permit.content.items is))
