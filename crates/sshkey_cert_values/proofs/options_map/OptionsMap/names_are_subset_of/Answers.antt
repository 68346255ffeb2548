use Rattle.std.proofs.Common.{◌≡◌, ◌∙◌, true, false, refl, rules}
use Rattle.std.specs.List.{list_all}
use Rattle.sshkey_cert_values.specs.CertificateFields.{is_among, options_of}
use Rattle.sshkey_cert_values.proofs.OptionsAmong.{all_among}
use Rattle.sshkey_cert_values.proofs.options_map.OptionsMap.names_are_subset_of.Goals as goal

pub returns : goal.returns
returns c =
    let each : list_all (λ o. is_among c.args.names.now o.name) (options_of c.args.self.now) ≡ true = c.loop-name.invariant ∙ rw c.in-None.ensures.steps.0 refl in
    (λ yes. (all_among _ _).0 each, λ all. refl)

pub returns-then-not-is_among : goal.returns-then-not-is_among
returns-then-not-is_among c =
    let one : list_all (λ o. is_among c.args.names.now o.name) (options_of c.args.self.now) ≡ false = search rules in
    (λ yes. absurd cc, λ all. let each : list_all (λ o. is_among c.args.names.now o.name) (options_of c.args.self.now) ≡ true = (all_among _ _).1 all in absurd cc)
