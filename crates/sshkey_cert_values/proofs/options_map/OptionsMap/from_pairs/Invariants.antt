use Rattle.std.proofs.Common.{◌≡◌, map, []}
use Rattle.std.specs.Vec.Iter.{into_iter_items}
use Rattle.sshkey_model.specs.OptionMaps.{with_options}
use Rattle.sshkey_cert_values.specs.CertificateFields.{option_of, options_of}
use Rattle.sshkey_cert_values.proofs.options_map.OptionsMap.from_pairs.Given as goal

abbrev pub invariant-loop-name : goal.invariant-loop-name
invariant-loop-name l = with_options (map option_of (into_iter_items l.name-iterator)) (options_of l.options) ≡ with_options (map option_of l.fn.pairs.items) []
