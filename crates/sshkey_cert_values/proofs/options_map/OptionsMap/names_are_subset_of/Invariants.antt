use Rattle.std.proofs.Common.{◌≡◌, map}
use Rattle.std.specs.List.{list_all}
use Rattle.sshkey_cert_values.specs.CertificateFields.{is_among, option_of, options_of}
use Rattle.sshkey_cert_values.proofs.options_map.OptionsMap.names_are_subset_of.Given as goal

-- the rest decides
abbrev pub invariant-loop-name : goal.invariant-loop-name
invariant-loop-name l = list_all (λ o. is_among l.fn.names o.name) (options_of l.fn.self) ≡ list_all (λ o. is_among l.fn.names o.name) (map option_of l.name-iterator)
