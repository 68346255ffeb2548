use Rattle.std.proofs.Common.{◌≡◌, length, true}
use Rattle.sshkey_model.specs.OptionMaps.{value_of}
use Rattle.sshkey_model.specs.Options.{option_at}
use Rattle.sshkey_model.specs.Reading.{list_whole}
use Rattle.sshkey_cert_ref.specs.Lists.{options_in}
use Rattle.sshkey_terms.specs.Slices.{is_taken}
use Rattle.sshkey_cert_ref.proofs.certificate_options_ref.find_value.Given as goal

abbrev pub invariant-options : goal.invariant-options
invariant-options l = (is_taken (list_whole option_at l.rest) ≡ true) × (value_of l.fn.name (options_in l.fn.options) ≡ value_of l.fn.name (options_in l.rest))

abbrev pub decreases-options : goal.decreases-options
decreases-options l = length l.rest
