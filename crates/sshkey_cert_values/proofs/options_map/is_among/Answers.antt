use Rattle.std.proofs.Common.{◌∙◌, bytes_eq, rules, sym, tests}
use Rattle.std.proofs.lemmas.Iterator.{YieldsList-from_slice}
use Rattle.std.proofs.lemmas.Iterator.Search.{any_from_yields_List}
use Rattle.sshkey_cert_values.proofs.OptionsAmong.{among_texts}
use Rattle.sshkey_cert_values.proofs.options_map.is_among.Goals as goal

pub returns : goal.returns
returns c =
    any_from_yields_List (λ known. bytes_eq c.args.name.now known.now) _ _ _ c.any.ensures.ran
    (YieldsList-from_slice c.args.names.now cc) (λ x b q k. search (rules, tests)) ∙ sym (among_texts c.args.names.now c.args.name.now)
