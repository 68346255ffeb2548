use Rattle.std.specs.Prelude.{option_map, string_bytes}
use Rattle.sshkey_entries.proofs.OptionItems.{by_word}
use Rattle.login_terms.specs.Options.{AddsWord, MayBeWord, terms_of, words}
use Rattle.login_terms.proofs.options.TermsAddOptions.with.Goals as goal

pub returns-in-Some : goal.returns-in-Some
returns-in-Some c =
    let value = option_map string_bytes c.args.value in
    by_word terms_of (λ w. AddsWord w value (terms_of c.args.self)) (λ w. MayBeWord w value) words c.args.name.now c.in-Some.word c.in-Some.ensures c.with_word.result c.with_word.ensures

pub returns-in-None : goal.returns-in-None
returns-in-None c = ((λ t a. c.in-None.ensures a.0 a.1), λ m. c.in-None.ensures m.0 m.1)
