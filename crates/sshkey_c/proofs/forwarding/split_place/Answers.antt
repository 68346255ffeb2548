use Rattle.std.proofs.Common.{◌∙◌, sym}
use Rattle.sshkey_base.specs.Causes.{encoding_cause}
use Rattle.sshkey_terms.proofs.SliceFronts.{answers_err, answers_ok}
use Rattle.sshkey_c.proofs.Places.{none_some, port_fits, shorter, some_is, string_taken, string_there, text_taken}
use Rattle.sshkey_c.specs.Grants.{port_bytes}
use Rattle.sshkey_c.proofs.forwarding.split_place.Goals as goal

pub returns-in_default-split_string-clause-place : goal.returns-in_default-split_string-clause-place
returns-in_default-split_string-clause-place c = λ p more place is.
    let host = text_taken _ _ _ is _ _ place.0 place.1 (answers_ok _ encoding_cause _ _ c.in-Ok.ensures.gives) in
    let no = answers_err _ encoding_cause _ _ c.in_default-split_string.ensures.gives in
    string_there c.in-Ok.rest.now (port_bytes p.port) more (sym host.1) no.0 (port_fits p.port) no.1

pub returns-in-Some-clause-place : goal.returns-in-Some-clause-place
returns-in-Some-clause-place c = λ p more place is.
    let host = text_taken _ _ _ is _ _ place.0 place.1 (answers_ok _ encoding_cause _ _ c.in-Ok.ensures.gives) in
    let port = string_taken c.in-Ok.rest.now (port_bytes p.port) more (sym host.1) _ _ (port_fits p.port) (answers_ok _ encoding_cause _ _ c.in-Ok-split_string.ensures.gives) in
    (host.0, some_is p.port c.in-Some.port (sym (c.port_in.ensures p.port place.2 (sym port.0)) ∙ c.in-Some.is), port.1)

pub returns-in-Some-clause-shorter : goal.returns-in-Some-clause-shorter
returns-in-Some-clause-shorter c = shorter c.args.bytes.now _ c.in-Ok.rest.now _ c.in-Ok-split_string.more.now c.in-Ok-split_string.port.now c.in-Ok.ensures.accepts.all c.in-Ok-split_string.ensures.accepts.all c.in-Ok-split_string.ensures.accepts.spelled.shape

pub returns-in-None-clause-place : goal.returns-in-None-clause-place
returns-in-None-clause-place c = λ p more place is.
    let host = text_taken _ _ _ is _ _ place.0 place.1 (answers_ok _ encoding_cause _ _ c.in-Ok.ensures.gives) in
    let port = string_taken c.in-Ok.rest.now (port_bytes p.port) more (sym host.1) _ _ (port_fits p.port) (answers_ok _ encoding_cause _ _ c.in-Ok-split_string.ensures.gives) in
    none_some p.port (sym c.in-None.is ∙ c.port_in.ensures p.port place.2 (sym port.0))
