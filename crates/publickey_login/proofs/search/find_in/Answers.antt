use Rattle.std.proofs.Common.{◌+◌, List, [], None, Ok, Some, Option, ap, drop, map, subst, sym, ◌∙◌}
use Rattle.std.proofs.lemmas.Result.{err_from_is_err_and}
use Rattle.publickey_login.proofs.Searches.{AreLeft, RefusesSoFar, after_none, after_refused, all_left, at_end, at_refused, found_here, left_at, none_left, none_passes, none_so_far, nothing_left, one_less, refused_ends, refused_here, refused_passes, unread_here, untold_here}
use Rattle.publickey_login.specs.Sources.{Text}
use Rattle.publickey_login.specs.Results.{SearchesText, asked_of}
use Rattle.publickey_login.specs.Stops.{RefusesFirst}
use Rattle.publickey_login.specs.Values.{found_of, sought_of, text_of}
use Rattle.publickey_login.specs.declared.grant.Source.{Source}
use Rattle.publickey_login.specs.declared.refusal.PublickeyRefusal.TheVariants as refusal
use Rattle.publickey_login.specs.declared.search.LineRefusal.{LineRefusal}
use Rattle.publickey_login.specs.declared.search.TextVerdict.{TextVerdict}
use Rattle.publickey_login.specs.declared.trusted.Text.TheVariants as texts
use Rattle.publickey_login.proofs.search.find_in.Goals as goal
use Rattle.publickey_login.proofs.search.find_in.Goals.{in-Passes, in-Refuses+else-decides_alone}

pub loop-number-init : goal.loop-number-init
loop-number-init c =
    let xs = map text_of c.args.texts.now in
    record {
      left = all_left (asked_of c.args.login.now) (sought_of c.args.sought) xs;
      so_far = none_so_far (asked_of c.args.login.now) (sought_of c.args.sought) c.args.list xs;
    }

pub returns-in_err-line-in-Read : goal.returns-in_err-line-in-Read
returns-in_err-line-in-Read c =
    let u = asked_of c.args.login.now in
    let s = sought_of c.args.sought in
    let xs = c.args.texts.now in
    let k = c.loop-number.number in
    let left = subst (λ (rest : List Text). AreLeft u s (map text_of xs) rest k) (left_at xs k (texts.Read (record { ref_ptr = (0, 0); now = [] })) (texts.Read c.in-Read.text) c.loop-number-test.true c.in-Read.is) c.loop-number.invariant.left in
    let p = err_from_is_err_and c.from_residual.result c.from_residual.ensures.1 in
    rw (p.1, p.2) (λ other.
    let why = c.in_err-line-in-Read.ensures other in
    (k, Some why.0, untold_here u s (map text_of xs) c.in-Read.text.now (map text_of (drop (k + 1) xs)) k why.0 left why.1, why.2 ∙ ap (λ (o : Source). refusal.Unclear o why.0) c.source-source.ensures))

pub returns-in-Lets : goal.returns-in-Lets
returns-in-Lets c =
    let u = asked_of c.args.login.now in
    let s = sought_of c.args.sought in
    let xs = c.args.texts.now in
    let k = c.loop-number.number in
    let left = subst (λ (rest : List Text). AreLeft u s (map text_of xs) rest k) (left_at xs k (texts.Read (record { ref_ptr = (0, 0); now = [] })) (texts.Read c.in-Read.text) c.loop-number-test.true c.in-Read.is) c.loop-number.invariant.left in
    let says = subst (λ (v : TextVerdict). SearchesText u s c.source-source.result c.in-Read.text.now (Ok v)) c.in-Lets.is c.in_ok-line-in-Read.ensures in
    (k, c.source-source.ensures, found_here u s (map text_of xs) c.in-Read.text.now (map text_of (drop (k + 1) xs)) k (found_of c.in-Lets.line) left says)

pub returns-then-decides_alone : goal.returns-then-decides_alone
returns-then-decides_alone c =
    let u = asked_of c.args.login.now in
    let s = sought_of c.args.sought in
    let xs = c.args.texts.now in
    let k = c.loop-number.number in
    let rest = map text_of (drop (k + 1) xs) in
    let here = left_at xs k (texts.Read (record { ref_ptr = (0, 0); now = [] })) (texts.Read c.in-Read.text) c.loop-number-test.true c.in-Read.is in
    let left = subst (λ (all : List Text). AreLeft u s (map text_of xs) all k) here c.loop-number.invariant.left in
    let so_far = subst (λ (all : List Text). RefusesSoFar u s c.args.list (map text_of xs) all k c.loop-number.first) here c.loop-number.invariant.so_far in
    let says = subst (λ (v : TextVerdict). SearchesText u s c.source-source.result c.in-Read.text.now (Ok v)) c.in-Refuses.is c.in_ok-line-in-Read.ensures in
    let ends = refused_ends u s c.in-Read.text.now c.in-Refuses.refused.line c.in-Refuses.refused.reason (sym c.decides_alone.ensures ∙ c.if-decides_alone.true) says.1 in (
      refused_here u s (map text_of xs) c.in-Read.text.now rest k left ends,
      subst (λ (first : Option LineRefusal). RefusesFirst u s c.args.list (map text_of xs) first) (sym c.or-first.ensures) (at_refused u s c.args.list (map text_of xs) c.in-Read.text.now rest k c.loop-number.first c.in-Refuses.refused (says.0 ∙ c.source-source.ensures) says.1 so_far),
    )

pub returns-in-Unreadable : goal.returns-in-Unreadable
returns-in-Unreadable c = λ other.
    let u = asked_of c.args.login.now in
    let s = sought_of c.args.sought in
    let xs = c.args.texts.now in
    let k = c.loop-number.number in
    let left = subst (λ (rest : List Text). AreLeft u s (map text_of xs) rest k) (left_at xs k (texts.Read (record { ref_ptr = (0, 0); now = [] })) texts.Unreadable c.loop-number-test.true c.in-Unreadable.is) c.loop-number.invariant.left in
    (k, None, unread_here u s (map text_of xs) (map text_of (drop (k + 1) xs)) k left, ap (λ (o : Source). refusal.Unreadable o) c.source-source.ensures)

pub loop-number-preserved : goal.loop-number-preserved
loop-number-preserved c =
    let u = asked_of c.args.login.now in
    let s = sought_of c.args.sought in
    let xs = c.args.texts.now in
    let k = c.loop-number.number in
    let text = c.in-Read.text.now in
    let rest = map text_of (drop (k + 1) xs) in
    let here = left_at xs k (texts.Read (record { ref_ptr = (0, 0); now = [] })) (texts.Read c.in-Read.text) c.loop-number-test.true c.in-Read.is in
    let left = subst (λ (all : List Text). AreLeft u s (map text_of xs) all k) here c.loop-number.invariant.left in
    let so_far = subst (λ (all : List Text). RefusesSoFar u s c.args.list (map text_of xs) all k c.loop-number.first) here c.loop-number.invariant.so_far in
    elim c.match-branch-2.branch [
      | in-Refuses+else-decides_alone w ↦ (
          let says = subst (λ (v : TextVerdict). SearchesText u s c.source-source.result text (Ok v)) w.in-Refuses.is c.in_ok-line-in-Read.ensures in
          let passes = refused_passes u s text w.in-Refuses.refused.line w.in-Refuses.refused.reason (sym w.decides_alone.ensures ∙ w.if-decides_alone.false) says.1 in
          let after = after_refused u s c.args.list (map text_of xs) text rest k c.loop-number.first w.in-Refuses.refused (says.0 ∙ c.source-source.ensures) says.1 so_far in
          record {
            left = one_less u s (map text_of xs) text rest k passes left;
            so_far = subst (λ (first : Option LineRefusal). RefusesSoFar u s c.args.list (map text_of xs) rest (k + 1) first) (sym (w.first-is ∙ w.or-first.ensures)) after;
          })
      | in-Passes w ↦ (
          let says = subst (λ (v : TextVerdict). SearchesText u s c.source-source.result text (Ok v)) w.in-Passes.is c.in_ok-line-in-Read.ensures in
          record {
            left = one_less u s (map text_of xs) text rest k (none_passes u s text says) left;
            so_far = subst (λ (first : Option LineRefusal). RefusesSoFar u s c.args.list (map text_of xs) rest (k + 1) first) (sym w.first-is) (after_none u s c.args.list (map text_of xs) text rest k c.loop-number.first says so_far);
          })
    ]

pub returns : goal.returns
returns c =
    let u = asked_of c.args.login.now in
    let s = sought_of c.args.sought in
    let xs = c.args.texts.now in
    let k = c.loop-number.number in
    let none = nothing_left xs k c.loop-number-test.false in (
      none_left u s (map text_of xs) k (subst (λ (rest : List Text). AreLeft u s (map text_of xs) rest k) none c.loop-number.invariant.left),
      at_end u s c.args.list (map text_of xs) k c.loop-number.first (subst (λ (rest : List Text). RefusesSoFar u s c.args.list (map text_of xs) rest k c.loop-number.first) none c.loop-number.invariant.so_far),
    )
