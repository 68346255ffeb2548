use Rattle.sshkey_tool.specs.declared.command.Command.TheVariants as commands
use Rattle.sshkey_tool.proofs.Outcomes.{text_of_input, unread_runs, line_runs, file_runs}
use Rattle.sshkey_tool.proofs.program.run.Goals as goal

pub returns-in-Err-clause-runs : goal.returns-in-Err-clause-runs
returns-in-Err-clause-runs g c = unread_runs _ c.in-Some.command _ _ _ c.refuse.result c.in-Err.error c.in-Some.ensures c.in-Err.ensures.text c.refuse.ensures

pub returns-in-Key-clause-runs : goal.returns-in-Key-clause-runs
returns-in-Key-clause-runs g c = line_runs _ (commands.Key c.in-Key.command) _ _ _ c.answer.result c.deref.result.now c.shown_of_key_line-outcome.result
    (rw c.in-Key.is at c.in-Some.ensures) (text_of_input _ c.deref.result.now c.deref.utf8 (rw c.deref.ensures c.in-Ok.ensures.text)) c.shown_of_key_line-outcome.ensures c.answer.ensures

pub returns-in-Certificate-clause-runs : goal.returns-in-Certificate-clause-runs
returns-in-Certificate-clause-runs g c = line_runs _ (commands.Certificate c.in-Certificate.wanted) _ _ _ c.answer-in-Certificate.result c.deref-in-Certificate.result.now c.shown_of_certificate_line-outcome.result
    (rw c.in-Certificate.is at c.in-Some.ensures) (text_of_input _ c.deref-in-Certificate.result.now c.deref-in-Certificate.utf8 (rw c.deref-in-Certificate.ensures c.in-Ok.ensures.text)) c.shown_of_certificate_line-outcome.ensures c.answer-in-Certificate.ensures

pub returns-clause-runs : goal.returns-clause-runs
returns-clause-runs g c = file_runs _ c.in-Entries.file _ _ _ c.write_entries.result c.deref-in-Entries.result.now
    (rw c.in-Entries.is at c.in-Some.ensures) (text_of_input _ c.deref-in-Entries.result.now c.deref-in-Entries.utf8 (rw c.deref-in-Entries.ensures c.in-Ok.ensures.text)) c.write_entries.ensures
