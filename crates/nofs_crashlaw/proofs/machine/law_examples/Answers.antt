use Rattle.nofs_crashlaw.proofs.OnMachine.Examples.{all-shown, failed-read, failed-flush, given-to-slot}
use Rattle.nofs_crashlaw.proofs.machine.law_examples.Goals as goal

pub returns-clause-names : goal.returns-clause-names
returns-clause-names c = all-shown.0

pub returns-clause-new_names : goal.returns-clause-new_names
returns-clause-new_names c = all-shown.1

pub returns-clause-contents : goal.returns-clause-contents
returns-clause-contents c = all-shown.2

pub returns-clause-large_files : goal.returns-clause-large_files
returns-clause-large_files c = all-shown.3

pub returns-clause-elements : goal.returns-clause-elements
returns-clause-elements c = all-shown.4

pub returns-clause-failed_read : goal.returns-clause-failed_read
returns-clause-failed_read c = failed-read

pub returns-clause-failed_flush : goal.returns-clause-failed_flush
returns-clause-failed_flush c = failed-flush

pub returns-clause-given : goal.returns-clause-given
returns-clause-given c = given-to-slot
