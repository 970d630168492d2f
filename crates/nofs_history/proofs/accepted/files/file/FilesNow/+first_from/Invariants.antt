use Rattle.nofs_history.proofs.accepted.files.file.FilesNow.+first_from.Given as goal

-- proposed from what the function passes where it calls itself
abbrev pub decreases-first_from : goal.decreases-first_from
decreases-first_from l = l.count
