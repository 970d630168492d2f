use Rattle.nofs_history.proofs.accepted.files.file.FilesNow.+empty_from.Given as goal

-- proposed from what the function passes where it calls itself
abbrev pub decreases-empty_from : goal.decreases-empty_from
decreases-empty_from l = l.count
