use Rattle.nofs_history.proofs.accepted.files.file.FilesNow.+hole_from.Given as goal

-- proposed from what the function passes where it calls itself
abbrev pub decreases-hole_from : goal.decreases-hole_from
decreases-hole_from l = l.count
