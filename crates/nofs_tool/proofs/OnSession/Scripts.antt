-- What a serving leaves follows the scripts, also where nobody was served.
use Rattle.std.proofs.Common.{◌≡◌, inl, ℕ, Bool, true, false, List, [], Option, None, refl, sym, subst}
use Rattle.nofs_super.specs.declared.superblock.SuperBlock.{SuperBlock}
use Rattle.nofs_history.specs.declared.machine.history.Entry1.{Entry1}
use Rattle.nofs_history.specs.declared.machine.replies.Reply.TheVariants as reply
use Rattle.nofs_history.specs.declared.machine.replies.Refusal.TheVariants as refusal
use Rattle.nofs_client.specs.declared.task.commands.Command.{Command}
use Rattle.nofs_client.specs.declared.task.lines.Line.{Line}
use Rattle.nofs_serve.proofs.OnSession.{team-unserved}
use Rattle.nofs_tool.specs.Session.Serve.{IsFollowed, IsSessionRun}
use Rattle.nofs_tool.proofs.OnSession.Serve.{not-flushed, run-closed}

-- nobody was served, and nothing said
pub unserved-follows : (scripts : List (List Command)) (at : SuperBlock) (text : Option (List ℕ)) (H : List Entry1)
    → H ≡ [] → text ≡ None
    → IsFollowed scripts at text H
unserved-follows scripts at text H none said = record {
  short = true;
  early = λ e. said;
  follows = (
    [],
    run-closed scripts at.inodes at.blocks true false [] [] [] H (reply.Refused refusal.OutOfMemory) refl
        (team-unserved scripts at.inodes at.blocks true [] [] [] refl refl) (inl refl)
        (not-flushed [] H none) refl,
  );
}

-- a team was served, and where memory was wanting nothing said
pub served-follows : (session scripts : List (List Command)) (at : SuperBlock) (out : Bool) (lines : List (List Line))
    (all H : List Entry1)
    (text : Option (List ℕ)) → scripts ≡ session → H ≡ all → (out ≡ true → text ≡ None)
    → IsSessionRun scripts at.inodes at.blocks out lines all
    → IsFollowed session at text H
served-follows session scripts at out lines all H text same is said run =
    let named : IsSessionRun session at.inodes at.blocks out lines all =
    subst (λ (s : List (List Command)). IsSessionRun s at.inodes at.blocks out lines all) same run in
    record {
      short = out;
      early = said;
      follows =
          (lines, subst (λ (h : List Entry1). IsSessionRun session at.inodes at.blocks out lines h) (sym is) named);
    }
