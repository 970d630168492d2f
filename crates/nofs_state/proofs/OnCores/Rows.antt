-- What a mount stands on looks at the start of its history alone.
use Rattle.std.proofs.Common.{◌≡◌, ℕ, List, refl, sym, ap, ◌∙◌, subst}
use Rattle.nofs_disk.specs.Disk.{DiskState}
use Rattle.nofs_history.specs.HistoryState.{HistoryState}
use Rattle.nofs_history.specs.World.{World, world_of}
use Rattle.nofs_history.specs.Next.{Run}
use Rattle.nofs_history.specs.Claims.{next_stamp}
use Rattle.nofs_history.specs.declared.machine.history.Entry1.{Entry1}
use Rattle.nofs_crashlaw.specs.Histories.Stage.{Lasts, Stage}
use Rattle.nofs_state.specs.Books.Maps.{Says, with_history}
use Rattle.nofs_state.specs.Cores.Invariant.{IsOpen, IsRun, IsStopped, Past, ends_at}
use Rattle.nofs_state.specs.declared.books.maps.Books.{Books}
use Rattle.nofs_state.proofs.OnBooks.Worlds.{says-maps}

module _ (d : DiskState) (k : Books) (h : HistoryState) (start : h.start ≡ k.history.start) where
  run-with : (H : List Entry1) (p : Past) → IsRun d k H p → IsRun d (with_history k h) H p
  run-with H p r = record {
    run = subst (λ (n : ℕ). Run n (world_of p.base p.first) H p.world) (sym start) r.run;
    ends = ap (λ (n : ℕ). ends_at n H) start ∙ r.ends;
  }

  says-with : (W : World) → Says k W → Says (with_history k h) W
  says-with W s = says-maps k (with_history k h) W W.known_inodes W.known_blocks s
      (record { at = refl; serial = refl; stopped = refl })
      s.known_inodes s.known_blocks s.free_inodes s.free_blocks s.agreement

  pub open-with : (H : List Entry1) (p : Past) → IsOpen d k H p → IsOpen d (with_history k h) H p
  open-with H p o = record {
    run = run-with H p o.run;
    going = o.going;
    says = says-with p.world o.says;
    at = o.at;
    mountable = o.mountable;
    files = o.files;
    homes = o.homes;
    homes_past = o.homes_past;
    stage = subst (λ (n : ℕ). Stage p.base H p.mark p.stamps n (next_stamp p.world) d) (sym start) o.stage;
    older = o.older;
    rest = o.rest;
    no_fault = o.no_fault;
  }

  pub stopped-with : (H : List Entry1) (p : Past) → IsStopped d k H p → IsStopped d (with_history k h) H p
  stopped-with H p o = record {
    run = run-with H p o.run;
    stopped = o.stopped;
    world_stopped = o.world_stopped;
    lasts = subst (λ (n : ℕ). Lasts p.base H p.mark p.stamps n d) (sym start) o.lasts;
  }
